use Rattle.service_descriptions.proofs.Names.{three_fit, spelled_of}
use Rattle.service_descriptions.proofs.replay.lines.line.PortPhrase.read.Goals as goal

pub returns-in_default-clause-read : goal.returns-in_default-clause-read
returns-in_default-clause-read c a fits e =
    c.in_default.ensures.read (spelled_of a.0, a.1) (three_fit a.0 a.1 fits.0 fits.1) e
