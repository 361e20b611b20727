use Rattle.std.proofs.Common.{◌∙◌}
use Rattle.service_descriptions.proofs.Lines.{service_parts, service_fits, is_service_text}
use Rattle.service_descriptions.proofs.replay.lines.line.service_before.Goals as goal

pub returns-in_default : goal.returns-in_default
returns-in_default c a fits e =
    c.in_default.ensures.read (service_parts a.0, a.1) (service_fits a.0 a.1 fits)
    (e ∙ is_service_text a.0 a.1)
