use Rattle.std.proofs.Common.{[], sym, ◌∙◌, refl}
use Rattle.service_descriptions.proofs.Names.{append-nil, line_of}
use Rattle.service_descriptions.proofs.replay.lines.line.read_line.Goals as goal

pub returns-in-None : goal.returns-in-None
returns-in-None c a fits e =
    (rw c.in-None.is at c.in_ok-command.ensures) (a, []) (fits, refl)
    (e ∙ sym (append-nil (line_of a)))
