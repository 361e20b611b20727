use Rattle.histories.proofs.Words.{arith, refl}
use Rattle.histories.proofs.Verdicts.{history_front, not_refused, open_front}
use Rattle.histories.proofs.window.refused.Goals as goal

pub unreachable-requires : goal.unreachable-requires
unreachable-requires g c =
    let arm = c.in-Err-default-Refused in
    not_refused _ _ _ (history_front _ _ c.requires.history) _ c.requires.stop.before
    (rw arm.field-0-1-is at (rw arm.is at c.in_ok-window.ensures.stop))

pub returns-in-Ok-clause-verdict : goal.returns-in-Ok-clause-verdict
returns-in-Ok-clause-verdict g c = (
  c.requires.stop,
  rw c.in-Ok.is at c.in_ok-window.ensures.all,
  rw c.in-Ok.is at (c.in_ok-window.ensures.latest refl),
)

pub returns-in-Err-default-ManyOpen-clause-verdict :
    goal.returns-in-Err-default-ManyOpen-clause-verdict
returns-in-Err-default-ManyOpen-clause-verdict g c =
    let arm = c.in-Err-default-ManyOpen in
    open_front _ _ _ _ _ (omega (arith, c.requires.stop.within))
    (rw arm.field-0-1-is at (rw arm.is at c.in_ok-window.ensures.stop))
