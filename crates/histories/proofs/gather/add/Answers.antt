use Rattle.histories.proofs.Words.{List, subst, true, Config, IsKnown}
use Rattle.histories.proofs.Chains.{chained_push}
use Rattle.histories.proofs.Gathering.{gathers_known}
use Rattle.histories.proofs.gather.add.Goals as goal

pub invariant_of-gathered-2 : goal.invariant_of-gathered-2
invariant_of-gathered-2 g c =
    rw c.in_ok-push.ensures.items (chained_push g.M.Machine.hash _ _ _ _ c.gathered.invariant)

pub returns-then-is_known-clause-gathers : goal.returns-then-is_known-clause-gathers
returns-then-is_known-clause-gathers g c =
    gathers_known _ c.args.config
    (subst (λ (l : List (Config g.row.M-State.Denot)). IsKnown l c.args.config true)
    c.gathered.view_is (rw c.deref.ensures.value at (rw c.if-is_known.true at c.is_known.ensures)))
