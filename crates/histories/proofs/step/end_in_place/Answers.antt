use Rattle.histories.proofs.Words.{List, inr, AllPairs, Config, IsSame, IsClosed}
use Rattle.histories.proofs.Lists.{put_back}
use Rattle.histories.proofs.step.end_in_place.Goals as goal

pub returns : goal.returns
returns g c =
    let front = c.args.front.now in
    let configs = front.configs.items in
    let slots = front.slots.items in
    let closed : List (Config g.row.M-State.Denot) = c.close_in_place.new.configs in
    let laid = c.in_ok-done.ensures in
    let is : AllPairs (λ a b. ¬ (IsSame a b)) configs
    → IsClosed (g.M.Machine.Step c.args.machine.now) slots configs c.args.slot closed =
    rw c.if-not-branch.false at (rw c.deref.ensures.value at (rw c.deref_mut.ensures.value at
    c.in_ok-close_in_place.ensures)) in (
      closed,
      is,
      (
        rw laid.0 c.free.ensures,
        inr (rw (put_back closed configs front.configs.len
            (rw c.deref_mut.ensures.value at c.close_in_place.auto.configs)
            front.configs.ok.0) at laid.1),
      ),
    )
