use Rattle.std.proofs.Common.{inl, inr, rules}
use Rattle.history_drawing.proofs.drawing.answered_at.Goals as goal

pub returns-in_default-clause-none : goal.returns-in_default-clause-none
returns-in_default-clause-none c = inl (rw c.in_default.is at c.in_ok-call.ensures.none)

pub returns-clause-none : goal.returns-clause-none
returns-clause-none c =
    let begins = rw c.in-Some.is at c.in_ok-call.ensures.some in
    inr (c.in-Some.call, begins, c.is_answered.ensures.no (search rules))
