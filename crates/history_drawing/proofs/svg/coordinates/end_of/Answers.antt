use Rattle.std.proofs.Common.{ℕ, ◌+◌, ap}
use Rattle.history_drawing.proofs.svg.coordinates.end_of.Goals as goal

pub returns-in-Answered : goal.returns-in-Answered
returns-in-Answered c =
    rw c.in-Answered.is (ap (λ (n : ℕ). n + 114) c.left.ensures.value)
