use Rattle.std.proofs.Common.{◌≡◌, ℕ, ◌+◌, ◌*◌, ◌<◌, ◌≤◌, length}
use denote.Text.{Utf8}
use denote.Shadow.{shadow}
use Rattle.toml_positions.specs.Reading.{past_elements, past_value}
use Rattle.toml_positions.proofs.expression.+value.Given as goal

abbrev pub decreases-after_elements : goal.decreases-after_elements
decreases-after_elements l = 3 * l.depth + 3

abbrev pub decreases-after_one : goal.decreases-after_one
decreases-after_one l = 3 * l.depth + 2

abbrev pub decreases-after_value : goal.decreases-after_value
decreases-after_value l = 3 * l.depth + 1

abbrev pub invariant-after_elements-elements : goal.invariant-after_elements-elements
invariant-after_elements-elements l =
    shadow (Utf8 l.rest) × (length l.rest ≤ length l.fn.s)
    × ((n : ℕ) → length l.fn.s < n → (m : ℕ) × (length l.rest < m)
    × (past_elements (past_value l.fn.depth) l.fn.closing m l.rest
    ≡ past_elements (past_value l.fn.depth) l.fn.closing n l.fn.s))

abbrev pub decreases-after_elements-elements : goal.decreases-after_elements-elements
decreases-after_elements-elements l = length l.rest
