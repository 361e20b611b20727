use Rattle.std.proofs.Common.{◌≡◌, ◌++◌, ℕ, ◌≤◌, length, map, Some, IsSome}
use denote.Text.{Utf8}
use denote.Shadow.{shadow}
use Rattle.toml_parser.specs.Reading.{path_view as keys_view}
use Rattle.toml.specs.Tables.{Document}
use Rattle.toml.specs.Parse.{lines, parse_document}
use Rattle.toml_positions.specs.Written.{written_below, written_in, written_view}
use Rattle.toml_positions.proofs.position.written_in.Given as goal

abbrev pub invariant-expressions : goal.invariant-expressions
invariant-expressions l =
    shadow (Utf8 l.rest) × (length l.rest ≤ length l.fn.text)
    × (IsSome (parse_document l.fn.text) → (m : ℕ) × (doc : Document) × (final : Document)
    × (lines m doc l.rest ≡ Some final)
    × (map written_view l.all.items
    ++ written_below l.fn.text m (keys_view l.header.items) l.rest
    ≡ written_in l.fn.text))

abbrev pub decreases-expressions : goal.decreases-expressions
decreases-expressions l = length l.rest
