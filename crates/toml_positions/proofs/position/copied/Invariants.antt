use Rattle.std.proofs.Common.{◌≡◌, ◌++◌, drop}
use Rattle.toml_parser.specs.Reading.{path_view as keys_view}
use Rattle.toml_positions.proofs.position.copied.Given as goal

abbrev pub invariant-loop-key : goal.invariant-loop-key
invariant-loop-key l =
    keys_view l.copy.items ++ keys_view (drop l.key-index l.keys) ≡ keys_view l.keys
