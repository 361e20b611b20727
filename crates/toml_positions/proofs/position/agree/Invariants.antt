use Rattle.std.proofs.Common.{◌≡◌, drop}
use Rattle.toml_parser.specs.Reading.{path_view as keys_view}
use Rattle.toml_positions.specs.Written.{agree, path_view}
use Rattle.toml_positions.proofs.position.agree.Given as goal

abbrev pub invariant-loop-index : goal.invariant-loop-index
invariant-loop-index l =
    agree (keys_view (drop l.index l.keys)) (drop l.index (path_view l.path))
    ≡ agree (keys_view l.keys) (path_view l.path)
