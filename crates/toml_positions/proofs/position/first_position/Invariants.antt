use Rattle.std.proofs.Common.{◌≡◌, drop, map}
use Rattle.toml_positions.specs.Written.{first_position, path_view, written_view}
use Rattle.toml_positions.proofs.position.first_position.Given as goal

abbrev pub invariant-loop-written : goal.invariant-loop-written
invariant-loop-written l =
    first_position l.text (path_view l.path) (map written_view (drop l.written-index l.all))
    ≡ first_position l.text (path_view l.path) (map written_view l.all)
