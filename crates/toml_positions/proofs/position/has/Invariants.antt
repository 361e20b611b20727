use Rattle.std.proofs.Common.{◌≡◌, ◌++◌, ◌∷◌, [], Some, drop, map}
use Rattle.toml.specs.Data.{table}
use Rattle.toml.specs.View.{table_view}
use Rattle.toml_positions.specs.Written.{path_view, value_at}
use Rattle.toml_positions.proofs.position.has.Given as goal

abbrev pub invariant-loop-key : goal.invariant-loop-key
invariant-loop-key l =
    value_at (map (λ k. k.now) (drop l.key-index l.path.table.now) ++ l.path.key.now ∷ [])
    (Some (table (table_view l.table)))
    ≡ value_at (path_view l.path) (Some (table (table_view l.file)))
