use Rattle.std.proofs.Common.{◌≡◌, ◌+◌, ◌≤◌, drop}
use Rattle.toml_positions.specs.Position.{column_after}
use Rattle.toml_positions.proofs.position.column_after.Given as goal

abbrev pub invariant-loop-at : goal.invariant-loop-at
invariant-loop-at l = record {
  rest : column_after l.column (drop l.at l.bytes) ≡ column_after 1 l.bytes;
  few : l.column ≤ l.at + 1;
}
