use Rattle.std.proofs.Common.{take}
use Rattle.std.specs.Prelude.{IsTrue}
use Rattle.log_lines.specs.Lines.{are_letters}
use Rattle.log_lines.proofs.line.split_name.Given as goal

abbrev pub invariant-loop-at : goal.invariant-loop-at
invariant-loop-at l = IsTrue (are_letters (take l.at l.line))
