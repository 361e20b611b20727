use Rattle.std.proofs.Common.{◌+◌, ◌≤◌, length}
use Rattle.service_descriptions.proofs.Scripts.{SoFar}
use Rattle.service_descriptions.proofs.replay.lines.script.run_lines.Given as goal

-- the lines so far, from the first state to the present one, and their replies; no line is empty
abbrev pub invariant-loop-rest : goal.invariant-loop-rest
invariant-loop-rest l =
    (l.count + length l.rest ≤ length l.lines)
    × SoFar l.fn.session l.lines l.rest l.fn.out.items l.out.items l.count l.session

abbrev pub decreases-loop-rest : goal.decreases-loop-rest
decreases-loop-rest l = length l.rest
