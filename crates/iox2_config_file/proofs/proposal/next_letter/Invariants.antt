use Rattle.std.proofs.Common.{◌≡◌, ◌≤◌, length}
use Rattle.iox2_config_file.specs.Unknown.{spelling}
use Rattle.iox2_config_file.proofs.proposal.next_letter.Given as goal

abbrev pub invariant-loop-byte : goal.invariant-loop-byte
invariant-loop-byte l = (spelling l.rest ≡ spelling l.key) × (length l.rest ≤ length l.key)

abbrev pub decreases-loop-byte : goal.decreases-loop-byte
decreases-loop-byte l = length l.rest
