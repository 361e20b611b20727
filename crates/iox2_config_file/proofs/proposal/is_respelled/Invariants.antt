use Rattle.std.proofs.Common.{◌≡◌, length}
use Rattle.std.specs.Prelude.{bytes_eq}
use Rattle.iox2_config_file.specs.Unknown.{spelling}
use Rattle.iox2_config_file.proofs.proposal.is_respelled.Given as goal

abbrev pub invariant-loop-letter : goal.invariant-loop-letter
invariant-loop-letter l =
    bytes_eq (spelling l.left) (spelling l.right) ≡ bytes_eq (spelling l.key) (spelling l.known)

abbrev pub decreases-loop-letter : goal.decreases-loop-letter
decreases-loop-letter l = length l.left
