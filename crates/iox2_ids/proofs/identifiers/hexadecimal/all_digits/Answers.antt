use Rattle.std.proofs.Common.{arith}
use Rattle.iox2_ids.proofs.Hex.{halves}
use Rattle.iox2_ids.proofs.identifiers.hexadecimal.all_digits.Goals as goal

pub returns : goal.returns
returns c =
    halves c.args.value c.sixteen_digits.result c.sixteen_digits-2.result c.joined.result
    (omega arith)
    (c.sixteen_digits.ensures _ c.to_le_bytes.ensures)
    (c.sixteen_digits-2.ensures _ c.to_le_bytes-2.ensures) c.joined.ensures
