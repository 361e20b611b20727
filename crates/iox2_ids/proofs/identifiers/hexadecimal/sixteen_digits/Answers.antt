use Rattle.std.proofs.Common.{refl, arith, ◌≡◌}
use Rattle.std.proofs.Math.ListN.{length-set}
use Rattle.iox2_ids.proofs.Hex.{byte_none, byte_more}
use Rattle.iox2_ids.proofs.identifiers.hexadecimal.sixteen_digits.Goals as goal

pub loop-i-init : goal.loop-i-init
loop-i-init c = record { len = refl; same = λ n from. byte_none n }

pub loop-i-preserved : goal.loop-i-preserved
loop-i-preserved c = grind (arith, length-set, byte_more)

pub returns : goal.returns
returns c n from =
    let whole : c.loop-i.i ≡ 8 = omega arith in
    rw whole at (c.loop-i.invariant.same n from)
