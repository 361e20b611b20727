use Rattle.std.proofs.Common.{arith}
use Rattle.std.proofs.lemmas.Str.{IsAscii-drop}
use Rattle.iox2_ids.proofs.Hex.{written}
use Rattle.iox2_ids.proofs.identifiers.hexadecimal.Hexadecimal.new.Goals as goal

pub invariant_of-result : goal.invariant_of-result
invariant_of-result c =
    let all =
    written c.args.value c.min-start.result c.all_digits-digits.result
    (omega arith) c.all_digits-digits.ensures c.min-start.ensures in
    (omega (arith, all.0), IsAscii-drop _ _ all.1)

pub returns : goal.returns
returns c = grind (arith, written)
