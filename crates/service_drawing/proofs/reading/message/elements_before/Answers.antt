use Rattle.std.proofs.Common.{◌++◌, ◌<◌, ◌^◌, codes, rules}
use Rattle.std.specs.Fmt.{decimal}
use Rattle.service_drawing.proofs.Words.{no_line}
use Rattle.service_drawing.proofs.reading.message.elements_before.Goals as goal

pub returns-in-None : goal.returns-in-None
returns-in-None c =
    let expected = c.prefixed-expected.ensures in
    let none = no_line (c.args.prefix.now ++ codes "elements ") (λ n. n < 2 ^ 64) decimal
    c.in-Some.text.now c.in-Some.rest.now c.args.bytes.now (search rules) c.in-None.ensures in
    rw c.in-Dynamic.is ((expected.rest, none), expected.reason)
