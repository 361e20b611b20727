use Rattle.std.proofs.Common.{◌++◌, rules}
use Rattle.service_drawing.specs.Lines.{IsFixed, type_text}
use Rattle.service_drawing.proofs.Words.{no_line}
use Rattle.service_drawing.proofs.reading.message.fixed_before.Goals as goal

pub returns-in-None : goal.returns-in-None
returns-in-None c =
    let expected = c.prefixed-expected.ensures in
    let none = no_line (c.args.prefix.now ++ c.args.word.now) IsFixed type_text c.in-Some.text.now
    c.in-Some.rest.now c.args.bytes.now (search rules)
    (λ t legal. c.in-None.ensures t legal.0 legal.1) in
    ((expected.rest, none), expected.reason)
