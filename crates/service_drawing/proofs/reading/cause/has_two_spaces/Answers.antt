use Rattle.std.proofs.Common.{rules}
use Rattle.service_drawing.proofs.Spaces.{first_two}
use Rattle.service_drawing.proofs.reading.cause.has_two_spaces.Goals as goal

pub returns-in-Some : goal.returns-in-Some
returns-in-Some c =
    first_two c.args.line.now c.in-Some.at c.spaces.result c.words_behind.result
    c.in-Some.ensures.there c.in-Some.ensures.first (search rules) (search rules)
