use Rattle.std.proofs.Common.{rules}
use Rattle.service_drawing.proofs.Words.{line_one}
use Rattle.service_drawing.proofs.reading.service.service_before.Goals as goal

pub returns-in-Err-clause-spelled : goal.returns-in-Err-clause-spelled
returns-in-Err-clause-spelled c kind name rest h =
    c.in-Err.ensures.none kind name h.named
    (line_one c.in-Some.line.now _ c.in-Some.rest.now rest c.args.bytes.now (search rules) h.line).0
