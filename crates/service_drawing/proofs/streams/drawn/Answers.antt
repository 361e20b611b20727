use Rattle.std.proofs.Common.{string_bytes}
use Rattle.service_drawing.proofs.Answered.{draws_no_more}
use Rattle.service_drawing.proofs.streams.drawn.Goals as goal

pub returns-in-Err : goal.returns-in-Err
returns-in-Err c =
    let over = c.in_ok-over.over in
    draws_no_more c.args.form over.base (string_bytes over.warnings) over.rest.now c.args.bytes.now
    c.in-Err.expected c.bad_line.result c.in_ok-over.ensures c.in-Err.ensures c.bad_line.ensures
