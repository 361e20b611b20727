use Rattle.line_streams.proofs.Written.{ran_where_written}
use Rattle.line_streams.proofs.streams.run_filter.Goals as goal

pub returns-clause-ran : goal.returns-clause-ran
returns-clause-ran g c =
    ran_where_written _ _ _ _ _ _ _ _ _ _ c.in_ok-read_all.field-0 c.work-outcome.result
    c.write_outcome.result c.work-outcome.ensures c.in_ok-read_all.ensures.bytes
    c.in_ok-read_all.ensures.end c.write_outcome.ensures.status c.write_outcome.ensures.output
    c.write_outcome.ensures.errors
