use Rattle.line_streams.specs.Streams.{ReportsFailure}
use Rattle.iox2_conform.proofs.Failing.{failed_where_written}
use Rattle.iox2_conform.proofs.conform_streams.Goals as goal

pub returns-clause-failed : goal.returns-clause-failed
returns-clause-failed g c =
    failed_where_written g.E.Sink.contents (ReportsFailure g.E.Sink.contents g.E.Sink.Writes) _ _ _
    c.match-request_of.text c.write_outcome-end.result _ _ _ _ _ _
    c.write_outcome-end.ensures.status c.write_outcome-end.ensures.output
    c.write_outcome-end.ensures.errors c.write_outcome-end.ensures.failed
    c.report_failure.ensures.ok c.report_failure.ensures.err
