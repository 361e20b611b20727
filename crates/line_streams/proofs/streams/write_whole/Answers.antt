use Rattle.std.proofs.Common.{◌++◌, take}
use Rattle.line_streams.proofs.Written.{appends_more, written_more}
use Rattle.line_streams.proofs.streams.write_whole.Goals as goal

pub loop-rest-preserved : goal.loop-rest-preserved
loop-rest-preserved g c =
    let so = c.loop-rest.invariant in
    let rest = c.loop-rest.rest.now in (
      so.0 ++ take c.in_ok-n.n rest,
      written_more c.args.bytes.now so.0 rest c.in_ok-n.n so.1,
      appends_more _ _ _ so.0 (take c.in_ok-n.n rest) so.2 c.in_ok-n.ensures.bytes,
    )
