use Rattle.std.proofs.Common.{◌-◌, ◌^◌, ◌<◌}
use Rattle.std.specs.Prelude.{vec_len}
use Rattle.std.specs.Io.KnownBytes.{Consumes}
use Rattle.line_streams.proofs.streams.read_all.Given as goal

abbrev pub invariant-pieces : goal.invariant-pieces
invariant-pieces g l = record {
  consumes :
      Consumes (g.R.Source.remaining l.fn.reader) (g.R.Source.remaining l.reader) l.all.items;
  fits : vec_len l.all < 2 ^ 64;
}

abbrev pub decreases-pieces : goal.decreases-pieces
decreases-pieces g l = 2 ^ 64 - vec_len l.all
