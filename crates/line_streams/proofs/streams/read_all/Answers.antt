use Rattle.std.proofs.Common.{◌++◌, take}
use Rattle.line_streams.proofs.Written.{consumes_more}
use Rattle.line_streams.proofs.streams.read_all.Goals as goal

-- what was read before, and the piece for which memory was refused
pub returns-in-Err-clause-refused : goal.returns-in-Err-clause-refused
returns-in-Err-clause-refused g c = (
  c.pieces.all.items ++ take c.in_ok-n.n c.read_piece.new.piece,
  consumes_more _ _ _ c.pieces.all.items (take c.in_ok-n.n c.read_piece.new.piece)
      c.pieces.invariant.consumes c.in_ok-n.ensures.bytes.0,
)
