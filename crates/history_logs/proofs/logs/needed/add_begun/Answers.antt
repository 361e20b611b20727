use Rattle.history_logs.proofs.Words.{is_kept, sym}
use Rattle.history_logs.proofs.Needing.{line_left}
use Rattle.history_logs.proofs.logs.needed.add_begun.Goals as goal

pub returns-then-not-is_kept : goal.returns-then-not-is_kept
returns-then-not-is_kept c =
    rw c.in-Begin.is (line_left _ _ (is_kept c.args.left_out.now) _ (sym c.if-not-is_kept.ensures))
