use Rattle.history_logs.proofs.Words.{arith, refl, sym, ◌∙◌}
use Rattle.history_logs.proofs.Answering.{shown_none, shown_past, shown_set, stops_kept}
use Rattle.history_logs.proofs.logs.service.show.Goals as goal

pub returns-in_default : goal.returns-in_default
returns-in_default c =
    shown_none _ _ _ _ c.requires.within c.index.ensures (sym c.stopped.ensures ∙ c.in_default.is) _

pub overflow_sub-position : goal.overflow_sub-position
overflow_sub-position c =
    stops_kept c.args.first c.args.calls.now.items c.args.at c.in-Some.start c.index.result.now
    c.args.reply.now c.requires.within c.index.ensures (sym c.stopped.ensures ∙ c.in-Some.is)
    c.requires.kept

pub returns-in_ok-show : goal.returns-in_ok-show
returns-in_ok-show c =
    shown_set _ _ _ _ _ _ c.requires.within c.index.ensures (sym c.stopped.ensures ∙ c.in-Some.is)
    _ refl _ _ c.index_mut.ensures.value c.in_ok-show.ensures.ok

pub returns-else-position-len : goal.returns-else-position-len
returns-else-position-len c =
    shown_past _ _ _ _ _ _ c.requires.within c.index.ensures (sym c.stopped.ensures ∙ c.in-Some.is)
    _ refl (omega arith)
