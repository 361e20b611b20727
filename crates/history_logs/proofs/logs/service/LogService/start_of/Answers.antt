use Rattle.history_logs.proofs.Words.{ap, arith, option_and_then, stopped, sym, ◌∙◌}
use Rattle.std.proofs.lemmas.Option.{slice_get_past}
use Rattle.history_logs.proofs.Answering.{start_at, start_over, start_under}
use Rattle.history_logs.proofs.logs.service.LogService.start_of.Goals as goal

pub returns-then-number-self : goal.returns-then-number-self
returns-then-number-self c =
    rw (← c.self.view_is)
    (sym (start_under c.self.inside.first c.self.inside.calls.items _ (omega arith)))

pub returns-then-at-len : goal.returns-then-at-len
returns-then-at-len c =
    rw (← c.self.view_is)
    (sym (start_over c.self.inside.first c.self.inside.calls.items _ (omega arith)
    ∙ ap (option_and_then stopped) (slice_get_past c.self.inside.calls.items _ (omega arith))))

pub returns : goal.returns
returns c =
    rw (← c.self.view_is)
    (c.stopped.ensures
    ∙ (sym (start_at c.self.inside.calls.items _ _ (omega arith) c.index.ensures)
    ∙ sym (start_over c.self.inside.first c.self.inside.calls.items _ (omega arith))))
