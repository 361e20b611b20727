use Rattle.history_logs.proofs.Words.{sym, ◌∙◌}
use Rattle.history_logs.proofs.Named.{count_numbers, last_named, none_named}
use Rattle.history_logs.proofs.logs.reading.Reading.only_service.Goals as goal

pub overflow_sub-result : goal.overflow_sub-result
overflow_sub-result c =
    let r = c.args.self.now in
    rw (c.len-then-len-eq1.ensures, r.services.ok.0)
    (last_named r.numbers r.services.items c.len.ensures.ordered c.requires
    (sym c.len.ensures.len ∙ c.if-len-eq1.true)).0

pub returns-then-len-eq1-clause-some : goal.returns-then-len-eq1-clause-some
returns-then-len-eq1-clause-some c =
    let r = c.args.self.now in
    rw (c.len-then-len-eq1.ensures, r.services.ok.0)
    (last_named r.numbers r.services.items c.len.ensures.ordered c.requires
    (sym c.len.ensures.len ∙ c.if-len-eq1.true)).1

pub returns-clause-none : goal.returns-clause-none
returns-clause-none c =
    let r = c.args.self.now in
    none_named r.services.items (λ one. c.if-len-eq1.false (c.len.ensures.len
    ∙ (count_numbers r.numbers r.services.items c.len.ensures.ordered c.requires ∙ one)))
