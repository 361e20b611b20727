use Rattle.history_logs.proofs.Words.{None, Option, Service, Some, ap, log_of, named, rules, slice_get, slice_get-get_or, slice_set, sym, waits_in, ℕ, ◌∙◌, ◌≡◌}
use Rattle.log_lines.specs.declared.command.LogCommand.{LogCommand}
use Rattle.history_logs.proofs.Named.{numbers_set, same_numbers}
use Rattle.history_logs.proofs.Refused.{ok_next, replied}
use Rattle.history_logs.proofs.logs.reading.Reading.go.Goals as goal

pub returns-clause-takes : goal.returns-clause-takes
returns-clause-takes c =
    let at = c.in-Some-take.at in
    let command = c.in-Some-take.command in
    let old = c.args.self.now in
    let services = old.services.items in
    let own : old.waits ≡ Some (at, command) = search rules in
    let waits = ap waits_in own in
    let d : Service = c.index_mut.result.now in
    let there : slice_get services at ≡ Some d =
    slice_get-get_or services at d (c.requires.sane.waits at (named command) waits)
    ∙ ap Some (sym c.index_mut.ensures.value) in
    let gone : c.take.new.self ≡ None = search rules in
    replied (log_of old) _ at (named command) d _ _ _ waits there (search rules)
    (ap (λ (w : Option (ℕ × LogCommand)). record (log_of old) {
      services = slice_set services at c.alone.new.self;
      waits = waits_in w;
    }) gone
    ∙ ap (λ (s : Service). record (log_of old) {
      services = slice_set services at s;
      waits = None;
    }) c.in_ok-alone-in-Some-take.ensures)

pub returns-clause-numbers : goal.returns-clause-numbers
returns-clause-numbers c =
    let at = c.in-Some-take.at in
    let command = c.in-Some-take.command in
    let old = c.args.self.now in
    let services = old.services.items in
    let own : old.waits ≡ Some (at, command) = search rules in
    let d : Service = c.index_mut.result.now in
    let there : slice_get services at ≡ Some d =
    slice_get-get_or services at d
    (c.requires.sane.waits at (named command) (ap waits_in own))
    ∙ ap Some (sym c.index_mut.ensures.value) in
    same_numbers old.numbers services (slice_set services at c.alone.new.self)
    (numbers_set services at d c.alone.new.self there
    (ap (λ (s : Service). s.line) c.in_ok-alone-in-Some-take.ensures)) c.requires.numbers

pub returns-then-is_none-clause-takes : goal.returns-then-is_none-clause-takes
returns-then-is_none-clause-takes c =
    ok_next _ (log_of c.args.self.now) _ _ _
    (waits_in c.args.self.now.waits) (search rules) (search rules) c.next.ensures.takes
