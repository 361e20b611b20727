use Rattle.history_logs.proofs.Words.{List, Log, Service, Starts, ap, callers_of, false, get_or_from_slice_get, log_of, refl, rules, state_seen, subst, true, unseen, ◌∙◌, ◌≡◌}
use Rattle.history_logs.proofs.Starting.{gives_anew, some_calls}
use Rattle.history_logs.proofs.logs.reading.Reading.give_anew.Goals as goal

pub returns-then-not-branch-clause-does : goal.returns-then-not-branch-clause-does
returns-then-not-branch-clause-does c s there =
    let d = c.index.result.now in
    let same : d ≡ s =
    c.index.ensures ∙ get_or_from_slice_get c.args.self.now.services.items c.args.at s d there in
    let bars : c.in_ok-give.field-0 ≡ false = search rules in
    let made : c.new-anew.result ≡ unseen d.line = c.new-anew.ensures ∙ ap unseen c.line.ensures in
    gives_anew (log_of c.args.self.now) (log_of c.args.self.now) _ d s
    (state_seen c.args.given) false _ there same
    (some_calls s (c.requires.calls s there)) (c.has_open_on.ensures.no c.if-has_open_on.false)
    (subst (λ (x : Service). Starts x (state_seen c.args.given) false c.give.new.self) made
    (rw bars at c.in_ok-give.ensures)) (λ e. absurd (cc)) (λ e. refl)

pub returns-clause-does : goal.returns-clause-does
returns-clause-does c s there =
    let d = c.index.result.now in
    let same : d ≡ s =
    c.index.ensures ∙ get_or_from_slice_get c.args.self.now.services.items c.args.at s d there in
    let may : c.in_ok-give.field-0 ≡ true = search rules in
    let made : c.new-anew.result ≡ unseen d.line = c.new-anew.ensures ∙ ap unseen c.line.ensures in
    let callers = callers_of c.args.self.now.callers in
    let waits = (log_of c.args.self.now).waits in
    let new : Log = record {
      services = c.push.new.self.items;
      callers = callers;
      waits = waits;
    } in
    gives_anew (log_of c.args.self.now) new _ d s (state_seen c.args.given) true
    _ there same (some_calls s (c.requires.calls s there))
    (c.has_open_on.ensures.no c.if-has_open_on.false)
    (subst (λ (x : Service). Starts x (state_seen c.args.given) true c.give.new.self) made
    (rw may at c.in_ok-give.ensures))
    (λ e. ap (λ (l : List Service). record { services = l; callers = callers; waits = waits })
    c.in_ok-push.ensures.items) (λ e. absurd (cc))
