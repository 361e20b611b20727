use Rattle.history_logs.proofs.Words.{Service, arith, false, get_or_from_slice_get, length, log_of, refl, slice_get_within, state_seen, subst, true, ◌<◌, ◌∙◌, ◌≡◌}
use Rattle.history_logs.proofs.Starting.{gives_first, ok_below}
use Rattle.history_logs.proofs.logs.reading.Reading.given.Goals as goal

pub returns-then-may-clause-does : goal.returns-then-may-clause-does
returns-then-may-clause-does c k =
    gives_first (log_of c.args.self.now) _ k _ (state_seen c.args.given) _ _ _ _ _ true
    c.in-Some.ensures.some c.index.ensures c.index_mut.ensures.value
    c.has_calls.ensures c.if-has_calls.false c.requires.waits
    (rw c.if-may.true at c.in_ok-may.ensures) refl

pub returns-clause-does : goal.returns-clause-does
returns-clause-does c k =
    gives_first (log_of c.args.self.now) _ k _ (state_seen c.args.given) _ _ _ _ _ false
    c.in-Some.ensures.some c.index.ensures c.index_mut.ensures.value
    c.has_calls.ensures c.if-has_calls.false c.requires.waits
    (rw c.if-may.false at c.in_ok-may.ensures) refl

pub returns-then-has_calls-clause-does : goal.returns-then-has_calls-clause-does
returns-then-has_calls-clause-does c =
    let services = c.args.self.now.services.items in
    let named = c.in-Some.ensures.some in
    let d = c.index.result.now in
    let same : d ≡ named.0 =
    c.index.ensures ∙ get_or_from_slice_get services c.in-Some.at named.0 d named.1.there in
    let some = subst (λ (s : Service). 0 < length s.calls) same
    (c.has_calls.ensures.0 c.if-has_calls.true) in
    ok_below _ (log_of c.args.self.now) (log_of c.give_anew.new.self)
    _ (state_seen c.args.given) _ named.0 c.requires.waits named.1 some c.give_anew.ensures.does

pub index_mut-requires : goal.index_mut-requires
index_mut-requires c =
    let named = c.in-Some.ensures.some in
    let within =
    slice_get_within c.args.self.now.services.items c.in-Some.at named.0 named.1.there in
    omega arith
