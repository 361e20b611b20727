-- What is given of services.
use Rattle.history_logs.proofs.Words.{Bool, Does, Err, Expected, Gives, IfOk, IsNamed, IsTrue, List, Log, None, NoneCalls, Ok, Option, Result, Service, Some, Starts, State, [], ap, arith, cases_lt, false, get_or, get_or_default, given, inl, inr, length, nil_from_length, refl, same_Some, slice_get, slice_get_read, slice_get_within, slice_set, started, sym, true, unseen, ℕ, ◌++◌, ◌<◌, ◌↔◌, ◌∙◌, ◌∷◌, ◌≡◌, ◌≢◌, ◌⊎◌}
use Rattle.iox2_dynamic.specs.Service as dynamic
use Rattle.service_conformance.specs.Given.{Becomes, IsUnused, with_nodes, with_ports, with_used}
use Rattle.history_logs.specs.declared.logs.verdict.Expected.TheVariants as expected
use Rattle.history_logs.specs.Good.{GivesAnew}
use Rattle.iox2_container.specs.State.{RegistryState}
use Rattle.log_lines.specs.States.State.{nodes, ports, entry}
use Rattle.service_conformance.specs.Sides.{ports_at}
use Rattle.service_conformance.proofs.Given.{same_ports}
use Rattle.history_logs.specs.Laws.{EmptyStatesChangeNothing, IsAnew, IsEmptyState}
use Rattle.history_logs.proofs.Named.{set_back}

-- what becomes of the start becomes of the service
pub starts_of : (old : Service) (what : State) (start : dynamic.Service) (yes : Bool)
    → old.calls ≡ [] → Becomes (Gives old.start what) old.start yes start
    → Starts old what yes (started old start)
starts_of old what start true none b = (start, (none, b), refl)
starts_of old what start false none b =
    ((λ other g. b.0 other g.1), ap (started old) b.1)

-- what is expected, where it may be given or may not
abbrev pub expected_if : Bool → Option Expected
expected_if true = None
expected_if false = Some expected.State

-- what is given of a service that is named, on which there are no calls
pub gives_on : (old new : Log) (k : ℕ) (number : Option ℕ) (what : State) (at : ℕ)
    (s d t : Service) (yes : Bool) → d.calls ≡ [] → old.waits ≡ None
    → IsNamed number old.services at s
    → slice_get old.services at ≡ Some d → Starts d what yes t
    → new ≡ record old { services = slice_set old.services at t }
    → Does old k (given number what) (expected_if yes) new
gives_on old new k number what at s d t true few none named there st is =
    let own = rw (same_Some s d (sym named.there ∙ there)) at named in
    (at, d, st.0, none, own, inl (st.1, rw (is, st.2) refl))
gives_on old new k number what at s d t false few none named there st is =
    let own = rw (same_Some s d (sym named.there ∙ there)) at named in (
      inr (refl, (at, d, own, st.0, λ start anew. anew.0 few)),
      rw (is, st.1) (set_back old.services at d there),
    )

-- what stands at an index is one service
pub same_item : (ss : List Service) (at : ℕ) (s d : Service) → at < length ss
    → s ≡ get_or ss at s → d ≡ get_or ss at d → s ≡ d
same_item ss at s d h one other = one ∙ (get_or_default ss at s d h ∙ sym other)

-- whether a service has calls
pub no_calls : (s : Service) (may : Bool) → (IsTrue may ↔ (0 < length s.calls)) → may ≡ false
    → s.calls ≡ []
no_calls s may says not =
    elim (cases_lt 0 (length s.calls)) [
      | inl some ↦ let is = says.1 some in absurd (cc)
      | inr none ↦ nil_from_length s.calls (omega arith)
    ]

pub some_calls : (s : Service) → 0 < length s.calls → s.calls ≢ []
some_calls s some none = omega (arith, ap length none)

-- the same, where its number is looked up
pub gives_first : (old new : Log) (k : ℕ) (number : Option ℕ) (what : State) (at : ℕ)
    (x d t : Service) (has yes : Bool)
    → ((s : Service) × IsNamed number old.services at s) → x ≡ get_or old.services at x
    → d ≡ get_or old.services at d → (IsTrue has ↔ (0 < length x.calls)) → has ≡ false
    → old.waits ≡ None → Starts d what yes t
    → new ≡ record old { services = slice_set old.services at t }
    → Does old k (given number what) (expected_if yes) new
gives_first old new k number what at x d t has may n one other says not none st is =
    let within = slice_get_within old.services at n.0 n.1.there in
    let few = rw (same_item old.services at x d within one other) at (no_calls x has says not) in
    gives_on old new k number what at n.0 d t may few none n.1
    (slice_get_read old.services (length old.services) at d refl within other) st is

-- what is given below calls
pub gives_anew : (old new : Log) (at : ℕ) (s d : Service) (what : State) (yes : Bool)
    (t : Service) → slice_get old.services at ≡ Some d → s ≡ d → d.calls ≢ []
    → NoneCalls old.callers at → Starts (unseen s.line) what yes t
    → (yes ≡ true → new ≡ record old { services = old.services ++ t ∷ [] })
    → (yes ≡ false → new.services ≡ old.services)
    → GivesAnew old at d what (expected_if yes) new
gives_anew old new at s d what true t there same some none st more still =
    (st.0, (some, none, rw same at st.1.1), more refl ∙ rw (st.2, same) refl)
gives_anew old new at s d what false t there same some none st more still =
    (refl, λ start anew. st.0 start (refl, rw same anew.2), still refl)

-- the same of the line
pub gives_below : (old new : Log) (k : ℕ) (number : Option ℕ) (what : State) (at : ℕ)
    (s : Service) (found : Option Expected) → old.waits ≡ None → IsNamed number old.services at s
    → 0 < length s.calls → GivesAnew old at s what found new
    → Does old k (given number what) found new
gives_below old new k number what at s None none named some g =
    (at, s, g.0, none, named, inr (g.1, g.2))
gives_below old new k number what at s (Some e) none named some g = (
  inr (
    g.0,
    (
      at,
      s,
      named,
      (λ start first.
          omega (arith, ap length first.0)),
      g.1,
    ),
  ),
  g.2,
)

pub ok_below : {E : Type 0} (result : Result (Option Expected) E) (old new : Log)
    (number : Option ℕ) (what : State) (at : ℕ) (s : Service) → old.waits ≡ None
    → IsNamed number old.services at s → 0 < length s.calls
    → IfOk result (λ found. (t : Service) → slice_get old.services at ≡ Some t
    → GivesAnew old at t what found new)
    → IfOk result (λ found. (j : ℕ) → Does old j (given number what) found new)
ok_below (Ok found) old new number what at s none named some h =
    λ j. gives_below old new j number what at s found none named some (h s named.there)
ok_below (Err e) old new number what at s none named some h = h

unchanged : {T : Type 0} (r : RegistryState T) (used : ℕ) (locked : Bool) → IsUnused r → used ≡ 0
    → locked ≡ false → with_used r used locked ≡ r
unchanged r used locked u none free =
    ap (λ n. with_used r n locked) (none ∙ sym u.used)
    ∙ ap (with_used r r.used) (free ∙ sym u.locked)

start_same : (old : dynamic.Service) (what : State) (start : dynamic.Service) → IsEmptyState what
    → Gives old what start → start ≡ old
start_same old (nodes used locked) start none g =
    g.1 ∙ ap (with_nodes old) (unchanged old.nodes.registry used locked g.0 none.0 none.1)
start_same old (ports r used) start none g =
    g.3
    ∙ (ap (with_ports g.0 old) (unchanged (ports_at old g.0).registry used false g.2 none refl)
    ∙ same_ports old g.0)
start_same old (entry slot ticket c) start none g = absurd none

pub empty_none : EmptyStatesChangeNothing
empty_none old new k number what none g =
    elim g.5 as (λ _. (new ≡ old) ⊎ IsAnew old number new) [
      | inl first ↦
          let same : started g.1 g.2 ≡ g.1 =
          ap (started g.1) (start_same g.1.start what g.2 none first.0.1) in
          inl (first.1
          ∙ ap (λ (l : List Service). record {
            services = l;
            callers = old.callers;
            waits = old.waits;
          })
          (ap (slice_set old.services g.0) same ∙ set_back old.services g.0 g.1 g.4.there))
      | inr anew ↦
          let new_one = unseen g.1.line in
          let same : started new_one g.2 ≡ new_one =
          ap (started new_one) (start_same new_one.start what g.2 none anew.0.2) in
          inr (
            g.0,
            g.1,
            g.4,
            anew.0.0,
            anew.1 ∙ ap (λ (x : Service). record old { services = old.services ++ x ∷ [] }) same,
          )
    ]
