-- What all services are judged to be, and the orders of their calls.
use Rattle.history_logs.proofs.Words.{All, All-weaker, AllZip, AreJudged, BeginsAt, Bool, Conforms, Contains, Expected, HasEventLines, HasOrders, IfNone, IsFirstFound, IsFoundOf, IsNotBefore, IsOrderly, IsReadTo, IsRefusedIn, IsRightAbove, IsSeenRightly, List, Log, ManyConfigs, ManyOpen, None, NoneRefused, NoneRefusedAbove, Option, Refusal, Refused, Service, Some, StepOf, Stop, StopsIn, Verdict, Watched, Window, [], arith, comes_before, earlier, end_verdict, false, get_or, get_or_default, inl, length, news, refl, services_in, slice_get-get_or, subst, sum_by, sym, take, take_all, true, ℕ, ◌++◌, ◌+◌, ◌<◌, ◌∙◌, ◌∷◌, ◌≡◌, ◌≤◌}
use Rattle.histories.specs.declared.window.Cut.{Cut}
use Rattle.histories.specs.declared.window.Cut.TheVariants as cut
use Rattle.histories.specs.declared.window.Stop.TheVariants as stop
use Rattle.history_logs.specs.declared.logs.verdict.Verdict.TheVariants.{BadLine}
use Rattle.std.specs.Prelude.{MatchOption}
use Rattle.history_logs.specs.Logs.{HasGood, IsRefusal, Judged, RefusesIn, RefusesNoneIn, StopsAt}
use Rattle.histories.specs.Frontier.{IsFrontOf}
use Rattle.histories.proofs.Lists.{first_explains, times_at}
use Rattle.histories.specs.Windows.{IsFirstOrder, IsOrder}
use Rattle.history_logs.specs.declared.logs.verdict.Order.{Order}
use Rattle.history_logs.specs.Judging.{AreOrdered, IsFoundByAll, is_refused}
use Rattle.history_logs.specs.Orders.{IsOrderOf}
use Rattle.history_logs.proofs.Named.{some_service}
use Rattle.history_logs.proofs.Found.{first_next, first_none}
use Rattle.history_logs.proofs.Refusing.{zip_next}

-- a bound is passed, and nothing comes before it
bound_passed : (bytes : List ℕ) (services : List Service) (bad : Option (ℕ × Expected))
    (k line : ℕ) (v : Verdict) (why : Stop) (s : Service) → IsReadTo bytes services bad
    → Contains services s → line ≡ k → (x : (index : ℕ) × StopsIn s k index why)
    → All (IsNotBefore k v) services
    → ((t : Service) → IsNotBefore k v t → IsRightAbove k t × NoneRefused t)
    → (count : ℕ) × (log : Log) × (rest : List ℕ) × HasGood bytes count log rest
    × ((t : Service) × (index : ℕ) × StopsAt log.services line t index why)
bound_passed bytes services bad k line v why s r has same x before right = (
  r.count,
  r.log,
  r.rest,
  r.good,
  (
    s,
    x.0,
    rw (r.same, same) (record {
      is = has;
      stops = x.1.stops;
      there = x.1.there;
      above = All-weaker (IsNotBefore k v) (IsRightAbove k) (λ t y. (right t y).0) services before;
      others = All-weaker (IsNotBefore k v) NoneRefused (λ t y. (right t y).1) services before;
    }),
  ),
)

refusal_of : (bytes : List ℕ) (services : List Service) (k : ℕ) (s : Service) (reported : Refusal)
    → Contains services s → IsRefusedIn bytes s k reported → All (NoneRefusedAbove k) services
    → IsRefusal bytes services reported
refusal_of bytes services k s reported has r above =
    record {
      s = s;
      index = r.index;
      stops = rw r.line
          (record { is = has; stops = r.stops.stops; there = r.stops.there; above = above });
      report = r.report;
    }

-- something was found
pub judged_found : (bytes : List ℕ) (services : List Service) (bad : Option (ℕ × Expected))
    (v : Verdict) → IsReadTo bytes services bad → AreJudged bytes services (Some v)
    → IsFoundByAll bytes v
unfolding Judged
judged_found bytes services bad (Conforms n m) r f = absurd f.1.2
judged_found bytes services bad (Refused reported) r f = (
  r.count,
  r.log,
  r.rest,
  r.good,
  rw r.same
      (refusal_of bytes services f.0 f.1.0 reported f.1.1 f.1.2 f.1.3),
)
judged_found bytes services bad (ManyConfigs line) r f =
    bound_passed bytes services bad f.0 line (ManyConfigs line) stop.ManyConfigs f.1.0 r f.1.1
    f.1.2.0 f.1.2.1 f.1.3 (λ t x. x)
judged_found bytes services bad (ManyOpen line) r f =
    bound_passed bytes services bad f.0 line (ManyOpen line) stop.ManyOpen f.1.0 r f.1.1 f.1.2.0
    f.1.2.1 f.1.3 (λ t x. x)
judged_found bytes services bad (BadLine line e) r f = absurd f.1.2

-- no reply is refused
pub refuses_none : (bytes : List ℕ) (services : List Service) (bad : Option (ℕ × Expected))
    → IsReadTo bytes services bad → All NoneRefused services → RefusesNoneIn bytes
refuses_none bytes services bad r all =
    (r.count, r.log, r.rest, r.good, subst (All NoneRefused) (sym r.same) all)

pub none_right : (services : List Service) → All IsSeenRightly services → All NoneRefused services
none_right services all = All-weaker IsSeenRightly NoneRefused (λ s is. inl is) services all

pub none_found : (bytes : List ℕ) (services : List Service) (v : Verdict)
    → AreJudged bytes services (Some v) → is_refused v ≡ false → All NoneRefused services
none_found bytes services v f is =
    All-weaker (IsNotBefore f.0 v) NoneRefused (λ s before. (rw is at before).1) services f.1.3

-- a reply is refused, or none is
pub found_refused : (bytes : List ℕ) (services : List Service) (bad : Option (ℕ × Expected))
    (v : Verdict) (found : Option Refusal) → IsReadTo bytes services bad
    → AreJudged bytes services (Some v)
    → MatchOption found (is_refused v ≡ false) (λ reported. v ≡ Refused reported)
    → MatchOption found (RefusesNoneIn bytes) (RefusesIn bytes)
found_refused bytes services bad v None r f is =
    refuses_none bytes services bad r (none_found bytes services v f is)
found_refused bytes services bad v (Some reported) r f is =
    judged_found bytes services bad (Refused reported) r
    (subst (λ (u : Verdict). AreJudged bytes services (Some u)) is f)

-- nothing was found, and no line is bad
pub judged_conforms : (bytes : List ℕ) (services : List Service) (n m : ℕ)
    → IsReadTo bytes services None → AreJudged bytes services None
    → n ≡ sum_by (λ (s : Service). length s.commands) services → m ≡ services_in services
    → Judged bytes (Conforms n m)
unfolding Judged
judged_conforms bytes services n m r all calls count = (
  r.count,
  r.log,
  rw r.ends.0 at r.good,
  r.ends.1,
  subst (All IsSeenRightly) (sym r.same) all,
  rw r.same calls,
  rw r.same count,
  rw count (some_service services (rw r.same at r.ends.2)),
)

-- nothing was found above a line that is bad
pub judged_bad : (bytes : List ℕ) (services : List Service) (line : ℕ) (e : Expected)
    → IsReadTo bytes services (Some (line, e)) → AreJudged bytes services None
    → Judged bytes (BadLine line e)
unfolding Judged
judged_bad bytes services line e r all = (
  r.count,
  r.log,
  r.rest,
  r.good,
  subst (All IsSeenRightly) (sym r.same) all,
  r.ends.0,
  r.ends.1,
)

-- no more calls were read than the log has bytes
pub few_calls : (bytes : List ℕ) (services : List Service) (bad : Option (ℕ × Expected))
    → IsReadTo bytes services bad
    → sum_by (λ (s : Service). length s.commands) services ≤ length bytes
few_calls bytes services bad r = rw r.same at r.few

-- one call more
pub begins_more : (begins calls : List ℕ) (i : ℕ) (lines more : List ℕ)
    → AllZip (BeginsAt begins) (take i calls) lines → i < length calls
    → get_or calls i 0 < length begins → more ≡ lines ++ get_or begins (get_or calls i 0) 0 ∷ []
    → AllZip (BeginsAt begins) (take (i + 1) calls) more
begins_more begins calls i lines more all h within new =
    let call = get_or calls i 0 in
    zip_next (BeginsAt begins) calls i call lines more (get_or begins call 0) all h
    (get_or_default calls i 0 call h) (slice_get-get_or begins call 0 within) new

module _ (s : Service) (o : IsOrderly s) (window : Window Watched) (calls : List ℕ)
    (f : IsFrontOf (StepOf s) window.front s.events (news s))
    (some : 0 < length window.front.configs.items) (is : IsFirstOrder window.front calls) where
  explains : IsOrder (StepOf s) s.events (news s) calls
  explains = first_explains (StepOf s) window.front s.events (news s) calls f some is

  -- the calls of an order have begun
  pub calls_within : All (λ call. call < length s.begins) calls
  calls_within i d h =
      let call = get_or calls i d in
      omega (arith, o.numbered call (explains.3.begun call (times_at calls i d h)))

  pub order_reported : (number : ℕ) (lines : List ℕ) (reported : Order) → number ≡ s.line.number
      → AllZip (BeginsAt s.begins) calls lines → reported.service ≡ number
      → reported.lines.items ≡ lines → IsOrderOf s reported
  order_reported number lines reported a begins b same = record {
    number = b ∙ a;
    order = calls;
    explains = explains;
    begins = rw same begins;
  }

pub orders_all : (services : List Service) (i : ℕ) (orders : List Order) → length services ≤ i
    → AreOrdered (take i services) orders → AreOrdered services orders
orders_all services i orders h all =
    rw (take_all i services h) at all

-- Of the first services this is found before all else; where nothing is, and what was seen was
-- never cut, each has an order.
pub record OrdersTo (where_cut : Cut) (bytes : List ℕ) (services : List Service) (i : ℕ)
    (first : Option (ℕ × Verdict)) (orders : List Order) : Type 0 where
  pub found : IsFirstFound bytes (take i services) first
  pub ordered : where_cut ≡ cut.Never → first ≡ None → AreOrdered (take i services) orders

pub orders_none : (where_cut : Cut) (bytes : List ℕ) (services : List Service)
    (orders : List Order) → orders ≡ [] → OrdersTo where_cut bytes services 0 None orders
orders_none where_cut bytes services orders is = record {
  found = first_none bytes;
  ordered = λ never none. rw is tt;
}

earlier_none : (one other : Option (ℕ × Verdict)) → earlier one other ≡ None
    → (one ≡ None) × (other ≡ None)
earlier_none None other is = (refl, is)
earlier_none (Some one) None is = absurd (cc)
earlier_none (Some one) (Some other) is = cases (comes_before other one) refl
  where
    cases : (t : Bool) → comes_before other one ≡ t → (Some one ≡ None) × (Some other ≡ None)
    cases true e = let x = rw e at is in absurd (cc)
    cases false e = let x = rw e at is in absurd (cc)

none_of : {A : Type 0} (o : Option A) (P : Type 0) → IfNone o P → o ≡ None → P
none_of None P h is = h
none_of (Some x) P h is = absurd (cc)

pub orders_next : (where_cut : Cut) (bytes : List ℕ) (services : List Service) (i : ℕ)
    (d : Service) (first found result : Option (ℕ × Verdict)) (orders more : List Order)
    → All IsOrderly services → All (HasEventLines bytes) services → i < length services
    → d ≡ get_or services i d → OrdersTo where_cut bytes services i first orders
    → IsFoundOf bytes d found
    → (where_cut ≡ cut.Never
    → IfNone found ((order : Order) × IsOrderOf d order × (more ≡ orders ++ order ∷ [])))
    → result ≡ earlier first found → OrdersTo where_cut bytes services (i + 1) result more
orders_next where_cut bytes services i d first found result orders more os ps h is to f added same =
    record {
      found = first_next bytes services i d first found result os ps h is to.found f same;
      ordered = λ never none.
          let both = earlier_none first found (sym same ∙ none) in
          let own = none_of found ((order : Order) × IsOrderOf d order
          × (more ≡ orders ++ order ∷ [])) (added never) both.1 in
          zip_next IsOrderOf services i d orders more own.0 (to.ordered never both.0) h is own.1
          own.2;
    }

-- what is found is that of a log without orders
pub no_orders : (bytes : List ℕ) (services : List Service) (v : Verdict) (orders : List Order)
    → AreJudged bytes services (Some v) → orders ≡ [] → HasOrders bytes v orders
no_orders bytes services (Conforms n m) orders f none = absurd f.1.2
no_orders bytes services _ orders f none = none

-- where the log ends after its good lines, each service has an order
pub orders_end : (bytes : List ℕ) (services : List Service) (orders : List Order)
    → IsReadTo bytes services None → AreOrdered services orders
    → HasOrders bytes (end_verdict services) orders
orders_end bytes services orders r all = (
  r.count,
  r.log,
  rw r.ends.0 at r.good,
  rw r.same all,
)
