-- What is found of services before all else.
use Rattle.history_logs.proofs.Words.{All, All-nil, All-push, AllPairs, Bool, Contains-append_left, Contains-push, Err, HasEventLines, IsExplained, IsFirstFound, IsFoundOf, IsNotBefore, IsOrderly, IsRightAbove, IsSeenRightly, IsStop, List, ManyConfigs, ManyOpen, None, NoneRefused, NoneRefusedAbove, Ok, Option, Refused, Result, Service, Some, StepOf, Stop, StopsIn, Verdict, Watched, Window, [], ap, arith, cases_lt, comes_before, cond, earlier, false, get_or, get_or_from_slice_get, if◌then◌else◌, inl, inr, length, news, refl, slice_get, slice_get_within, suc, sym, take, take_all, take_more, true, zero, ℕ, ◌++◌, ◌+◌, ◌-◌, ◌<◌, ◌||◌, ◌∙◌, ◌∷◌, ◌≡◌, ◌≢◌, ◌≤◌}
use Rattle.std.proofs.Common.{not, ◌&&◌, filter, ltb}
use Rattle.std.proofs.lemmas.Bool.{ltb-false, ltb-true, le-ltb}
use Rattle.std.proofs.lemmas.List.Elements.{All-take}
use Rattle.std.proofs.lemmas.List.Sums.{count_by-le-length, length-filter}
use Rattle.histories.proofs.Verdicts.{explained_take}
use Rattle.histories.specs.declared.window.Stop.TheVariants as stop
use Rattle.histories.specs.declared.window.Verdict.{Verdict as WindowVerdict}
use Rattle.histories.specs.declared.window.Cut.{Cut}
use Rattle.histories.specs.declared.window.Cut.TheVariants as cut
use Rattle.histories.specs.Windows.{IsVerdict, IsWhole}
use Rattle.history_logs.specs.Judging.{ComesNotBefore, Explores, IsFound, IsReportOf, is_refused}
use Rattle.history_logs.specs.Logs.{PassesBound, count_above}

-- how many of the numbers are below
abbrev below : ℕ → List ℕ → ℕ
below k ps = length (filter (λ p. ltb p k) ps)

kept : (b : Bool) (p : ℕ) (ps : List ℕ) → length (cond b (p ∷ ps) ps) ≤ 1 + length ps
kept true p ps = omega arith
kept false p ps = omega arith

-- where none from an index on is below, no more are below than stand before it
below_index : (k : ℕ) (ps : List ℕ) (index : ℕ)
    → ((i v : ℕ) → index ≤ i → slice_get ps i ≡ Some v → k ≤ v) → below k ps ≤ index
below_index k [] index none = omega arith
below_index k (p ∷ ps) zero none =
    let not : ltb p k ≡ false = le-ltb p k (none 0 p (omega arith) refl) in
    rw not (below_index k ps zero (λ i v h at. none (suc i) v (omega arith) at))
below_index k (p ∷ ps) (suc index) none =
    omega (
      arith,
      kept (ltb p k) p (filter (λ x. ltb x k) ps),
      below_index k ps index (λ i v h at. none (suc i) v (omega arith) at),
    )

below_length : (k : ℕ) (ps : List ℕ) → below k ps ≤ length ps
below_length k ps =
    omega (arith, length-filter (λ p. ltb p k) ps, count_by-le-length (λ p. ltb p k) ps)

-- fewer are below less
below_less : (j k : ℕ) (ps : List ℕ) → j ≤ k → below j ps ≤ below k ps
below_less j k [] h = omega arith
below_less j k (p ∷ ps) h =
    let rest = below_less j k ps h in cases rest (ltb p j) (ltb p k) refl refl
  where
    cases : below j ps ≤ below k ps → (a b : Bool) → ltb p j ≡ a → ltb p k ≡ b
        → below j (p ∷ ps) ≤ below k (p ∷ ps)
    cases rest true true e f = rw (e, f) (omega arith)
    cases rest true false e f = absurd (omega (arith, ltb-true p j e, ltb-false p k f))
    cases rest false true e f = rw (e, f) (omega arith)
    cases rest false false e f = rw (e, f) rest

-- of numbers that rise, those from an index on are no less
no_less : (ps : List ℕ) (index i at v : ℕ) → AllPairs (λ (one other : ℕ). one ≤ other) ps
    → slice_get ps index ≡ Some at → index ≤ i → slice_get ps i ≡ Some v → at ≤ v
no_less ps index i at v rising is h there =
    let a : get_or ps index 0 ≡ at = get_or_from_slice_get ps index at 0 is in
    let b : get_or ps i 0 ≡ v = get_or_from_slice_get ps i v 0 there in
    elim (cases_lt index i) [
      | inl before ↦
          omega (arith, rising index i 0 before (slice_get_within ps i v there))
      | inr late ↦
          let same : index ≡ i = omega arith in
          omega (arith, ap (λ x. get_or ps x 0) same)
    ]

module _ (bytes : List ℕ) (s : Service) (o : IsOrderly s) (p : HasEventLines bytes s) where
  -- an order explains fewer events, where one explains more
  explained_to : (i j : ℕ) → i ≤ j → j ≤ length s.events
      → IsExplained (StepOf s) (take j s.events) (news s)
      → IsExplained (StepOf s) (take i s.events) (news s)
  explained_to i j h within x =
      explained_take (StepOf s) s.events (news s) i (j - i) o.history (omega arith)
      (rw (← back i j h) x)
    where
      back : (i j : ℕ) → i ≤ j → j ≡ i + (j - i)
      back i j h = omega arith

  few_above : (k : ℕ) → count_above k s ≤ length s.events
  few_above k = omega (arith, below_length k s.event_lines)

  right_all : (k : ℕ) → IsSeenRightly s → IsRightAbove k s
  right_all k x =
      explained_to (count_above k s) (length s.events) (few_above k) (omega arith)
      (rw (take_all (length s.events) s.events (omega arith)) x)

  right_less : (j k : ℕ) → j ≤ k → IsRightAbove k s → IsRightAbove j s
  right_less j k h x =
      explained_to (count_above j s) (count_above k s) (below_less j k s.event_lines h) (few_above
      k) x

  right_stop : (j k index : ℕ) (why : Stop) → j ≤ k → StopsIn s k index why → IsRightAbove j s
  right_stop j k index why h x =
      explained_to (count_above j s) index
      (below_index j s.event_lines index
      (λ i v late there.
      omega (arith, no_less s.event_lines index i k v p.rising x.there late there)))
      (omega arith) x.stops.before

  -- what is found stops in its line, by a bound if it is no refused reply
  found_stops : (k : ℕ) (v : Verdict) → IsFound bytes s k v
      → (index : ℕ) × (why : Stop) × StopsIn s k index why
      × (is_refused v ≡ false → why ≢ stop.Refused)
  found_stops k (Refused reported) x = (x.index, stop.Refused, x.stops, λ e. absurd (cc))
  found_stops k (ManyConfigs line) x = (x.1.0, stop.ManyConfigs, x.1.1, λ e f. absurd (cc))
  found_stops k (ManyOpen line) x = (x.1.0, stop.ManyOpen, x.1.1, λ e f. absurd (cc))
  found_stops k _ x = absurd x

  right_found : (j k : ℕ) (v : Verdict) → j ≤ k → IsFound bytes s k v → IsRightAbove j s
  right_found j k v h x = let f = found_stops k v x in right_stop j k f.0 f.1 h f.2

  -- a bound is passed in this line
  passed : (k : ℕ) (v : Verdict) → is_refused v ≡ false → IsFound bytes s k v → PassesBound s k
  passed k v not x = let f = found_stops k v x in (f.0, f.1, f.3 not, f.2)

  -- a bound that is passed is above the line, or all above that is explained
  none_passed : (k line : ℕ) → PassesBound s line → NoneRefusedAbove k s
  none_passed k line x =
      elim (cases_lt line k) [
        | inl above ↦ inr (line, above, x)
        | inr below ↦ inl (right_stop k line x.0 x.1 below x.3)
      ]

  -- where no reply is refused, none is above a line
  none_above : (k : ℕ) → NoneRefused s → NoneRefusedAbove k s
  none_above k (inl all) = inl (right_all k all)
  none_above k (inr x) = none_passed k x.0 x.1

  none_less : (j k : ℕ) → j ≤ k → NoneRefusedAbove k s → NoneRefusedAbove j s
  none_less j k h (inl right) = inl (right_less j k h right)
  none_less j k h (inr x) = none_passed j x.0 x.2

  -- where all is explained, nothing comes before
  all_before : (k : ℕ) (refused : Bool) → IsSeenRightly s → ComesNotBefore refused k s
  all_before k true all = inl (right_all k all)
  all_before k false all = (right_all k all, inl all)

  -- what is found does not come before itself
  own_before : (k : ℕ) (v : Verdict) → IsFound bytes s k v → IsNotBefore k v s
  own_before k v x = cases (is_refused v) refl
    where
      right : IsRightAbove k s
      right = right_found k k v (omega arith) x

      cases : (refused : Bool) → is_refused v ≡ refused → ComesNotBefore refused k s
      cases true e = inl right
      cases false e = (right, inr (k, passed k v e x))

  -- what does not come before one does not come before another that comes before that
  less_before : (one other : ℕ × Verdict) → comes_before other one ≡ true
      → IsNotBefore one.0 one.1 s → IsNotBefore other.0 other.1 s
  less_before one other =
      cases (is_refused other.1) (is_refused one.1) (ltb other.0 one.0) refl
    where
      cases : (b c t : Bool) → ltb other.0 one.0 ≡ t
          → (if b then (not c || t) else (not c && t)) ≡ true
          → ComesNotBefore c one.0 s → ComesNotBefore b other.0 s
      cases true true true less is x =
          none_less other.0 one.0 (omega (arith, ltb-true other.0 one.0 less)) x
      cases true false t less is x = none_above other.0 x.1
      cases false false true less is x =
          (right_less other.0 one.0 (omega (arith, ltb-true other.0 one.0 less)) x.0, x.1)
      cases _ _ _ less is x = absurd (cc)

  -- what is found and comes behind something does not come before it
  found_behind : (one other : ℕ × Verdict) → comes_before other one ≡ false
      → IsFound bytes s other.0 other.1 → IsNotBefore one.0 one.1 s
  found_behind one other behind x =
      cases (is_refused other.1) (is_refused one.1) (ltb other.0 one.0) refl refl behind
    where
      right : ltb other.0 one.0 ≡ false → IsRightAbove one.0 s
      right late = right_found one.0 other.0 other.1 (ltb-false other.0 one.0 late) x

      cases : (b c t : Bool) → is_refused other.1 ≡ b → ltb other.0 one.0 ≡ t
          → (if b then (not c || t) else (not c && t)) ≡ false → ComesNotBefore c one.0 s
      cases true true false e late is = inl (right late)
      cases false true t e late is = none_passed one.0 other.0 (passed other.0 other.1 e x)
      cases false false false e late is =
          (right late, inr (other.0, passed other.0 other.1 e x))
      cases _ _ _ e late is = absurd (cc)

module _ (bytes : List ℕ) (ss : List Service) (os : All IsOrderly ss)
    (ps : All (HasEventLines bytes) ss) (s : Service) (o : IsOrderly s) (p : HasEventLines bytes s)
  where
    abbrev pub both : List Service
    both = ss ++ s ∷ []

    other_first : (other : ℕ × Verdict) → All (IsNotBefore other.0 other.1) ss
        → IsFound bytes s other.0 other.1 → IsFirstFound bytes both (Some other)
    other_first other before x = (
      s,
      Contains-push ss s,
      x,
      All-push (IsNotBefore other.0 other.1) ss s before
          (own_before bytes s o p other.0 other.1 x),
    )

    one_first : (one : ℕ × Verdict) → IsFirstFound bytes ss (Some one) → IsNotBefore one.0 one.1 s
        → IsFirstFound bytes both (Some one)
    one_first one f right = (
      f.0,
      Contains-append_left ss (s ∷ []) f.0 f.1,
      f.2,
      All-push (IsNotBefore one.0 one.1) ss s f.3 right,
    )

    pub first_more : (first found : Option (ℕ × Verdict)) → IsFirstFound bytes ss first
        → IsFoundOf bytes s found → IsFirstFound bytes both (earlier first found)
    first_more None None f x = All-push IsSeenRightly ss s f x
    first_more None (Some other) f x =
        other_first other
        (λ i d lt. all_before bytes (get_or ss i d) (os i d lt) (ps i d lt) other.0
        (is_refused other.1) (f i d lt)) x
    first_more (Some one) None f x =
        one_first one f (all_before bytes s o p one.0 (is_refused one.1) x)
    first_more (Some one) (Some other) f x = cases (comes_before other one) refl
      where
        cases : (t : Bool) → comes_before other one ≡ t
            → IsFirstFound bytes both (if t then Some other else Some one)
        cases true e =
            other_first other
            (λ i d lt. less_before bytes (get_or ss i d) (os i d lt) (ps i d lt) one other e
            (f.3 i d lt)) x
        cases false e = one_first one f (found_behind bytes s o p one other e x)

-- what holds of all items holds of one
pub item_of : {X : Type 0} (P : X → Type 0) (xs : List X) (i : ℕ) (d : X) → All P xs
    → i < length xs → d ≡ get_or xs i d → P d
item_of P xs i d all h is = rw is (all i d h)

-- one service more
pub first_next : (bytes : List ℕ) (services : List Service) (i : ℕ) (d : Service)
    (first found result : Option (ℕ × Verdict)) → All IsOrderly services
    → All (HasEventLines bytes) services → i < length services
    → d ≡ get_or services i d → IsFirstFound bytes (take i services) first → IsFoundOf bytes d found
    → result ≡ earlier first found → IsFirstFound bytes (take (i + 1) services) result
first_next bytes services i d first found result os ps h is f x same =
    let more : take (i + 1) services ≡ take i services ++ d ∷ [] =
    take_more services i d h ∙ ap (λ (e : Service). take i services ++ e ∷ []) (sym is) in
    rw (more, same)
    (first_more bytes (take i services) (All-take IsOrderly i services os)
    (All-take (HasEventLines bytes) i services ps) d (item_of IsOrderly services i d os h is)
    (item_of (HasEventLines bytes) services i d ps h is) first found f x)

-- all services
pub first_whole : (bytes : List ℕ) (services : List Service) (i : ℕ)
    (first result : Option (ℕ × Verdict)) → length services ≤ i
    → IsFirstFound bytes (take i services) first → first ≡ result
    → IsFirstFound bytes services result
first_whole bytes services i first result h f is =
    rw (← is) (rw (take_all i services h) at f)

pub first_none : (bytes : List ℕ) → IsFirstFound bytes [] None
first_none bytes = All-nil IsSeenRightly

-- what is reported by what was found
pub explored : (bytes : List ℕ) (s : Service) (c : Cut) (found : WindowVerdict Watched)
    (reported : Result (Window Watched) (ℕ × Verdict))
    → IsVerdict (StepOf s) (news s) s.events found
    → (c ≡ cut.Never → IsWhole (StepOf s) (news s) s.events found)
    → IsReportOf bytes s found reported → Explores bytes s c reported
explored bytes s c found (Err reported) is whole f = f
explored bytes s c found (Ok window) is whole same =
    let all = rw same at is in (all.0, all.1.some, λ never. rw same at (whole never))

-- an index of an event is one of a line
pub line_within : (s : Service) (index : ℕ) (why : Stop) → IsOrderly s
    → IsStop (StepOf s) (news s) s.events index why → index < length s.event_lines
line_within s index why o x = omega arith
