-- Calls that are made at once: those that change nothing, and those that come first or overlap
-- nothing. Where no call is open, what comes next is judged from the states.
use Rattle.histories.proofs.Words.{[], ◌≡◌, ◌↔◌, slice_set, true, ℕ, zero, suc, ◌+◌, ◌<◌, List, ◌∷◌, ◌++◌, length, get_or, Option, refl, sym, ◌∙◌, ap, subst, arith, inl, inr, append_assoc, cases_lt, Event, Begin, End, Config, Link, AreAll, begins, times, Explains, Leads, HasSlot, IsFrontier, IsSound, IsTable, Path, order_at, order_of, path_more, path_of, Agrees, IsQuiet, IsMadeIn, CallsAloneAreRuns, ◌≤◌, AllPairs, IsIdle, IsSame, IsWaiting, cleared, IsCopy, IsSettled, Settles, Spot, WaitsInNone, spot_of, IsClosed, IsClosing, IsMadeFirst, IsNextAt, bit_at, map, AreEach, IsUnlinked, Contains, HaveCalls, IsLedTo}
use Rattle.histories.proofs.Lists.{nothing_in, one_of_one, only, order_more, no_times, not_some, split_times, times-append, times-cons, times_one, times_other, times_same, contains_map_of, contains_of_map, each_from, each_to, enough}
use Rattle.histories.specs.Histories.{calls_alone, in_order}
use Rattle.histories.proofs.Events.{answered_now, begins_begin, begins_ends, begins_none, ended_now, ended_still, open_begin_cases, open_begin_now, open_end_before, open_end_other, sound_begin, sound_end, sound_none, quiet_empty}
use Rattle.histories.proofs.Running.{leads_push, leads_split, lighter_idle, lighter_then, runs_then, runs_fewer, runs_nothing, cleared_same, slot_64}
use Rattle.histories.proofs.Explaining.{behind_open, explains_begin, explains_end, explains_front, explains_open, explains_pushed}
use Rattle.histories.proofs.Frontiers.{explains_none, no_calls, frontier_fresh, table_none}
use Rattle.histories.proofs.Closing.{closing_begin, closing_more, goes_by, path_none, path_then}
use Rattle.histories.proofs.Gathering.{gathers_new, gathers_none, settles_call, settles_one, settles_only}

-- one event after the other
two_more : (es : List Event) (a b : Event) → es ++ a ∷ b ∷ [] ≡ (es ++ a ∷ []) ++ b ∷ []
two_more es a b = sym (append_assoc es (a ∷ []) (b ∷ []))

-- calls that have begun have numbers below the count, and have ended
record IsAlone (es : List Event) (count : ℕ) : Type 0 where
  sound : IsSound es
  below : (c : ℕ) → 0 < begins c es → c < count
  ended : IsQuiet es

alone_fresh : (es : List Event) (count : ℕ) → IsAlone es count → begins count es ≡ 0
alone_fresh es count a = not_some _ (λ some. absurd (omega (arith, a.below count some)))

alone_more : (es : List Event) (count : ℕ) → IsAlone es count
    → IsAlone (es ++ Begin count ∷ End count ∷ []) (suc count)
alone_more es count a =
    rw (two_more es (Begin count) (End count))
    (let mid : List Event = es ++ Begin count ∷ [] in
    let fresh = alone_fresh _ _ a in
    let here : 0 < begins count mid = (open_begin_now _ _ a.sound fresh).0 in
    let counts : (c : ℕ) → begins c (mid ++ End count ∷ []) ≡ begins c es + times c (count ∷ []) =
    λ c. begins_ends _ _ _ _ (inl refl) ∙ begins_begin _ _ _ in record {
      sound = grind (arith, sound_end, sound_begin);
      below = λ c some. grind (arith, cases_lt, times_same);
      ended = λ c some. grind (arith, cases_lt, ended_still, times_same, ended_now);
    })

is_alone : (count : ℕ) → IsAlone (calls_alone count) count
unfolding calls_alone
is_alone zero = grind (arith, sound_none, begins_none)
is_alone (suc count) = alone_more _ _ (is_alone count)

module _ {S : Type 0} (Step : S → ℕ → S → Type 0) where
  -- a call that is made alone after an order
  explains_alone : (es : List Event) (count : ℕ) (old mid new : S) (order : List ℕ) → IsSound es
      → begins count es ≡ 0 → Explains Step es old order mid → Step mid count new
      → Explains Step (es ++ Begin count ∷ End count ∷ []) old (order ++ count ∷ []) new
  explains_alone es count old mid new order sound fresh ex step =
      rw (two_more es (Begin count) (End count))
      (
      let none : times count order ≡ 0 =
      not_some _ (λ some. absurd (omega (arith, fresh, ex.begun count some))) in
      explains_end _ _ _ _ _ _ _ (inl refl)
      (λ is. omega (arith, times-append count order (count ∷ []), times_one count))
      (explains_pushed _ _ _ _ _ _ _ (open_begin_now _ _ sound fresh)
      none (explains_begin _ _ _ _ _ _ fresh ex) step))

  -- and an order of the whole has it last
  explained_alone : (es : List Event) (count : ℕ) (old new : S) (order : List ℕ) → IsSound es
      → begins count es ≡ 0 → IsQuiet es
      → Explains Step (es ++ Begin count ∷ End count ∷ []) old order new
      → (front : List ℕ) × (mid : S) × (order ≡ front ++ count ∷ [])
      × Explains Step es old front mid × Step mid count new
  explained_alone es count old new order sound fresh quiet whole_ex =
      let ex = rw (two_more es (Begin count) (End count)) at whole_ex in
      let es_mid : List Event = es ++ Begin count ∷ [] in
      let open_ex = explains_open _ _ _ _ _ _ _ (inl refl) ex in
      let made : 0 < times count order = ex.answered count (answered_now _ _) in
      let parts = split_times _ _ made in
      let front = parts.0 in
      let back = parts.1 in
      let whole = subst (λ (l : List ℕ). Explains Step es_mid old l new) parts.2 open_ex in
      let counts : (c : ℕ)
      → times c (front ++ count ∷ back) ≡ times c front + times c (count ∷ []) + times c back =
      λ c. omega (arith, times-append c front (count ∷ back), times-cons c count back) in
      let empty : back ≡ [] =
      no_times _ (λ c. not_some _ (λ some.
      let other : times c (count ∷ []) ≡ 0 = grind (arith, times_other, times_one) in
      let begun : 0 < begins c es =
      omega (arith, whole.begun c (omega (arith, some, counts c)), begins_begin c count es, other)
      in
      behind_open _ _ _ _ _ _ _ _ whole some (quiet c begun))) in
      let leads = leads_split _ _ _ _ _ whole.leads in
      let last = subst (λ (l : List ℕ). Leads Step leads.0 (count ∷ l) new) empty leads.2 in (
        front,
        leads.0,
        parts.2 ∙ ap (λ (l : List ℕ). front ++ count ∷ l) empty,
        explains_front _ _ _ _ _ _ _ _ sound fresh whole leads.1,
        subst (λ s. Step leads.0 count s) (sym last.2) last.1,
      )

  alone_there : (count : ℕ) (old new : S) (order : List ℕ)
      → Explains Step (calls_alone count) old order new
      → (order ≡ in_order count) × Leads Step old (in_order count) new
  unfolding calls_alone in_order
  alone_there zero old new order ex = let is = no_calls _ _ _ _ ex in (is.0, is.1)
  alone_there (suc count) old new order ex =
      let a = is_alone _ in
      let r = explained_alone _ _ _ _ _ a.sound (alone_fresh _ _ a) a.ended ex in
      let before = alone_there count old r.1 r.0 r.3 in (
        r.2 ∙ ap (λ (l : List ℕ). l ++ count ∷ []) before.0,
        leads_push _ _ _ _ _ _ before.1 r.4,
      )

  alone_back : (count : ℕ) (old new : S) → Leads Step old (in_order count) new
      → Explains Step (calls_alone count) old (in_order count) new
  unfolding calls_alone in_order
  alone_back zero old new leads = rw leads (explains_none _ _)
  alone_back (suc count) old new leads =
      let parts = leads_split _ _ _ _ _ leads in
      let last = parts.2 in
      let a = is_alone _ in
      explains_alone _ _ _ _ _ _ a.sound (alone_fresh _ _ a) (alone_back count old parts.0 parts.1)
      (rw (← last.2) at last.1)

  pub calls_alone_are_runs : CallsAloneAreRuns Step
  calls_alone_are_runs count old new order = (
    λ ex. alone_there _ _ _ _ ex,
    λ is. rw is.0 (alone_back _ _ _ is.1),
  )

module _ {S : Type 0} (Step : S → ℕ → S → Type 0) (slots : List (Option ℕ)) (es : List Event)
    (c : ℕ) (sound : IsSound es) (fresh : begins c es ≡ 0) (table : IsTable es slots)
    (empty : (slot call : ℕ) → HasSlot slots slot call → ⊥) where
  -- no call is open after a call alone
  table_alone : IsTable (es ++ Begin c ∷ End c ∷ []) slots
  table_alone = record {
    each = λ slot call has. absurd (empty slot call has);
    all = λ call is.
        let now = rw (two_more es (Begin c) (End c)) at is in
        elim (open_begin_cases _ _ _ (open_end_before _ _ _ _ (inl refl) now)) [
          | inl before ↦ table.all call before
          | inr same ↦ absurd (open_end_other _ _ _ _ (inl refl) now (sym same))
        ];
    apart = table.apart;
    few = table.few;
  }

  -- a call alone is made in the one configuration
  pub frontier_alone : (links : List Link) (olds : List S) (config made : Config S)
      → AreAll (Step config.state c) (made.state ∷ [])
      → path_of made ≡ path_more (path_of config) (c ∷ []) → made.waiting ≡ config.waiting
      → IsFrontier Step links slots es olds (config ∷ [])
      → IsFrontier Step links slots (es ++ Begin c ∷ End c ∷ []) olds (made ∷ [])
  frontier_alone links olds config made all path waits f =
      let is = f.sound config (0, omega arith, refl) in
      let order : order_of links made ≡ order_of links config ++ c ∷ [] =
      ap (λ (p : Path). order_at links p) path ∙ order_more _ _ _ in
      record {
        sound = λ k has. rw (only _ _ has) (record {
          old = is.old;
          from = is.from;
          explains = rw (← order) at (explains_alone _ _ _ _ _ _ _
              sound fresh is.explains (all.0 0 made.state (omega arith)));
          leaves = λ slot call has. absurd (empty slot call has);
          only = rw waits is.only;
          within = omega (arith, is.within, ap (λ (p : Path). p.base) path);
        });
        complete = λ old order new from ex.
            let r = explained_alone _ _ _ _ _ _ sound fresh (quiet_empty _ _ table empty) ex in
            let lead = f.complete old r.0 r.1 from r.3 in
            let mid : r.1 ≡ config.state =
            runs_nothing _ _ _ _ _ _ _ empty lead.2.2.2
            ∙ ap (λ (x : Config S). x.state) (only _ _ lead.2.1) in
            let last : new ≡ made.state =
            only _ _ (all.1 new (rw (← mid) r.4)) in (
              0,
              λ slot call has. absurd (empty slot call has),
              (
                made,
                (0, omega arith, refl),
                ([], made.waiting, (last, refl), λ slot call has. absurd (empty slot call has)),
              ),
            );
        once = λ i j d less within same. absurd (omega (arith, less, within));
        table = table_alone;
      }

-- where the machine makes the call as the history has it, it leaves the same states
all_as : {S : Type 0} (Made Step : S → Type 0) (states : List S)
    → ((new : S) → Made new ↔ Step new) → AreAll Made states → AreAll Step states
all_as Made Step states same all = grind arith

-- the call was made in the one configuration
pub made_alone : {M S : Type 0} (Step : M → S → ℕ → S → Type 0) (machine : M) (links : List Link)
    (slots : List (Option ℕ)) (configs : List (Config S)) (config made : Config S) (c : ℕ)
    → ((slot call : ℕ) → HasSlot slots slot call → ⊥) → length configs ≡ 1
    → config ≡ get_or configs 0 config → IsMadeIn (Step machine) config c made true → (whole : M)
    (events : List Event) (olds : List S)
    → Agrees (Step machine) (Step whole) (events ++ Begin c ∷ []) → IsSound events
    → begins c events ≡ 0 → IsFrontier (Step whole) links slots events olds configs
    → IsFrontier (Step whole) links slots (events ++ Begin c ∷ End c ∷ []) olds
    (slice_set configs 0 made) × (0 < length (slice_set configs 0 made))
made_alone {M} {S} Step machine links slots configs config made c empty one is m whole events olds
    agrees sound fresh f =
    let parts = one_of_one configs config made one is in
    rw parts.1 (
      frontier_alone (Step whole) slots events c sound fresh f.table empty links olds config made
          (all_as _ _ (made.state ∷ [])
          (λ new. agrees c (open_begin_now _ _ sound fresh) config.state new) m.0) m.1 m.2
          (rw parts.0 at f),
      omega arith,
    )

-- or nothing changed
pub made_none : {S : Type 0} (configs : List (Config S)) (config made : Config S)
    → length configs ≡ 1 → config ≡ get_or configs 0 config → made ≡ config
    → slice_set configs 0 made ≡ configs
made_none {S} configs config made one is same = grind (arith, one_of_one)

module _ {S : Type 0} (Step : S → ℕ → S → Type 0) (slots : List (Option ℕ)) where
  -- nothing was made
  pub settled_none : (config : Config S) (copy : Spot S) → IsCopy config copy
      → IsSettled Step slots (spot_of config) copy
  settled_none config copy is = record {
    state = is.0;
    calls = [];
    runs = (refl, is.1);
    lighter = λ at c has. inl (ap (λ w. bit_at w at) is.1);
    made = is.2 ∙ path_none _;
  }

  -- one call more
  pub settled_then : (from mid one : Spot S) → IsSettled Step slots from mid
      → IsSettled Step slots mid one → IsSettled Step slots from one
  settled_then from mid one a b = grind (arith, runs_then, lighter_then, path_then)

  pub settled_call : (config : Config S) (one : Spot S) (slot call : ℕ) → length slots ≤ 64
      → IsWaiting slots config.waiting slot call → Step config.state call config.state
      → IsIdle Step call → one.state ≡ config.state → one.waiting ≡ cleared config.waiting slot
      → one.made ≡ path_more (path_of config) (call ∷ [])
      → IsSettled Step slots (spot_of config) one
  settled_call config one slot call few is step idle state set made = record {
    state = state;
    calls = call ∷ [];
    runs = (slot, is, (config.state, step, (refl, set)));
    lighter = rw set (lighter_idle _ _ _ _ _ few is.0 idle);
    made = made;
  }

module _ {S : Type 0} (Step : S → ℕ → S → Type 0) (slots : List (Option ℕ))
    (few : length slots ≤ 64) (slot call : ℕ) (here : HasSlot slots slot call)
    (config made settled : Config S) (first : IsMadeFirst Step slots slot call config made true)
    (idle : IsSettled Step slots (spot_of made) (spot_of settled)) where
  gone : bit_at settled.waiting slot ≡ 0
  gone = grind (arith, slot_64, bit_at, cleared_same, runs_fewer)

  added : Settles Step slots (IsNextAt Step slots config slot) [] (settled ∷ [])
  added =
      settles_call Step slots config slot call (made.state ∷ []) _ _ (here, first.0)
      (enough _ (made.state ∷ []) (omega arith) first.2)
      (settles_only Step slots _ _ _ _ (rw (← first.4, ← first.3)
      (settles_one Step slots (spot_of made) settled _ _ idle
      (gathers_new [] settled (λ i d h. absurd (omega arith))))))

  closing : IsClosing Step slots (config ∷ []) slot [] (settled ∷ []) (length slots)
  closing =
      (closing_more _ _ _ _ _ _ _ _ _ _ few here (closing_begin _ _ _ _)
      (λ new rest l over. inr l) (gathers_none _ _ (λ k found. absurd
      (omega (
        arith,
        first.0,
        found.2.0,
        ap (λ (x : Config S). bit_at x.waiting slot) (only config found.0 found.1),
      )))) (goes_by _ _ _ _ config _ _ few here first.0 first.1 added)).0

  pub closed_in_place : IsClosed Step slots (config ∷ []) slot (settled ∷ [])
  closed_in_place = record {
    sound = λ k has. (closing.under_way k has, rw (only _ _ has) gone);
    complete = λ new rest l over.
        elim (closing.complete (λ many. absurd (omega (arith, many))) new rest l over) [
          | inl none ↦ absurd (nothing_in _ none.1)
          | inr there ↦ there
        ];
    once = λ i j d less within. absurd (omega (arith, less, within));
  }

-- the call in the slot waits in none
pub closed_already : {S : Type 0} (Step : S → ℕ → S → Type 0) (slots : List (Option ℕ))
    (slot : ℕ) (configs : List (Config S)) → WaitsInNone slot configs
    → AllPairs (λ a b. ¬ (IsSame a b)) configs → IsClosed Step slots configs slot configs
closed_already {S} Step slots slot configs none apart = record {
  sound = λ k has. ((k, has, ([], (refl, refl), path_none _)), rw (← has.2) (none has.0 k has.1));
  complete = λ new rest l over. l;
  once = apart;
}

module _ {S : Type 0} (Step : S → ℕ → S → Type 0) where
  -- where no call is open, the configurations have the states that orders lead to
  pub led_anew : (links : List Link) (slots : List (Option ℕ)) (es : List Event) (olds : List S)
      (configs : List (Config S)) → ((slot call : ℕ) → HasSlot slots slot call → ⊥)
      → IsFrontier Step links slots es olds configs → (s : S)
      → Contains (map (λ config. config.state) configs) s ↔ IsLedTo Step es olds s
  led_anew links slots es olds configs empty f s = (
    λ has.
        let from = contains_of_map _ _ _ has in
        let is = f.sound from.0 from.1 in
        (is.old, order_of links from.0, is.from, rw from.2 at is.explains),
    λ to.
        let lead = f.complete to.0 to.1 s to.2 to.3 in
        rw (runs_nothing _ _ _ _ _ _ _ empty lead.2.2.2) (contains_map_of _ _ _ lead.2.1),
  )

  -- a front with new orders of no calls
  pub fresh_anew : (links : List Link) (slots : List (Option ℕ)) (configs unlinked : List (Config
      S)) → length slots ≤ 64 → ((slot call : ℕ) → HasSlot slots slot call → ⊥)
      → ((k : Config S) → Contains configs k → HaveCalls slots k.waiting)
      → AllPairs (λ a b. ¬ (IsSame a b)) configs → AreEach IsUnlinked configs unlinked
      → IsFrontier Step links slots [] (map (λ config. config.state) configs) unlinked
  fresh_anew links slots configs unlinked few empty only once u =
      let state_of : Config S → S = λ config. config.state in
      frontier_fresh Step links slots (map state_of configs) unlinked
      (table_none Step slots few empty) (λ k has.
      let from = each_from IsUnlinked configs unlinked k u has in (
        rw from.2.0 (contains_map_of state_of configs from.0 from.1),
        from.2.2,
        rw from.2.1 (only from.0 from.1),
      )) (λ old has.
      let from = contains_of_map state_of configs old has in
      let one = each_to IsUnlinked configs unlinked from.0 u from.1 in
      (one.0, one.1, one.2.0 ∙ from.2)) (λ i j d less within same.
      let first = u.1 i d (omega (arith, less, within)) in
      let second = u.1 j d within in
      once i j d less (omega (arith, within, u.0))
      (sym first.0 ∙ (same.0 ∙ second.0), sym first.1 ∙ (same.1 ∙ second.1)))
