-- Configurations that are gathered.
use Rattle.histories.proofs.Words.{[], ◌≡◌, Option, ℕ, ◌+◌, ◌<◌, ◌⊎◌, List, ◌∷◌, ◌++◌, length, take, get_or, refl, sym, ◌∙◌, ap, subst, arith, inl, inr, true, false, bit_at, cases_eq, cases_order, length_push, take_more, All-contains, Contains-append_left, Contains-push, Contains-push_cases, all_pairs_push, slice_set, Config, AreEnough, AllPairs, Contains, map, length-map, ◌≢◌, IsSame, IsWaiting, Path, cleared, path_more, path_of, Adds, FromOne, Gathers, IsBegun, IsCopy, IsDone, IsDropped, IsKnown, IsMadeIn, IsNextAt, IsNextBeside, IsNextIn, IsOpened, IsSettled, IsSpot, Settles, Spot, spot_of}
use Rattle.histories.specs.Gathering.{IsNext}
use Rattle.histories.proofs.Running.{slot_once}
use Rattle.histories.proofs.Lists.{nothing_in, one_of_one, contains_map_of, no_more, enough}

spot_with : {S : Type 0} → S → ℕ → Path → Spot S
spot_with state waiting made = record { state = state; waiting = waiting; made = made }

-- two spots with the same parts
spot_is : {S : Type 0} (one other : Spot S) → IsSpot other.state other.waiting other.made one
    → one ≡ other
unfolding spot_with
spot_is {S} one other same = grind (arith, spot_with)

module _ {S : Type 0} where
  -- nothing is added
  pub adds_none : (Fact : Spot S → Type 0) (old : List (Config S)) → Adds Fact old old
  adds_none Fact old = grind arith

  -- the same, by what follows
  pub adds_as : (P Q : Spot S → Type 0) (old new : List (Config S)) → ((k : Spot S) → P k → Q k)
      → Adds P old new → Adds Q old new
  adds_as P Q old new follows a = grind arith

  -- first some are added, and then others
  pub adds_then : (P Q R : Spot S → Type 0) (old mid new : List (Config S))
      → ((k : Spot S) → P k → R k) → ((k : Spot S) → Q k → R k) → Adds P old mid
      → Adds Q mid new → Adds R old new
  adds_then P Q R old mid new first second f g = grind arith

  pub gathers_none : (Found : Spot S → Type 0) (old : List (Config S))
      → ((k : Spot S) → ¬ (Found k)) → Gathers Found old old
  gathers_none Found old none =
      record { adds = adds_none _ _; complete = λ k found. absurd (none k found) }

  -- the same, found by other words
  gathers_as : (P Q : Spot S → Type 0) (old new : List (Config S)) → ((k : Spot S) → P k → Q k)
      → ((k : Spot S) → Q k → P k) → Gathers P old new → Gathers Q old new
  gathers_as P Q old new there back g = grind (arith, adds_as)

  -- one that is there already
  pub gathers_known : (configs : List (Config S)) (config : Config S)
      → IsKnown configs config true → Gathers (IsCopy config) configs configs
  gathers_known configs config is = record {
    adds = adds_none _ _;
    complete = λ k copy. (is.0, is.1, (is.2.0 ∙ sym copy.0, is.2.1 ∙ sym copy.1));
  }

  -- one that is not there yet
  pub gathers_new : (configs : List (Config S)) (config : Config S) → IsKnown configs config false
      → Gathers (IsCopy config) configs (configs ++ config ∷ [])
  gathers_new configs config is = record {
    adds = record {
      sound = λ k has. elim (Contains-push_cases configs config k has) [
        | inl m ↦ inl m
        | inr e ↦ inr (rw (← e) (refl, refl, refl))
      ];
      kept = λ k has. Contains-append_left configs (config ∷ []) k has;
      longer = λ n h. omega (arith, h, length_push configs config);
      once = λ a. all_pairs_push (λ x y. ¬ (IsSame x y)) configs config a (λ k d h. is k d h);
    };
    complete = λ k copy. (config, Contains-push configs config, (sym copy.0, sym copy.1));
  }

  module _ {X : Type 0} (Fact : X → Spot S → Type 0) where
    -- of none, nothing is found
    pub gathers_no_one : (old : List (Config S)) → Gathers (FromOne Fact []) old old
    gathers_no_one old = gathers_none _ _ (λ k f. nothing_in _ f.1)

    -- one more of those from which others are found
    from_either : (values : List X) (from : X) (k : Spot S) → FromOne Fact (values ++ from ∷ []) k
        → FromOne Fact values k ⊎ Fact from k
    from_either values from k r =
        elim (Contains-push_cases values from r.0 r.1) [
          | inl m ↦ inl (r.0, m, r.2)
          | inr e ↦ inr (rw e r.2)
        ]

    pub from_first : (values : List X) (from : X) (k : Spot S) → FromOne Fact values k
        → FromOne Fact (values ++ from ∷ []) k
    from_first values from k p = (p.0, Contains-append_left values (from ∷ []) p.0 p.1, p.2)

    pub from_last : (values : List X) (from : X) (k : Spot S) → Fact from k
        → FromOne Fact (values ++ from ∷ []) k
    from_last values from k q = (from, Contains-push values from, q)

    pub gathers_pushed : (values : List X) (from : X) (old mid new : List (Config S))
        → Gathers (FromOne Fact values) old mid → Gathers (Fact from) mid new
        → Gathers (FromOne Fact (values ++ from ∷ [])) old new
    gathers_pushed values from old mid new f g = record {
      adds = adds_then _ _ _ _ _ _ (from_first values from) (from_last values from) f.adds g.adds;
      complete = λ k r.
          elim (from_either values from k r) [
            | inl p ↦ let m = f.complete k p in (m.0, g.adds.kept m.0 m.1, m.2)
            | inr q ↦ g.complete k q
          ];
    }

    -- the same of an index
    pub gathers_one : (values : List X) (at : ℕ) (from : X) (old mid new : List (Config S))
        → at < length values → from ≡ get_or values at from
        → Gathers (FromOne Fact (take at values)) old mid → Gathers (Fact from) mid new
        → Gathers (FromOne Fact (take (at + 1) values)) old new
    gathers_one values at from old mid new h is f g =
        rw (take_more values at from h, ← is) (gathers_pushed _ _ _ _ _ f g)

  -- of those that are found by copies of others
  pub gathers_through : (Fact : Spot S → Type 0) (others old new : List (Config S))
      → Gathers Fact [] others → Gathers (FromOne IsCopy others) old new → Gathers Fact old new
  gathers_through Fact others old new f g = record {
    adds = adds_as (FromOne IsCopy others) Fact _ _
        (λ k copy. elim (f.adds.sound copy.0 copy.1) [
          | inl none ↦ absurd (nothing_in _ none)
          | inr found ↦ rw (spot_is k (spot_of copy.0) copy.2) found
        ]) g.adds;
    complete = λ spot found.
        let other = f.complete spot found in
        let known = g.complete (spot_of other.0) (other.0, other.1, (refl, refl, refl)) in
        (known.0, known.1, (known.2.0 ∙ other.2.0, known.2.1 ∙ other.2.1));
  }

  -- a configuration is gathered where it is done
  pub gathers_done : (slot : ℕ) (config : Config S) (old new : List (Config S))
      → bit_at config.waiting slot ≡ 0 → Gathers (IsCopy config) old new
      → Gathers (IsDone slot config) old new
  gathers_done slot config old new gone g = gathers_as _ _ _ _ (λ k p. (gone, p)) (λ k p. p.1) g

  pub gathers_not_done : (slot : ℕ) (config : Config S) (old : List (Config S))
      → bit_at config.waiting slot ≡ 1 → Gathers (IsDone slot config) old old
  gathers_not_done slot config old waits = gathers_none _ _ (λ k f. absurd (omega (arith, f.0)))

  -- or where its call is dropped
  pub gathers_dropped : (slot : ℕ) (config dropped : Config S) (old new : List (Config S))
      → bit_at config.waiting slot ≡ 1 → dropped.state ≡ config.state
      → dropped.waiting ≡ cleared config.waiting slot → path_of dropped ≡ path_of config
      → Gathers (IsCopy dropped) old new → Gathers (IsDropped slot config) old new
  gathers_dropped slot config dropped old new waits state gone made g = search (arith, gathers_as)

module _ {S : Type 0} (Step : S → ℕ → S → Type 0) (slots : List (Option ℕ)) where
  -- a copy of what was settled
  settled_copy : (from : Spot S) (one : Config S) (copy : Spot S)
      → IsSettled Step slots from (spot_of one) → IsCopy one copy → IsSettled Step slots from copy
  settled_copy from one copy s is = grind arith

  -- nothing is added
  pub settles_none : (Found : Spot S → Type 0) (old : List (Config S))
      → (¬ (4096 < length old) → (k : Spot S) → ¬ (Found k)) → Settles Step slots Found old old
  settles_none Found old none =
      record { adds = adds_none _ _; complete = λ few k found. absurd (none few k found) }

  -- there are too many
  pub settles_full : (Found : Spot S → Type 0) (old : List (Config S)) → 4096 < length old
      → Settles Step slots Found old old
  settles_full Found old many = settles_none _ _ (λ few k found. few many)

  -- the same, found by other words
  settles_as : (P Q : Spot S → Type 0) (old new : List (Config S)) → ((k : Spot S) → P k → Q k)
      → ((k : Spot S) → Q k → P k) → Settles Step slots P old new → Settles Step slots Q old new
  settles_as P Q old new there back g = record {
    adds = adds_as _ _ _ _ (λ k p. (p.0, there p.0 p.1, p.2)) g.adds;
    complete = λ few k q. g.complete few k (back k q);
  }

  -- first some are found, and then others
  settles_then : (P Q R : Spot S → Type 0) (old mid new : List (Config S))
      → ((k : Spot S) → R k → P k ⊎ Q k) → ((k : Spot S) → P k → R k)
      → ((k : Spot S) → Q k → R k) → Settles Step slots P old mid
      → Settles Step slots Q mid new → Settles Step slots R old new
  settles_then P Q R old mid new either first second f g = record {
    adds = adds_then _ _ _ _ _ _ (λ k p. (p.0, first p.0 p.1, p.2))
        (λ k q. (q.0, second q.0 q.1, q.2)) f.adds g.adds;
    complete = λ few k r.
        elim (either k r) [
          | inl p ↦
              let m = f.complete (λ many. few (g.adds.longer 4096 many)) k p in
              (m.0, g.adds.kept m.0 m.1, m.2, m.3)
          | inr q ↦ g.complete few k q
        ];
  }

  -- a configuration is added, which has come from what was found by calls that change nothing
  pub settles_one : (from : Spot S) (one : Config S) (old new : List (Config S))
      → IsSettled Step slots from (spot_of one) → Gathers (IsCopy one) old new
      → Settles Step slots (IsSpot from.state from.waiting from.made) old new
  settles_one from one old new is g = record {
    adds = adds_as _ _ _ _ (λ k copy. (from, (refl, refl, refl), settled_copy _ one _ is copy))
        g.adds;
    complete = λ few k copy.
        let known = g.complete (spot_of one) (refl, refl, refl) in (
          known.0,
          known.1,
          known.2.0 ∙ (is.state ∙ sym copy.0),
          rw (known.2.1, copy.1) is.lighter,
        );
  }

  module _ {X : Type 0} (Fact : X → Spot S → Type 0) where
    pub settles_no_one : (old : List (Config S)) → Settles Step slots (FromOne Fact []) old old
    settles_no_one old = settles_none _ _ (λ few k f. nothing_in _ f.1)

    -- from one value more
    pub settles_pushed : (values : List X) (from : X) (old mid new : List (Config S))
        → Settles Step slots (FromOne Fact values) old mid → Settles Step slots (Fact from) mid new
        → Settles Step slots (FromOne Fact (values ++ from ∷ [])) old new
    settles_pushed values from old mid new f g =
        settles_then _ _ _ _ _ _ (from_either Fact values from) (from_first Fact values from)
        (from_last Fact values from) f g

    pub settles_only : (from : X) (old new : List (Config S))
        → Settles Step slots (Fact from) old new
        → Settles Step slots (FromOne Fact (from ∷ [])) old new
    settles_only from old new g = settles_pushed [] _ _ _ _ (settles_no_one _) g

  -- in the one configuration that there is
  pub settles_alone : (slot : ℕ) (configs : List (Config S)) (from one : Config S)
      → length configs ≡ 1 → from ≡ get_or configs 0 from → IsBegun Step slots slot from one
      → Settles Step slots (FromOne (IsOpened slot) configs) [] (slice_set configs 0 one)
  settles_alone slot configs from one many is begun =
      let parts = one_of_one configs from one many is in
      rw (parts.1, parts.0) (settles_only (IsOpened slot) _ _ _
      (settles_one _ one _ _ begun (gathers_new [] one (λ i d h. absurd (omega arith)))))

  -- where states that differ were found, more than are followed, so are configurations
  many_found : (from : Config S) (slot call : ℕ) (states : List S) (old new : List (Config S))
      → 4096 < length states → AllPairs (λ a b. a ≢ b) states
      → Settles Step slots (FromOne (IsNextIn from slot call) states) old new
      → ¬ (4096 < length new) → ⊥
  many_found from slot call states old new many differ g few =
      let state_of : Config S → S = λ k. k.state in
      let fewer =
      no_more states (map state_of new) differ (λ s has.
      let known =
      g.complete few (record {
        state = s;
        waiting = cleared from.waiting slot;
        made = path_more (path_of from) (call ∷ []);
      }) (s, has, (refl, refl, refl)) in
      subst (Contains (map state_of new)) known.2
      (contains_map_of state_of new known.0 known.1)) in
      few (omega (arith, fewer, many, length-map new state_of))

  pub settles_call : (from : Config S) (slot call : ℕ) (states : List S)
      (old new : List (Config S)) → IsWaiting slots from.waiting slot call
      → AreEnough (Step from.state call) states
      → Settles Step slots (FromOne (IsNextIn from slot call) states) old new
      → Settles Step slots (IsNextAt Step slots from slot) old new
  settles_call from slot call states old new waits are g =
      let there : (k : Spot S) → FromOne (IsNextIn from slot call) states k
      → IsNextAt Step slots from slot k = λ k p. (
        call,
        waits,
        rw p.2.0 (All-contains (Step from.state call) states p.0 are.0 p.1),
        p.2.1,
        p.2.2,
      ) in
      elim are.2 [
        | inl all ↦
            settles_as _ _ _ _ there
            (λ k p.
            let same : p.0 ≡ call = slot_once slots slot p.0 call p.1.0 waits.0 in (
              k.state,
              all k.state (subst (λ c. Step from.state c k.state) same p.2),
              (refl, p.3, p.4 ∙ ap (λ c. path_more (path_of from) (c ∷ [])) same),
            )) g
        | inr more ↦ record {
          adds = adds_as _ _ _ _ (λ k p. (p.0, there p.0 p.1, p.2)) g.adds;
          complete = λ few k q. absurd
              (many_found from slot call states old new more are.1 g few);
        }
      ]

  pub settles_state : (from next : Config S) (slot call : ℕ) (state : S)
      (old new : List (Config S)) → next.state ≡ state → next.waiting ≡ cleared from.waiting slot
      → path_of next ≡ path_more (path_of from) (call ∷ [])
      → Settles Step slots (IsCopy next) old new
      → Settles Step slots (IsNextIn from slot call state) old new
  settles_state from next slot call state old new same waits made g = search (arith, settles_as)

  -- where the call was made in place
  pub settles_made : (from next : Config S) (made : Config S) (slot call : ℕ)
      (old new : List (Config S)) → IsWaiting slots from.waiting slot call
      → IsMadeIn Step from call made true → next.state ≡ made.state
      → next.waiting ≡ cleared made.waiting slot → path_of next ≡ path_of made
      → Settles Step slots (IsCopy next) old new
      → Settles Step slots (IsNextAt Step slots from slot) old new
  settles_made from next made slot call old new waits is state set path g =
      settles_call from _ _ (made.state ∷ []) _ _ waits
      (enough _ (made.state ∷ []) (omega arith) is.0)
      (settles_only _ _ _ _ (rw (← state, ← is.2, ← set, ← is.1, ← path) g))

  -- one slot more, whose call is made if it waits and is not this one
  pub settles_slot : (from : Config S) (slot other : ℕ) (old mid new : List (Config S))
      → Settles Step slots (IsNextBeside Step slots from slot other) old mid
      → Settles Step slots (λ k. (other ≡ slot → ⊥) × IsNextAt Step slots from other k) mid new
      → Settles Step slots (IsNextBeside Step slots from slot (other + 1)) old new
  settles_slot from slot other old mid new f g =
      settles_then _ _ _ _ _ _
      (λ k r. elim (cases_order r.0 other) [
        | inl e ↦ inr (rw e at r.2, rw (← e) r.3)
        | inr (inl less) ↦ inl (r.0, less, r.2, r.3)
        | inr (inr more) ↦ absurd (omega (arith, r.1))
      ]) (λ k p. (p.0, omega (arith, p.1), p.2, p.3))
      (λ k q. (other, omega arith, q.0, q.1)) f g

  pub settles_beside : (from : Config S) (slot other : ℕ) (old new : List (Config S))
      → (other ≡ slot → ⊥) → Settles Step slots (IsNextAt Step slots from other) old new
      → Settles Step slots (λ k. (other ≡ slot → ⊥) × IsNextAt Step slots from other k) old new
  settles_beside from slot other old new beside g =
      settles_as _ _ _ _ (λ k p. (beside, p)) (λ k p. p.1) g

  pub settles_no_slot : (from : Config S) (slot : ℕ) (old : List (Config S))
      → Settles Step slots (IsNextBeside Step slots from slot 0) old old
  settles_no_slot from slot old = settles_none _ _ (λ few k f. absurd (omega (arith, f.1)))

  -- and that one
  pub settles_last : (from : Config S) (slot : ℕ) (old mid new : List (Config S))
      → slot < length slots
      → Settles Step slots (IsNextBeside Step slots from slot (length slots)) old mid
      → Settles Step slots (IsNextAt Step slots from slot) mid new
      → Settles Step slots (IsNext Step slots from) old new
  settles_last from slot old mid new within f g =
      settles_then _ _ _ _ _ _
      (λ k r. elim (cases_eq r.0 slot) [
        | inl e ↦ inr (rw (← e) r.2)
        | inr ne ↦ inl (r.0, r.1, ne, r.2)
      ]) (λ k p. (p.0, p.1, p.3)) (λ k q. (slot, within, q)) f g
