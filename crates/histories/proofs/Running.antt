-- Sets of slots, and calls that wait there and are made.
use Rattle.histories.proofs.Words.{[], ◌≡◌, ◌≢◌, ℕ, zero, suc, ◌<◌, ◌≤◌, ◌⊎◌, List, length, ◌*◌, ◌^◌, ◌%◌, ◌-◌, sym, ◌∙◌, arith, inl, inr, Option, bit_at, bit_not, w64, cases_eq, cases_lt, get_or_past, bit_at-lt, bit_at_above, bit_at_and, bit_at_clear_other, bit_at_clear_same, bit_at_set_other, bit_at_set_same, same_from_bits, and_assoc, and_comm, HasSlot, ◌∷◌, ◌++◌, refl, ap, subst, append-nil, append_assoc, times, Leads, HaveCalls, IsBeside, IsIdle, IsLighter, IsWaiting, Leaves, MovesBefore, Runs, cleared, ◌+◌}
use Rattle.histories.specs.Frontier.{cleared, put}
use Rattle.histories.proofs.Lists.{less_of, times-append, times-cons, times_one, times_other}
use Rattle.histories.specs.Gathering.{ones}

pub cleared_same : (set slot : ℕ) → slot < 64 → bit_at (cleared set slot) slot ≡ 0
unfolding cleared
cleared_same set slot h = bit_at_clear_same w64 set slot h

pub cleared_other : (set slot other : ℕ) → slot < 64 → other < 64 → other ≢ slot
    → bit_at (cleared set slot) other ≡ bit_at set other
unfolding cleared
cleared_other set slot other h k ne = bit_at_clear_other w64 set slot h other k ne

pub put_same : (set slot : ℕ) → slot < 64 → bit_at (put set slot) slot ≡ 1
unfolding put
put_same set slot h = bit_at_set_same w64 set slot h

pub put_other : (set slot other : ℕ) → slot < 64 → other ≢ slot
    → bit_at (put set slot) other ≡ bit_at set other
unfolding put
put_other set slot other h ne = bit_at_set_other w64 set slot h other ne

-- the order in which slots go is free
pub cleared_swap : (set one other : ℕ)
    → cleared (cleared set one) other ≡ cleared (cleared set other) one
unfolding cleared
cleared_swap set one other = grind (arith, and_assoc, and_comm)

cleared_past : (set slot i : ℕ) → 64 ≤ i → bit_at (cleared set slot) i ≡ 0
unfolding cleared
cleared_past set slot i h =
    let mask = bit_not w64 (1 * 2 ^ slot % 2 ^ 64) in
    omega (arith, bit_at_and set mask i, bit_at_above mask 64 i (less (1 * 2 ^ slot % 2 ^ 64)) h)
  where
    less : (n : ℕ) → 2 ^ 64 - 1 - n < 2 ^ 64
    less n = omega arith

-- and so is that in which one slot goes and another comes
pub cleared_put : (set slot t : ℕ) → slot < 64 → t < 64 → slot ≢ t
    → cleared (put set t) slot ≡ put (cleared set slot) t
cleared_put set slot t h k ne =
    same_from_bits _ _ (λ i.
    elim (cases_lt i 64) [
      | inl few ↦ elim (cases_eq i slot) [
        | inl e ↦ rw e (cleared_same (put set t) slot h
            ∙ sym (put_other (cleared set slot) t slot k ne ∙ cleared_same set slot h))
        | inr other ↦
            cleared_other (put set t) slot i h few other
            ∙ elim (cases_eq i t) [
              | inl same ↦ rw same (put_same set t k ∙ sym (put_same (cleared set slot) t k))
              | inr not ↦
                  put_other set t i k not ∙ sym (put_other (cleared set slot) t i k not
                  ∙ cleared_other set slot i h few other)
            ]
      ]
      | inr past ↦
          cleared_past (put set t) slot i past
          ∙ sym (put_other (cleared set slot) t i k (λ e. absurd (omega (arith, e, past, k)))
          ∙ cleared_past set slot i past)
    ])

-- a slot is in the set or not
pub bit_cases : (set slot : ℕ) → (bit_at set slot ≡ 0) ⊎ (bit_at set slot ≡ 1)
bit_cases set slot = grind (arith, cases_eq, bit_at-lt)

-- a slot that is not in the set
pub bit_none : (set slot : ℕ) → (bit_at set slot ≡ 1 → ⊥) → bit_at set slot ≡ 0
bit_none set slot never = grind (arith, bit_cases)

-- in a set without a slot there is nothing more
pub cleared_le : (set slot other : ℕ) → bit_at (cleared set slot) other ≤ bit_at set other
unfolding cleared
cleared_le set slot other =
    omega (arith, bit_at_and set (bit_not w64 (1 * 2 ^ slot % 2 ^ 64)) other)

-- fewer slots than those of calls
pub have_fewer : (slots : List (Option ℕ)) (fewer set : ℕ)
    → ((slot : ℕ) → bit_at fewer slot ≤ bit_at set slot) → HaveCalls slots set
    → HaveCalls slots fewer
have_fewer slots fewer set le have slot some =
    have slot (omega (arith, some, le slot, bit_at-lt set slot))

-- a slot that a call has is there
pub slot_within : (slots : List (Option ℕ)) (slot call : ℕ) → HasSlot slots slot call
    → slot < length slots
slot_within slots slot call has = grind (arith, cases_lt, get_or_past)

-- a slot has one call
pub slot_once : (slots : List (Option ℕ)) (slot one other : ℕ) → HasSlot slots slot one
    → HasSlot slots slot other → one ≡ other
slot_once slots slot one other a b = cc

pub slot_64 : (slots : List (Option ℕ)) (slot call : ℕ) → length slots ≤ 64
    → HasSlot slots slot call → slot < 64
slot_64 slots slot call few has = omega (arith, few, slot_within slots slot call has)

pub ones_most : (set n : ℕ) → ones set n ≤ n
unfolding ones
ones_most set zero = omega arith
ones_most set (suc n) = omega (arith, ones_most set n, bit_at-lt set n)

-- fewer slots in the set
pub ones_le : (set more n : ℕ) → ((i : ℕ) → i < n → bit_at set i ≤ bit_at more i)
    → ones set n ≤ ones more n
unfolding ones
ones_le set more zero le = omega arith
ones_le set more (suc n) le =
    omega (arith, le n (omega arith), ones_le set more n (λ i h. le i (omega arith)))

-- and one slot less
pub ones_less : (set more n slot : ℕ) → ((i : ℕ) → i < n → bit_at set i ≤ bit_at more i)
    → slot < n → bit_at set slot ≡ 0 → bit_at more slot ≡ 1 → ones set n < ones more n
unfolding ones
ones_less set more zero slot le h none some = absurd (omega arith)
ones_less set more (suc n) slot le h none some =
    elim (cases_eq slot n) [
      | inl e ↦ grind (arith, ones_le)
      | inr ne ↦
          let below : slot < n = less_of slot n (omega (arith, h)) ne in
          omega (
            arith,
            le n (omega arith),
            ones_less set more n slot (λ i k. le i (omega arith)) below none some,
          )
    ]

module _ {S : Type 0} (Step : S → ℕ → S → Type 0) where
  pub leads_join : (old mid new : S) (before after : List ℕ) → Leads Step old before mid
      → Leads Step mid after new → Leads Step old (before ++ after) new
  leads_join old mid new [] after f g = rw (← f) g
  leads_join old mid new (c ∷ before) after f g =
      (f.0, f.1, leads_join f.0 mid new before after f.2 g)

  pub leads_push : (old mid new : S) (order : List ℕ) (call : ℕ) → Leads Step old order mid
      → Step mid call new → Leads Step old (order ++ call ∷ []) new
  leads_push old mid new order call l step = leads_join _ _ _ order (call ∷ []) l (new, step, refl)

  pub leads_split : (old new : S) (before after : List ℕ) → Leads Step old (before ++ after) new
      → (mid : S) × Leads Step old before mid × Leads Step mid after new
  leads_split old new [] after l = (old, refl, l)
  leads_split old new (c ∷ before) after l = grind (arith, leads_split l.0 new before after l.2)

  module _ (slots : List (Option ℕ)) where
    -- first some calls, and then others
    pub runs_then : (old mid new : S) (waiting rest last : ℕ) (first second : List ℕ)
        → Runs Step slots old waiting first mid rest → Runs Step slots mid rest second new last
        → Runs Step slots old waiting (first ++ second) new last
    runs_then old mid new waiting rest last [] second f g = grind arith
    runs_then old mid new waiting rest last (c ∷ first) second f g =
        grind (arith, runs_then f.2.0 mid new (cleared waiting f.0) rest last first second f.2.2 g)

    pub lighter_then : (few fewer waiting : ℕ) → IsLighter Step slots few fewer
        → IsLighter Step slots fewer waiting → IsLighter Step slots few waiting
    lighter_then few fewer waiting a b slot call has = grind arith

    -- the same slot goes from both
    pub lighter_cleared : (fewer waiting slot : ℕ) → length slots ≤ 64 → slot < 64
        → IsLighter Step slots fewer waiting
        → IsLighter Step slots (cleared fewer slot) (cleared waiting slot)
    lighter_cleared fewer waiting slot few h l other call has =
        elim (cases_eq other slot) [
          | inl e ↦ grind (arith, cleared_same)
          | inr ne ↦ grind (arith, slot_64, cleared_other)
        ]

    -- a slot of a call that changes nothing goes from the second, which the first does not have
    pub lighter_without : (fewer waiting slot : ℕ) → length slots ≤ 64 → slot < 64
        → bit_at fewer slot ≡ 0 → IsLighter Step slots fewer waiting
        → IsLighter Step slots fewer (cleared waiting slot)
    lighter_without fewer waiting slot few h none l other call has =
        grind (arith, cases_eq, cleared_same, slot_64, cleared_other)

    -- a slot of a call that changes nothing goes from the first
    pub lighter_idle : (waiting slot call : ℕ) → length slots ≤ 64 → HasSlot slots slot call
        → IsIdle Step call → IsLighter Step slots (cleared waiting slot) waiting
    lighter_idle waiting slot call few here idle other c has =
        grind (arith, cases_eq, cleared_same, slot_64, slot_once, cleared_other)

    -- Calls that change nothing need not be made: where fewer calls wait, but for such, the others
    -- still lead to the same state.
    pub runs_lighter : (old new : S) (fewer waiting rest : ℕ) (calls : List ℕ)
        → length slots ≤ 64 → IsLighter Step slots fewer waiting
        → Runs Step slots old waiting calls new rest
        → (less : List ℕ) × (last : ℕ) × Runs Step slots old fewer less new last
        × IsLighter Step slots last rest
    runs_lighter old new fewer waiting rest [] few l run = grind arith
    runs_lighter old new fewer waiting rest (call ∷ calls) few l run =
        let slot = run.0 in
        let here = run.1.0 in
        let h = slot_64 slots slot call few here in
        let mid = run.2.0 in
        elim (bit_cases fewer slot) [
          | inr some ↦
              let more = runs_lighter mid new (cleared fewer slot) (cleared waiting slot) rest calls
              few (lighter_cleared fewer waiting slot few h l) run.2.2 in (
                call ∷ more.0,
                more.1,
                (slot, (here, some), (mid, run.2.1, more.2)),
                more.3,
              )
          | inl none ↦
              elim (l slot call here) [
                | inl same ↦ absurd (omega (arith, same, none, run.1.1))
                | inr idle ↦ grind (
                  arith,
                  lighter_without,
                  runs_lighter old new fewer (cleared waiting slot) rest calls few
                      (lighter_without fewer waiting slot few h none l)
                      (rw (idle.1 old mid run.2.1) at run.2.2),
                )
              ]
        ]

    -- what waits without a slot waits with it
    waits_before : (waiting slot at call : ℕ) → length slots ≤ 64 → slot < 64
        → IsWaiting slots (cleared waiting slot) at call → bit_at waiting at ≡ 1
    waits_before waiting slot at call few h is = grind (arith, bit_cases, cleared_le, slot_64)

    -- a call that moves before all others that wait is made before them
    pub runs_first : (old new : S) (waiting rest slot call : ℕ) (calls : List ℕ)
        → length slots ≤ 64 → HasSlot slots slot call → bit_at waiting slot ≡ 1
        → bit_at rest slot ≡ 0
        → ((at other : ℕ) → IsBeside slots waiting slot at other → MovesBefore Step call other)
        → Runs Step slots old waiting calls new rest → (mid : S) × Step old call mid
        × ((others : List ℕ) × Runs Step slots mid (cleared waiting slot) others new rest)
    runs_first old new waiting rest slot call [] few here waits gone moves run =
        absurd (omega (arith, ap (λ w. bit_at w slot) run.1, waits, gone))
    runs_first old new waiting rest slot call (c ∷ calls) few here waits gone moves run =
        let at = run.0 in
        let h = slot_64 _ _ _ few here in
        let k = slot_64 _ at c few run.1.0 in
        elim (cases_eq at slot) [
          | inl e ↦ grind (arith, slot_once)
          | inr ne ↦
              let still : bit_at (cleared waiting at) slot ≡ 1 =
              cleared_other _ at slot k h (λ e. ne (sym e)) ∙ waits in
              let more = runs_first run.2.0 new (cleared waiting at) rest slot call calls few here
              still gone (λ i other is.
              moves i other (is.0, (is.1.0, waits_before _ at i other few k is.1))) run.2.2 in
              let moved = moves at c (ne, run.1) old run.2.0 more.0 run.2.1 more.1 in (
                moved.0,
                moved.1,
                (
                  c ∷ more.2.0,
                  (
                    at,
                    (run.1.0, cleared_other _ _ at h k ne ∙ run.1.1),
                    (more.0, moved.2, rw (← cleared_swap _ at slot) more.2.1),
                  ),
                ),
              )
        ]

    -- of the calls that are open, each stands in the order or waits still
    pub leaves_made : (order : List ℕ) (waiting slot call : ℕ) → length slots ≤ 64
        → ((one other c : ℕ) → HasSlot slots one c → HasSlot slots other c → one ≡ other)
        → Leaves slots order waiting → IsWaiting slots waiting slot call
        → Leaves slots (order ++ call ∷ []) (cleared waiting slot)
    leaves_made order waiting slot call few apart leaves is other c has =
        grind (
          arith,
          slot_64,
          cases_eq,
          slot_once,
          cleared_same,
          times_one,
          times-append,
          cleared_other,
          times_other,
        )

    pub leaves_run : (order : List ℕ) (old new : S) (waiting rest : ℕ) (calls : List ℕ)
        → length slots ≤ 64
        → ((one other c : ℕ) → HasSlot slots one c → HasSlot slots other c → one ≡ other)
        → Leaves slots order waiting → Runs Step slots old waiting calls new rest
        → Leaves slots (order ++ calls) rest
    leaves_run order old new waiting rest [] few apart leaves run = grind (arith, append-nil)
    leaves_run order old new waiting rest (call ∷ calls) few apart leaves run =
        rw (← append_assoc order (call ∷ []) calls)
        (leaves_run (order ++ call ∷ []) run.2.0 new (cleared waiting run.0) rest calls few apart
        (leaves_made _ _ _ _ few apart leaves run.1) run.2.2)

    -- calls that all wait can be made in their order
    pub runs_order : (old new : S) (waiting : ℕ) (order : List ℕ) → length slots ≤ 64
        → ((one other c : ℕ) → HasSlot slots one c → HasSlot slots other c → one ≡ other)
        → ((c : ℕ) → times c order ≤ 1)
        → ((c : ℕ) → 0 < times c order → (slot : ℕ) × IsWaiting slots waiting slot c)
        → Leads Step old order new → (rest : ℕ) × Runs Step slots old waiting order new rest
    runs_order old new waiting [] few apart once all l = (waiting, (l, refl))
    runs_order old new waiting (x ∷ order) few apart once all l =
        let at = all x (omega (arith, times-cons x x order, times_one x)) in
        let h = slot_64 _ _ _ few at.1.0 in
        let more = runs_order l.0 new (cleared waiting at.0) order few apart
        (λ c. omega (arith, once c, times-cons c x order)) (λ c some.
        let is = all c (omega (arith, some, times-cons c x order)) in
        let other : x ≢ c = grind (arith, times-cons, times_one) in (
          is.0,
          (
            is.1.0,
            cleared_other _ _ _ h (slot_64 _ _ _ few is.1.0)
                (λ e. other (slot_once slots at.0 _ _ at.1.0 (subst (λ s. HasSlot slots s c) e
                is.1.0))) ∙ is.1.1,
          ),
        )) l.2 in
        (more.0, (at.0, at.1, (l.0, l.1, more.1)))

  -- the same calls in other slots, in which others may wait
  pub runs_in : (slots other : List (Option ℕ)) (old new : S) (waiting rest : ℕ) (calls : List ℕ)
      (t : ℕ) (change : ℕ → ℕ)
      → ((w s : ℕ) → s ≢ t → s < 64 → cleared (change w) s ≡ change (cleared w s))
      → ((w s : ℕ) → s ≢ t → s < 64 → bit_at (change w) s ≡ bit_at w s) → length slots ≤ 64
      → ((s c : ℕ) → HasSlot slots s c → bit_at waiting s ≡ 1 → (s ≢ t) × HasSlot other s c)
      → Runs Step slots old waiting calls new rest
      → Runs Step other old (change waiting) calls new (change rest)
  runs_in slots other old new waiting rest [] t change swaps keeps few still run =
      (run.0, ap change run.1)
  runs_in slots other old new waiting rest (call ∷ calls) t change swaps keeps few still run =
      grind (
        arith,
        slot_64,
        cases_eq,
        cleared_same,
        cleared_other,
        runs_in slots other run.2.0 new (cleared waiting run.0) rest calls t change swaps keeps few,
      )

  -- bits of those that wait only go
  pub runs_fewer : (slots : List (Option ℕ)) (old new : S) (waiting rest t : ℕ) (calls : List ℕ)
      → Runs Step slots old waiting calls new rest → bit_at rest t ≤ bit_at waiting t
  runs_fewer slots old new waiting rest t [] run = omega (arith, ap (λ w. bit_at w t) run.1)
  runs_fewer slots old new waiting rest t (call ∷ calls) run =
      omega (
        arith,
        cleared_le waiting run.0 t,
        runs_fewer slots run.2.0 new (cleared waiting run.0) rest t calls run.2.2,
      )

  -- a call that waits in the end need not wait for the others to be made
  pub runs_without : (slots : List (Option ℕ)) (old new : S) (waiting rest t : ℕ) (calls : List ℕ)
      → length slots ≤ 64 → t < 64 → bit_at rest t ≡ 1 → Runs Step slots old waiting calls new rest
      → Runs Step slots old (cleared waiting t) calls new (cleared rest t)
  runs_without slots old new waiting rest t [] few h some run = (run.0, ap (λ w. cleared w t) run.1)
  runs_without slots old new waiting rest t (call ∷ calls) few h some run =
      grind (
        arith,
        slot_64,
        runs_fewer,
        bit_at,
        cleared_same,
        cleared_other,
        cleared_swap,
        runs_without slots run.2.0 new (cleared waiting run.0) rest t calls few h some run.2.2,
      )

  -- where no call has a slot, none that waits is made
  pub runs_nothing : (slots : List (Option ℕ)) (old new : S) (waiting rest : ℕ) (calls : List ℕ)
      → ((slot call : ℕ) → HasSlot slots slot call → ⊥)
      → Runs Step slots old waiting calls new rest → new ≡ old
  runs_nothing slots old new waiting rest [] none run = run.0
  runs_nothing slots old new waiting rest (c ∷ calls) none run = absurd (none run.0 c run.1.0)
