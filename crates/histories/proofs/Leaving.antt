-- Histories of which calls are left out, and the states with which a window begins.
use Rattle.histories.proofs.Words.{[], ◌≡◌, ℕ, zero, suc, ◌<◌, ◌≤◌, Bool, true, false, eqb, List, ◌∷◌, take, refl, ap, arith, inl, inr, filter, cond_both, eqb_tells, AllPairs-filter, Event, Begin, End, Crash, Explains, HasEnded, IsAnswered, IsExplained, IsOver, Leads, StandsAt, LeavesOutIdle, call_of, events_of, ◌++◌, length, length-append, get_or, ◌∙◌, subst, take_all, slice_get-get_or, Ends, IsHistory, IsOpen, IsWellFormed, ◌+◌, sym, append-nil, set, replicate, nil_from_length, get_or-set_other, set-get_or, set-set, get_or_past, get_or-replicate, length-replicate, HasSlot, IsFrontOf, IsIdle, IsSound, Window, states_of, AreIdle, IsRest, is_kept, IsCut, IsWindowOf, cases_eq, cases_lt, not-false, Advance, Front, AdvancesIn, IsAdvance}
use Rattle.histories.specs.Histories.{begins, times}
use Rattle.histories.proofs.Lists.{times-cons, times_none, times_other}
use Rattle.histories.specs.Windows.{OrdersExplainTheRest, RefusedRestsRefuse}
use Rattle.histories.proofs.Events.{stands_front, stands_take, begins_none, sound_none}
use Rattle.histories.proofs.Verdicts.{formed_history, formed_inside, sound_formed, sound_take, one_more, agrees_same, frontier_refused, history_sound}
use Rattle.histories.proofs.Alone.{led_anew}
use Rattle.histories.proofs.Explaining.{cut_of, cut_then}
use Rattle.histories.specs.declared.front.Advance.TheVariants as advance

module _ (kept : ℕ → Bool) where
  -- what the events of some calls have at an index, all of them have, and those before are the same
  abbrev IsFrom : List Event → List Event → ℕ → Event → Type 0
  IsFrom es rest p e =
      (q : ℕ) × StandsAt es q e × (events_of kept (take q es) ≡ take p rest)
      × (kept (call_of e) ≡ true)

  from_kept : (x : Event) (es rest : List Event) → kept (call_of x) ≡ true
      → ((p : ℕ) (e : Event) → StandsAt rest p e → IsFrom es rest p e)
      → (p : ℕ) (e : Event) → StandsAt (x ∷ rest) p e → IsFrom (x ∷ es) (x ∷ rest) p e
  from_kept x es rest t more zero e at = grind arith
  from_kept x es rest t more (suc p) e at =
      let r = more p e at in
      (suc r.0, r.1, rw t (ap (λ (l : List Event). x ∷ l) r.2), r.3)

  from_left : (x : Event) (es rest : List Event) → kept (call_of x) ≡ false
      → ((p : ℕ) (e : Event) → StandsAt rest p e → IsFrom es rest p e)
      → (p : ℕ) (e : Event) → StandsAt rest p e → IsFrom (x ∷ es) rest p e
  from_left x es rest f more p e at = let r = more p e at in (suc r.0, r.1, rw f r.2, r.3)

  pub stands_of : (es : List Event) (p : ℕ) (e : Event) → StandsAt (events_of kept es) p e
      → IsFrom es (events_of kept es) p e
  stands_of [] p e at = absurd (cc)
  stands_of (x ∷ es) p e at =
      let rest = events_of kept es in
      cond_both (kept (call_of x)) (x ∷ rest) rest
      (λ (l : List Event). (p : ℕ) (e : Event) → StandsAt l p e → IsFrom (x ∷ es) l p e)
      (λ t. from_kept _ _ _ t (stands_of es)) (λ f. from_left _ _ _ f (stands_of es)) p e at

  -- two events that stand one before the other did so before
  abbrev AreFrom : List Event → Event → Event → Type 0
  AreFrom es e f = (one : ℕ) × (other : ℕ) × (one < other) × StandsAt es one e × StandsAt es other f

  both_of : (es : List Event) (p q : ℕ) (e f : Event) → p < q → StandsAt (events_of kept es) p e
      → StandsAt (events_of kept es) q f → AreFrom es e f
  both_of es p q e f less one other =
      let last = stands_of _ _ _ other in
      let first =
      stands_of (take last.0 es) p e (rw last.2 (stands_front (events_of kept es) q p e one less))
      in
      let there = stands_take es last.0 first.0 e first.1 in
      (first.0, last.0, there.1, there.0, last.1)

  pub answered_of : (es : List Event) (c : ℕ) → IsAnswered (events_of kept es) c
      → IsAnswered es c × (kept c ≡ true)
  answered_of es c a = let r = stands_of _ _ _ a.1 in ((r.0, r.1), r.3)

  pub ended_of : (es : List Event) (c : ℕ) → HasEnded (events_of kept es) c
      → HasEnded es c × (kept c ≡ true)
  ended_of es c h = grind (arith, stands_of)

  over_of : (es : List Event) (c d : ℕ) → IsOver (events_of kept es) c d → IsOver es c d
  over_of es c d o = grind (arith, both_of)

  -- how often a call begins that is kept, and any call
  other_call : (b c : ℕ) → kept b ≡ false → kept c ≡ true → eqb b c ≡ false
  other_call b c f t = grind (arith, eqb_tells)

  pub begins_of : (c : ℕ) (es : List Event) → kept c ≡ true
      → begins c (events_of kept es) ≡ begins c es
  unfolding begins
  begins_of c [] t = refl
  begins_of c (Begin b ∷ es) t = grind (arith, cond_both, other_call, begins_of c es t)
  begins_of c (End b ∷ es) t = grind (arith, cond_both, begins_of c es t)
  begins_of c (Crash b ∷ es) t = grind (arith, cond_both, begins_of c es t)

  pub begins_fewer : (c : ℕ) (es : List Event) → begins c (events_of kept es) ≤ begins c es
  unfolding begins
  begins_fewer c [] = omega arith
  begins_fewer c (Begin b ∷ es) = grind (arith, cond_both, begins_fewer c es)
  begins_fewer c (End b ∷ es) = grind (arith, cond_both, begins_fewer c es)
  begins_fewer c (Crash b ∷ es) = grind (arith, cond_both, begins_fewer c es)

  -- how often a call stands in an order
  times_of : (c : ℕ) (order : List ℕ) → kept c ≡ true → times c (filter kept order) ≡ times c order
  unfolding times
  times_of c [] t = refl
  times_of c (x ∷ xs) t = grind (arith, cond_both, other_call, times_of c xs t)

  times_fewer : (c : ℕ) (order : List ℕ) → times c (filter kept order) ≤ times c order
  unfolding times
  times_fewer c [] = omega arith
  times_fewer c (x ∷ xs) = grind (arith, cond_both, times_fewer c xs)

  times_kept : (c : ℕ) (order : List ℕ) → 0 < times c (filter kept order) → kept c ≡ true
  times_kept c [] h = absurd (omega (arith, h, times_none c))
  times_kept c (x ∷ xs) some =
      let rest = filter kept xs in
      cond_both (kept x) (x ∷ rest) rest (λ (l : List ℕ). 0 < times c l → kept c ≡ true)
      (λ t h. elim (eqb_tells x c) [
        | inl same ↦ rw (← same.1) t
        | inr other ↦
            times_kept c xs (omega (arith, h, times-cons c x rest, times_other c x other.1))
      ]) (λ _ h. times_kept c xs h) some

  module _ {S : Type 0} (Step : S → ℕ → S → Type 0) (idle : LeavesOutIdle Step kept) where
    leads_of : (old new : S) (order : List ℕ) → Leads Step old order new
        → Leads Step old (filter kept order) new
    leads_of old new [] l = l
    leads_of old new (x ∷ xs) l = grind (arith, cond_both, leads_of l.0 new xs l.2)

    pub explains_of : (es : List Event) (old new : S) (order : List ℕ)
        → Explains Step es old order new
        → Explains Step (events_of kept es) old (filter kept order) new
    explains_of es old new order ex = record {
      once = λ c. omega (arith, times_fewer c order, ex.once c);
      begun = λ c some. grind (arith, times_kept, times_of, begins_of);
      answered = λ c a.
          let r = answered_of _ _ a in
          omega (arith, times_of c order r.1, ex.answered c r.0);
      real_time = λ i j d less within over.
          AllPairs-filter (λ first second. ¬ (IsOver es second first)) kept order ex.real_time
          i j d less within (over_of _ _ _ over);
      leads = leads_of _ _ _ ex.leads;
    }

    pub explained_of : (es : List Event) (olds : List S) → IsExplained Step es olds
        → IsExplained Step (events_of kept es) olds
    explained_of es olds x = (x.0, filter kept x.1, x.2, x.3, explains_of _ _ _ _ x.4)

pub explains_rest : {S : Type 0} (Step : S → ℕ → S → Type 0) → OrdersExplainTheRest Step
explains_rest Step kept events old new order idle ex = explains_of _ _ idle _ _ _ _ ex

pub refused_rest : {S : Type 0} (Step : S → ℕ → S → Type 0) → RefusedRestsRefuse Step
refused_rest Step kept events olds rest x = rest.refused (explained_of _ _ rest.others _ _ x)

call_ends : (e : Event) (c : ℕ) → Ends e c → call_of e ≡ c
call_ends e c ends = grind arith

-- so are the events of some of its calls
pub formed_rest : (kept : ℕ → Bool) (es : List Event) → IsWellFormed es
    → IsWellFormed (events_of kept es)
formed_rest kept es formed p e at =
    let r = stands_of kept _ _ _ at in
    let f = formed r.0 e r.1 in
    let before : List Event = take r.0 es in (
      λ c is. rw (← r.2) (omega (arith, begins_fewer kept c before, f.0 c is)),
      λ c ends.
          let was : IsOpen before c = f.1 c ends in
          let t : kept c ≡ true = rw (← call_ends _ _ ends) r.3 in
          rw (← r.2) (
            omega (arith, begins_of kept c before t, was.0),
            λ h. was.1 (ended_of kept before c h).0,
          ),
    )

-- where the events end in a window that begins after them, they have left its states
pub cut_states : {S : Type 0} (Step : S → ℕ → S → Type 0) (olds : List S) (es : List Event)
    (w : Window S) → IsHistory es → IsWindowOf Step olds es w → w.begin ≡ length es
    → (states : List S) → states ≡ states_of w.front.configs.items → IsCut Step olds es states
cut_states {S} Step olds es w history is begins states are =
    let none : is.inside ≡ [] =
    nil_from_length is.inside
    (omega (arith, begins, is.begins, ap length is.split, length-append is.past is.inside)) in
    let all : is.past ++ [] ≡ es =
    sym (is.split ∙ ap (λ (l : List Event). is.past ++ l) none) in
    let sound : IsSound (is.past ++ []) = rw all (history_sound es history).0 in
    let f : IsFrontOf Step w.front [] is.states = rw (← none) is.front in
    let empty : (slot call : ℕ) → HasSlot w.front.slots.items slot call → ⊥ =
    λ slot call has. absurd (omega (arith, (f.table.each slot call has).0, begins_none call)) in
    rw (are, ← all) (cut_then Step is.past [] olds is.states _ (rw (append-nil is.past) at sound)
    sound_none sound is.cut (cut_of Step [] is.states _ sound_none
    (λ c h. absurd (omega (arith, h, begins_none c))) (led_anew Step _ _ _ _ _ empty f)))

pub left_out_is : (calls : List Bool) (call : ℕ) → is_kept calls call ≡ false
    → get_or calls call false ≡ true
left_out_is calls call h = not-false (get_or calls call false) h

module _ {S : Type 0} (Step : S → ℕ → S → Type 0) (olds : List S) (es : List Event) where
  -- the call stays
  pub rest_back : (calls : List Bool) (call : ℕ) (was : Bool) → was ≡ get_or calls call was
      → IsRest Step olds es (is_kept calls)
      → IsRest Step olds es (is_kept (set (set calls call true) call was))
  rest_back calls call was is rest = grind (arith, set-set, set-get_or)

  -- one call more is left out
  pub rest_more : (calls : List Bool) (call : ℕ) → IsIdle Step call
      → ¬ (IsExplained Step (events_of (is_kept (set calls call true)) es) olds)
      → IsRest Step olds es (is_kept calls) → IsRest Step olds es (is_kept (set calls call true))
  rest_more calls call idle none rest = grind (arith, cases_eq, get_or-set_other)

  -- all of these are left out
  pub rest_all : (calls : List Bool) → AreIdle Step calls
      → ¬ (IsExplained Step (events_of (is_kept calls) es) olds)
      → IsRest Step olds es (is_kept calls)
  rest_all calls idle none = grind (arith, left_out_is)

none_left : (n c : ℕ) → is_kept (replicate n false) c ≡ true
none_left n c = grind (arith, cases_lt, get_or-replicate, get_or_past, length-replicate)

all_kept : (kept : ℕ → Bool) (es : List Event) → ((c : ℕ) → kept c ≡ true) → events_of kept es ≡ es
all_kept kept [] all = refl
all_kept kept (e ∷ es) all = rw all (ap (λ (l : List Event). e ∷ l) (all_kept kept es all))

-- no call is left out
pub rest_none : {S : Type 0} (Step : S → ℕ → S → Type 0) (olds : List S) (es : List Event)
    (n : ℕ) → ¬ (IsExplained Step es olds) → IsRest Step olds es (is_kept (replicate n false))
rest_none Step olds es n none = grind (arith, all_kept, none_left)

module _ {S : Type 0} (Step : S → ℕ → S → Type 0) (olds : List S) (past window : List Event)
    (history : IsHistory (past ++ window)) where
  -- no order explains the window from the states with which it begins
  pub refused_window : (states given : List S) → given ≡ states → IsCut Step olds past states
      → ¬ (IsExplained Step (past ++ window) olds) → ¬ (IsExplained Step window given)
  refused_window states given same cut none x =
      let formed : IsWellFormed window = formed_inside _ _ history cut.quiet in
      none ((cut.same window (sound_formed _ formed) (sound_formed _ (formed_history _ history))).1
      (rw (← same) x))

-- the front is that of the events before an index, and one event more is tried
module _ {M S : Type 0} (StepOf : M → S → ℕ → S → Type 0) (machine : M) (olds : List S)
    (es : List Event) (at : ℕ) (d : Event) (h : at < length es) (formed : IsWellFormed es)
    (old new : Front S) (f : IsFrontOf (StepOf machine) old (take at es) olds) where
  tried : (result : Advance) → IsAdvance StepOf machine old (get_or es at d) new result
      → AdvancesIn (StepOf machine) (take at es) olds (get_or es at d) new result
  tried result advances = grind (arith, agrees_same, sound_take, slice_get-get_or)

  pub tried_done : IsAdvance StepOf machine old (get_or es at d) new advance.Done
      → IsFrontOf (StepOf machine) new (take (at + 1) es) olds
  tried_done advances = rw (one_more _ at d h) (tried advance.Done advances).0

  pub tried_refused : IsAdvance StepOf machine old (get_or es at d) new advance.Refused
      → at + 1 ≡ length es → ¬ (IsExplained (StepOf machine) es olds)
  tried_refused advances last x =
      let done = tried advance.Refused advances in
      frontier_refused _ _ _ _ _ _ done.0 done.1
      (subst (λ (l : List Event). IsExplained (StepOf machine) l olds)
      (sym (take_all (at + 1) es (omega (arith, last))) ∙ one_more _ at d h) x)
