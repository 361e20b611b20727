-- Histories event by event, and what their frontiers decide.
use Rattle.histories.proofs.Words.{[], ◌≡◌, ℕ, zero, suc, ◌+◌, ◌-◌, ◌<◌, ◌≤◌, List, ◌∷◌, ◌++◌, length, take, get_or, refl, sym, ◌∙◌, arith, inl, inr, Option, add-one, add-zero, take_all, cases_lt, take-append_seam, take_more, take-append-le, slice_get-get_or, Event, Begin, End, Crash, Config, Link, begins, times, IsExplained, IsHistory, MayFollow, Agrees, EndsOpen, IsFrontier, IsSound, order_of, ap, StandsAt, length-append, subst, take-append-add, IsQuiet, IsWellFormed, IsStop, VerdictsExclude, cases_order, length-take-le, take-take}
use Rattle.histories.specs.Histories.{begun, begins, times}
use Rattle.histories.proofs.Lists.{not_some, split_times, times_same}
use Rattle.histories.proofs.Events.{begin_no_end, begins_begin, begins_ends, begins_none, ends_one, sound_begin, sound_end, sound_none, stands_cases, stands_within, open_inside, stands_right, stands_take, begins-append}
use Rattle.histories.proofs.Running.{leads_split}
use Rattle.histories.proofs.Frontiers.{explains_none}
use Rattle.histories.specs.declared.window.Stop.TheVariants as stop
use Rattle.histories.proofs.Explaining.{explains_front, explains_open, explains_without}

pub begun-append : (es fs : List Event) → begun (es ++ fs) ≡ begun es + begun fs
unfolding begun
begun-append [] fs = omega arith
begun-append (Begin b ∷ es) fs = omega (arith, begun-append es fs)
begun-append (End b ∷ es) fs = begun-append es fs
begun-append (Crash b ∷ es) fs = begun-append es fs

pub begun_none : begun [] ≡ 0
unfolding begun
begun_none = refl

-- how many calls have begun after one event more
pub counts_begin : (count call : ℕ) (es : List Event) → count ≡ begun es
    → count + 1 ≡ begun (es ++ Begin call ∷ [])
unfolding begun
counts_begin count call es is = omega (arith, is, begun-append es (Begin call ∷ []))

pub counts_end : (count call : ℕ) (es : List Event) → count ≡ begun es
    → count ≡ begun (es ++ End call ∷ [])
unfolding begun
counts_end count call es is = omega (arith, is, begun-append es (End call ∷ []))

pub counts_crash : (count call : ℕ) (es : List Event) → count ≡ begun es
    → count ≡ begun (es ++ Crash call ∷ [])
unfolding begun
counts_crash count call es is = omega (arith, is, begun-append es (Crash call ∷ []))

-- a call that begins has the next number
abbrev pub IsNext : List Event → Event → Type 0
IsNext events event = (call : ℕ) → event ≡ Begin call → call ≡ begun events

-- the calls that have begun have numbers below their count
abbrev pub AreNumbered : List Event → Type 0
AreNumbered es = (c : ℕ) → 0 < begins c es → c < begun es

pub numbered_none : AreNumbered []
numbered_none c h = absurd (omega (arith, h, begins_none c))

pub numbered_more : (es : List Event) (e : Event) → AreNumbered es → IsNext es e
    → AreNumbered (es ++ e ∷ [])
numbered_more es (Begin b) n next c h =
    grind (arith, cases_lt, counts_begin (begun es) b es refl, begins_begin, times_same)
numbered_more es (End b) n next c h =
    omega (
      arith,
      n c (omega (arith, h, begins_ends c b es (End b) (inl refl))),
      counts_end (begun es) b es refl,
    )
numbered_more es (Crash b) n next c h =
    omega (
      arith,
      n c (omega (arith, h, begins_ends c b es (Crash b) (inr refl))),
      counts_crash (begun es) b es refl,
    )

-- a call with the next number is new
pub next_fresh : (es : List Event) (e : Event) → AreNumbered es → IsNext es e → (c : ℕ)
    → e ≡ Begin c → begins c es ≡ 0
next_fresh es e n next c is = not_some _ (λ some. absurd (omega (arith, n c some, next c is)))

pub sound_more : (es : List Event) (e : Event) → IsSound es
    → ((c : ℕ) → e ≡ Begin c → begins c es ≡ 0) → EndsOpen es e → IsSound (es ++ e ∷ [])
sound_more es (Begin c) s fresh ends = sound_begin _ _ s (fresh c refl)
sound_more es (End c) s fresh ends = sound_end _ _ _ (inl refl) s (ends c (inl refl)).0
sound_more es (Crash c) s fresh ends = sound_end _ _ _ (inr refl) s (ends c (inr refl)).0

pub next_of : (es : List Event) (e : Event) → MayFollow es e → IsNext es e
next_of es (Begin c) may b is = let same : c ≡ b = cc in sym same ∙ may
next_of es (End c) may b is = absurd (cc)
next_of es (Crash c) may b is = absurd (cc)

pub ends_of : (es : List Event) (e : Event) → MayFollow es e → EndsOpen es e
ends_of es (Begin c) may b ends = absurd (begin_no_end _ _ ends)
ends_of es (End c) may b ends = rw (← ends_one _ _ _ (inl refl) ends) may
ends_of es (Crash c) may b ends = rw (← ends_one _ _ _ (inr refl) ends) may

-- the events up to one more
pub one_more : (es : List Event) (i : ℕ) (d : Event) → i < length es
    → take (i + 1) es ≡ take i es ++ get_or es i d ∷ []
one_more es i d h = take_more es i d h

may_more : (es : List Event) (i : ℕ) → IsHistory es → i < length es
    → MayFollow (take i es) (get_or es i (Begin 0))
may_more es i history h = history i (get_or es i (Begin 0)) (slice_get-get_or es i (Begin 0) h)

-- a history begins each call once, and with the next number
pub history_take : (es : List Event) → IsHistory es → (i : ℕ) → i ≤ length es
    → IsSound (take i es) × AreNumbered (take i es)
history_take es history zero h = (sound_none, numbered_none)
history_take es history (suc i) h =
    let before = history_take es history i (omega arith) in
    let may = may_more _ _ history (omega arith) in
    let next = next_of _ _ may in
    rw (← add-one, one_more es i (Begin 0) (omega arith)) (
      sound_more _ _ before.0 (next_fresh _ _ before.1 next) (ends_of _ _ may),
      numbered_more _ _ before.1 next,
    )

pub history_sound : (es : List Event) → IsHistory es → IsSound es × AreNumbered es
history_sound es history =
    rw (← take_all (length es) es (omega arith)) (history_take _ history _ (omega arith))

module _ {S : Type 0} (Step : S → ℕ → S → Type 0) where
  -- what explains the history with one event more, explains it without, in part
  explained_before : (es : List Event) (e : Event) (olds : List S) → IsSound es
      → ((c : ℕ) → e ≡ Begin c → begins c es ≡ 0)
      → IsExplained Step (es ++ e ∷ []) olds → IsExplained Step es olds
  explained_before es (End call) olds s fresh x =
      (x.0, x.1, x.2, x.3, explains_open _ _ _ _ _ _ _ (inl refl) x.4)
  explained_before es (Crash call) olds s fresh x =
      (x.0, x.1, x.2, x.3, explains_open _ _ _ _ _ _ _ (inr refl) x.4)
  explained_before es (Begin call) olds s fresh x =
      elim (cases_lt 0 (times call x.1)) [
        | inl some ↦
            let parts = split_times _ _ some in
            let ex = rw parts.2 at x.4 in
            let leads = leads_split _ _ _ _ _ ex.leads in (
              x.0,
              parts.0,
              leads.0,
              x.3,
              explains_front _ _ _ _ _ _ _ _ s (fresh call refl) ex leads.1,
            )
        | inr none ↦
            (x.0, x.1, x.2, x.3, explains_without _ _ _ _ _ _ x.4 (omega arith))
      ]

  pub explained_take : (es : List Event) (olds : List S) (i more : ℕ) → IsHistory es
      → i + more ≤ length es → IsExplained Step (take (i + more) es) olds
      → IsExplained Step (take i es) olds
  explained_take es olds i zero history h x = rw (← add-zero i) x
  explained_take es olds i (suc more) history h x =
      let at = i + more in
      let within : at < length es = omega arith in
      let next : i + suc more ≡ at + 1 = omega arith in
      let before = history_take _ history at (omega arith) in
      explained_take es olds i more history (omega arith) (explained_before _ _ _ before.0
      (next_fresh _ _ before.1 (next_of _ _ (may_more _ at history within)))
      (rw (next, one_more es at (Begin 0) within) at x))

  -- where no order explains the events up to an index, none explains all
  pub refused_whole : (es : List Event) (olds : List S) (i : ℕ) → i ≤ length es
      → ¬ (IsExplained Step (take i es) olds) → IsHistory es → ¬ (IsExplained Step es olds)
  refused_whole es olds i h none history x =
      none (explained_take _ _ _ _ history (omega arith)
      (rw (← take_all (i + (length es - i)) es (omega arith)) at x))

  -- a configuration is left exactly where an order explains the history
  pub frontier_explained : (links : List Link) (slots : List (Option ℕ)) (es : List Event)
      (olds : List S) (configs : List (Config S)) → IsFrontier Step links slots es olds configs
      → 0 < length configs → IsExplained Step es olds
  frontier_explained links slots es olds [] f h = absurd (omega arith)
  frontier_explained links slots es olds (k ∷ configs) f h =
      let is = f.sound k (0, omega arith, refl) in
      (is.old, order_of links k, k.state, is.from, is.explains)

  pub frontier_refused : (links : List Link) (slots : List (Option ℕ)) (es : List Event)
      (olds : List S) (configs : List (Config S)) → IsFrontier Step links slots es olds configs
      → length configs ≡ 0 → ¬ (IsExplained Step es olds)
  frontier_refused links slots es olds configs f none x = grind arith

  pub frontier_some : (links : List Link) (slots : List (Option ℕ)) (olds : List S)
      (configs : List (Config S)) → 0 < length olds
      → IsFrontier Step links slots [] olds configs → 0 < length configs
  frontier_some links slots [] configs h f = absurd (omega arith)
  frontier_some links slots (old ∷ olds) configs h f =
      let l = f.complete old [] old (0, omega arith, refl) (explains_none _ _) in
      omega (arith, l.2.1.1)

-- an event that may follow comes next
pub history_more : (es : List Event) (e : Event) → IsHistory es → MayFollow es e
    → IsHistory (es ++ e ∷ [])
history_more es e history may index event at =
    grind (arith, stands_cases, take-append-le, stands_within, take-append_seam)

pub agrees_same : {S : Type 0} (Step : S → ℕ → S → Type 0) (events : List Event)
    → Agrees Step Step events
agrees_same Step events call is old new = (λ x. x, λ x. x)

-- what comes in a history where no call is open is well formed
pub formed_inside : (es fs : List Event) → IsHistory (es ++ fs) → IsQuiet es → IsWellFormed fs
formed_inside es fs history quiet p e at =
    let r = stands_right _ _ _ _ at in
    let front : List Event = es ++ take p fs in
    let is : take r.0 (es ++ fs) ≡ front =
    ap (λ n. take n (es ++ fs)) r.1 ∙ take-append-add es fs p in
    let may : MayFollow front e = rw (← is) (history r.0 e r.2) in
    let numbered : AreNumbered front =
    subst (λ (l : List Event). AreNumbered l) is
    (history_take _ history _ (omega (arith, stands_within (es ++ fs) r.0 e r.2))).1 in (
      λ c begins. omega (
        arith,
        next_fresh front e numbered (next_of front e may) c begins,
        begins-append c es (take p fs),
      ),
      λ c ends. open_inside _ _ _ quiet (ends_of _ _ may c ends),
    )

-- so is a history
pub formed_history : (es : List Event) → IsHistory es → IsWellFormed es
formed_history es history =
    formed_inside [] es history (λ c some. absurd (omega (arith, some, begins_none c)))

-- each call of it begins once
pub sound_take : (es : List Event) → IsWellFormed es → (i : ℕ) → i ≤ length es → IsSound (take i es)
sound_take es formed zero h = sound_none
sound_take es formed (suc i) h =
    let e = get_or es i (Begin 0) in
    let this = formed i e (slice_get-get_or es i (Begin 0) (omega arith)) in
    rw (← add-one, one_more es i (Begin 0) (omega arith))
    (sound_more _ _ (sound_take es formed i (omega arith)) this.0 this.1)

pub sound_formed : (es : List Event) → IsWellFormed es → IsSound es
sound_formed es formed =
    rw (← take_all (length es) es (omega arith)) (sound_take _ formed _ (omega arith))

-- the first events are well formed
pub formed_front : (es fs : List Event) → IsWellFormed (es ++ fs) → IsSound es
formed_front es fs formed =
    rw (← take-append_seam es fs) (sound_take _ formed _ (omega (arith, length-append es fs)))

-- a call that begins next is new, and one that ends next is open
pub formed_next : (es fs : List Event) (e : Event) → IsWellFormed (es ++ e ∷ fs)
    → ((c : ℕ) → e ≡ Begin c → begins c es ≡ 0) × EndsOpen es e
formed_next es fs e formed =
    rw (← take-append_seam es (e ∷ fs)) (formed (length es) e (stands_seam es))
  where
    stands_seam : (es : List Event) → StandsAt (es ++ e ∷ fs) (length es) e
    stands_seam [] = refl
    stands_seam (x ∷ es) = stands_seam es

-- the first events of a history are one
pub history_front : (es : List Event) (k : ℕ) → IsHistory es → IsHistory (take k es)
history_front es k history index event at = grind (arith, stands_take, take-take)

-- where too many calls are open behind one of the first events, they are in all
pub open_front : {S : Type 0} (Step : S → ℕ → S → Type 0) (olds : List S) (es : List Event)
    (index at : ℕ) → index ≤ length es → IsStop Step olds (take index es) at stop.ManyOpen
    → IsStop Step olds es at stop.ManyOpen
open_front Step olds es index at within s =
    let inside : at < index = omega (arith, s.within, length-take-le index es within) in
    record {
      within = omega (arith, inside, within);
      before = rw (take-take at index es (omega (arith, inside))) at s.before;
      at = rw (take-take (at + 1) index es (omega (arith, inside))) at s.at;
    }

-- where an order explains the events, none of them is refused
module _ {S : Type 0} (Step : S → ℕ → S → Type 0) (olds : List S) (es : List Event)
    (history : IsHistory es) where
  pub not_refused : (at : ℕ) → IsExplained Step es olds → IsStop Step olds es at stop.Refused → ⊥
  not_refused at x s = refused_whole _ _ _ _ (omega (arith, s.within)) s.at.1 history x

  not_before : (index other : ℕ) → index < other → IsStop Step olds es index stop.Refused
      → IsStop Step olds es other stop.Refused → ⊥
  not_before index other less a b =
      refused_whole Step (take other es) olds (index + 1)
      (omega (arith, less, length-take-le other es (omega (arith, b.within))))
      (rw (take-take (index + 1) other es (omega (arith, less))) a.at.1)
      (history_front es other history) b.before

pub verdicts_exclude : {S : Type 0} (Step : S → ℕ → S → Type 0) → VerdictsExclude Step
verdicts_exclude Step olds es end window last index other history = (
  λ a b. not_refused _ _ _ history _ a.0 b.0,
  λ a b. elim (cases_order index other) [
    | inl same ↦ same
    | inr (inl less) ↦ absurd (not_before _ _ _ history _ _ less a.0 b.0)
    | inr (inr more) ↦ absurd (not_before _ _ _ history _ _ more b.0 a.0)
  ],
)

pub history_past : (past window : List Event) → IsHistory (past ++ window) → IsHistory past
history_past past window history = rw (← take-append_seam past window) (history_front _ _ history)
