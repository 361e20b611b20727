-- One event more.
use Rattle.histories.proofs.Words.{[], map, get_or, get_or-map, length-map, sym, subst, None, suc, HasManyOpen, AreTaken, eq-eqb, Some, false, ◌≡◌, ◌≢◌, ℕ, zero, ◌+◌, ◌<◌, ◌⊎◌, List, ◌∷◌, ◌++◌, length, cond, refl, ap, arith, inl, inr, ◌∙◌, Option, cases_eq, eqb_tells, slice_get_within, FreesSlot, TakesSlot, Event, Begin, End, Crash, EndsAt, HasEnded, IsAnswered, IsOpen, IsOver, StandsAt, Ends, IsSound, HasSlot, IsTable, take, cases_lt, IsQuiet, begins, times}
use Rattle.histories.proofs.Running.{slot_once, slot_within}
use Rattle.std.proofs.lemmas.Option.{same_Some}
use Rattle.histories.specs.Histories.{begins, times}
use Rattle.histories.proofs.Lists.{at_times, times_at, times_once, times_one, times_other}

pub begins-append : (c : ℕ) (es fs : List Event) → begins c (es ++ fs) ≡ begins c es + begins c fs
unfolding begins
begins-append c [] fs = omega arith
begins-append c (Begin b ∷ es) fs = grind (arith, begins-append c es fs)
begins-append c (End b ∷ es) fs = begins-append c es fs
begins-append c (Crash b ∷ es) fs = begins-append c es fs

pub begins_none : (c : ℕ) → begins c [] ≡ 0
unfolding begins
begins_none c = refl

pub begins_begin : (c d : ℕ) (es : List Event)
    → begins c (es ++ Begin d ∷ []) ≡ begins c es + times c (d ∷ [])
unfolding begins times
begins_begin c d es = begins-append c es (Begin d ∷ [])

-- the event ends one call
pub ends_one : (e : Event) (c d : ℕ) → Ends e c → Ends e d → c ≡ d
ends_one e c d a b = grind arith

pub begin_no_end : (c d : ℕ) → Ends (Begin c) d → ⊥
begin_no_end c d ends = grind arith

-- no call begins where one ends
pub begins_ends : (c d : ℕ) (es : List Event) (e : Event) → Ends e d
    → begins c (es ++ e ∷ []) ≡ begins c es
unfolding begins
begins_ends c d es (Begin b) ends = absurd (begin_no_end _ _ ends)
begins_ends c d es (End b) ends = omega (arith, begins-append c es (End b ∷ []))
begins_ends c d es (Crash b) ends = omega (arith, begins-append c es (Crash b ∷ []))

-- what stands at an index of one part stands in both
pub stands_left : (es fs : List Event) (k : ℕ) (x : Event) → StandsAt es k x
    → StandsAt (es ++ fs) k x
stands_left [] fs k x at = absurd (cc)
stands_left (y ∷ es) fs zero x at = at
stands_left (y ∷ es) fs (suc k) x at = stands_left es fs k x at

pub stands_right : (es fs : List Event) (k : ℕ) (x : Event) → StandsAt fs k x
    → (index : ℕ) × (index ≡ length es + k) × StandsAt (es ++ fs) index x
stands_right [] fs k x at = (k, omega arith, at)
stands_right (y ∷ es) fs k x at =
    let r = stands_right es fs k x at in (suc r.0, omega (arith, r.1), r.2)

pub stands_either : (es fs : List Event) (k : ℕ) (x : Event) → StandsAt (es ++ fs) k x
    → StandsAt es k x ⊎ ((j : ℕ) × (k ≡ length es + j) × StandsAt fs j x)
stands_either [] fs k x at = inr (k, omega arith, at)
stands_either (y ∷ es) fs zero x at = inl at
stands_either (y ∷ es) fs (suc k) x at = grind (arith, stands_either es fs k x at)

pub stands_begins : (c : ℕ) (es : List Event) (k : ℕ) → StandsAt es k (Begin c) → 0 < begins c es
unfolding begins
stands_begins c [] k at = absurd (cc)
stands_begins c (Begin b ∷ es) zero at = let same : b ≡ c = cc in rw (eq-eqb b c same) (omega arith)
stands_begins c (End b ∷ es) zero at = absurd (cc)
stands_begins c (Crash b ∷ es) zero at = absurd (cc)
stands_begins c (Begin b ∷ es) (suc k) at = omega (arith, stands_begins c es k at)
stands_begins c (End b ∷ es) (suc k) at = stands_begins c es k at
stands_begins c (Crash b ∷ es) (suc k) at = stands_begins c es k at

pub begins_stands : (c : ℕ) (es : List Event) → 0 < begins c es → (k : ℕ) × StandsAt es k (Begin c)
unfolding begins
begins_stands c [] h = absurd (omega (arith, h))
begins_stands c (Begin b ∷ es) h =
    elim (eqb_tells b c) [
      | inl t ↦ (0, ap (λ n. Some (Begin n)) t.1)
      | inr f ↦
          let fewer : 0 < cond false 1 0 + begins c es = rw f.0 at h in
          let r = begins_stands c es (omega (arith, fewer)) in (suc r.0, r.1)
    ]
begins_stands c (End b ∷ es) h = let r = begins_stands c es h in (suc r.0, r.1)
begins_stands c (Crash b ∷ es) h = let r = begins_stands c es h in (suc r.0, r.1)

pub ends_left : (es fs : List Event) (k c : ℕ) → EndsAt es k c → EndsAt (es ++ fs) k c
ends_left es fs k c at = grind (arith, stands_left)

pub ends_right : (es fs : List Event) (k c : ℕ) → EndsAt fs k c
    → (index : ℕ) × (index ≡ length es + k) × EndsAt (es ++ fs) index c
ends_right es fs k c at =
    elim at [
      | inl x ↦ let r = stands_right _ _ _ _ x in (r.0, r.1, inl r.2)
      | inr x ↦ let r = stands_right _ _ _ _ x in (r.0, r.1, inr r.2)
    ]

pub ends_either : (es fs : List Event) (k c : ℕ) → EndsAt (es ++ fs) k c
    → EndsAt es k c ⊎ ((j : ℕ) × (k ≡ length es + j) × EndsAt fs j c)
ends_either es fs k c at = grind (arith, stands_either)

pub over_left : (es fs : List Event) (c d : ℕ) → IsOver es c d → IsOver (es ++ fs) c d
over_left es fs c d o = (o.0, o.1, o.2, ends_left es fs o.0 _ o.3, stands_left es fs o.1 _ o.4)

pub over_right : (es fs : List Event) (c d : ℕ) → IsOver fs c d → IsOver (es ++ fs) c d
over_right es fs c d o =
    let e = ends_right es fs o.0 c o.3 in
    let b = stands_right _ fs _ _ o.4 in
    (e.0, b.0, omega (arith, o.2, e.1, b.1), e.2, b.2)

pub answered_left : (es fs : List Event) (c : ℕ) → IsAnswered es c → IsAnswered (es ++ fs) c
answered_left es fs c a = (a.0, stands_left es fs a.0 _ a.1)

pub answered_right : (es fs : List Event) (c : ℕ) → IsAnswered fs c → IsAnswered (es ++ fs) c
answered_right es fs c a = let r = stands_right es fs a.0 _ a.1 in (r.0, r.2)

pub stands_last : (es : List Event) (e : Event) → StandsAt (es ++ e ∷ []) (length es) e
stands_last [] e = refl
stands_last (y ∷ es) e = stands_last es e

-- it stood there, or is the last one
pub stands_cases : (es : List Event) (e : Event) (k : ℕ) (x : Event) → StandsAt (es ++ e ∷ []) k x
    → StandsAt es k x ⊎ ((k ≡ length es) × (e ≡ x))
stands_cases [] e zero x at = inr (refl, cc)
stands_cases [] e (suc k) x at = absurd (cc)
stands_cases (y ∷ es) e zero x at = inl at
stands_cases (y ∷ es) e (suc k) x at = grind (arith, stands_cases es e k x at)

-- a call that has begun did so before, or with the last event
pub begins_cases : (es : List Event) (e : Event) (c : ℕ) → 0 < begins c (es ++ e ∷ [])
    → (0 < begins c es) ⊎ (e ≡ Begin c)
begins_cases es e c h = grind (arith, begins_stands, stands_cases, stands_begins)

pub stands_within : (es : List Event) (k : ℕ) (x : Event) → StandsAt es k x → k < length es
stands_within es k x at = slice_get_within es k x at

ends_cases : (es : List Event) (e : Event) (k c : ℕ) → EndsAt (es ++ e ∷ []) k c
    → EndsAt es k c ⊎ ((k ≡ length es) × Ends e c)
ends_cases es e k c at = grind (arith, stands_cases)

pub ends_within : (es : List Event) (k c : ℕ) → EndsAt es k c → k < length es
ends_within es k c at = grind (arith, stands_within)

pub ended_still : (es : List Event) (e : Event) (c : ℕ) → HasEnded es c → HasEnded (es ++ e ∷ []) c
ended_still es e c h = (h.0, ends_left es (e ∷ []) h.0 _ h.1)

pub ended_now : (es : List Event) (e : Event) (c : ℕ) → Ends e c → HasEnded (es ++ e ∷ []) c
ended_now es e c ends =
    elim ends [
      | inl is ↦ (length es, inl (rw (← is) (stands_last es _)))
      | inr is ↦ (length es, inr (rw (← is) (stands_last es _)))
    ]

pub ended_cases : (es : List Event) (e : Event) (c : ℕ) → HasEnded (es ++ e ∷ []) c
    → HasEnded es c ⊎ Ends e c
ended_cases es e c h =
    elim (ends_cases es e h.0 c h.1) [
      | inl before ↦ inl (h.0, before)
      | inr last ↦ inr last.1
    ]

pub answered_ended : (es : List Event) (c : ℕ) → IsAnswered es c → HasEnded es c
answered_ended es c a = (a.0, inl a.1)

pub answered_now : (es : List Event) (c : ℕ) → IsAnswered (es ++ End c ∷ []) c
answered_now es c = (length es, stands_last es _)

pub answered_cases : (es : List Event) (e : Event) (c : ℕ) → IsAnswered (es ++ e ∷ []) c
    → IsAnswered es c ⊎ (e ≡ End c)
answered_cases es e c a = grind (arith, stands_cases)

-- a call that is over before the begin of the last event
pub over_now : (es : List Event) (c d : ℕ) → HasEnded es c → IsOver (es ++ Begin d ∷ []) c d
over_now es c d a = search (arith, ends_within, ends_left, stands_last)

pub over_cases : (es : List Event) (e : Event) (c d : ℕ) → IsOver (es ++ e ∷ []) c d
    → IsOver es c d ⊎ (e ≡ Begin d)
over_cases es e c d o = grind (arith, stands_cases, ends_cases, stands_within)

pub over_ended : (es : List Event) (c d : ℕ) → IsOver es c d → HasEnded es c
over_ended es c d o = (o.0, o.3)

-- which calls are open
pub open_begin_still : (es : List Event) (c x : ℕ) → IsOpen es x → IsOpen (es ++ Begin c ∷ []) x
open_begin_still es c x o = (
  omega (arith, o.0, begins_begin x c es),
  λ h. elim (ended_cases _ _ _ h) [
    | inl before ↦ o.1 before
    | inr ends ↦ begin_no_end _ _ ends
  ],
)

pub open_begin_now : (es : List Event) (c : ℕ) → IsSound es → begins c es ≡ 0
    → IsOpen (es ++ Begin c ∷ []) c
open_begin_now es c s fresh = (
  omega (arith, begins_begin c c es, times_one c),
  λ h. elim (ended_cases _ _ _ h) [
    | inl before ↦ absurd (omega (arith, fresh, s.begun c before))
    | inr ends ↦ begin_no_end _ _ ends
  ],
)

pub open_begin_cases : (es : List Event) (c x : ℕ) → IsOpen (es ++ Begin c ∷ []) x
    → IsOpen es x ⊎ (c ≡ x)
open_begin_cases es c x o =
    elim (cases_eq c x) [
      | inl e ↦ inr e
      | inr ne ↦ inl (
        omega (arith, o.0, begins_begin x c es, times_other x c ne),
        λ h. o.1 (ended_still _ _ _ h),
      )
    ]

pub open_end_still : (es : List Event) (e : Event) (c x : ℕ) → Ends e c → IsOpen es x → x ≢ c
    → IsOpen (es ++ e ∷ []) x
open_end_still es e c x ends o ne = (
  omega (arith, o.0, begins_ends x c es e ends),
  λ h. elim (ended_cases _ _ _ h) [
    | inl before ↦ o.1 before
    | inr now ↦ ne (ends_one _ _ _ now ends)
  ],
)

pub open_end_before : (es : List Event) (e : Event) (c x : ℕ) → Ends e c
    → IsOpen (es ++ e ∷ []) x → IsOpen es x
open_end_before es e c x ends o = (
  omega (arith, o.0, begins_ends x c es e ends),
  λ h. o.1 (ended_still _ _ _ h),
)

pub open_end_other : (es : List Event) (e : Event) (c x : ℕ) → Ends e c
    → IsOpen (es ++ e ∷ []) x → x ≢ c
open_end_other es e c x ends o same = o.1 (ended_now _ _ _ (rw same ends))

-- a history stays one
pub sound_begin : (es : List Event) (c : ℕ) → IsSound es → begins c es ≡ 0
    → IsSound (es ++ Begin c ∷ [])
sound_begin es c s none = record {
  once = λ x. grind (arith, cases_eq, begins_begin, times_one, times_other);
  begun = λ x a.
      elim (ended_cases _ _ _ a) [
        | inl before ↦ omega (arith, begins_begin x c es, s.begun x before)
        | inr ends ↦ absurd (begin_no_end _ _ ends)
      ];
}

pub sound_end : (es : List Event) (e : Event) (c : ℕ) → Ends e c → IsSound es
    → 0 < begins c es → IsSound (es ++ e ∷ [])
sound_end es e c ends s some = record {
  once = λ x. omega (arith, begins_ends x c es e ends, s.once x);
  begun = λ x a.
      elim (ended_cases _ _ _ a) [
        | inl before ↦ omega (arith, begins_ends x c es e ends, s.begun x before)
        | inr now ↦
            let same : c ≡ x = ends_one _ _ _ ends now in
            omega (arith, begins_ends x c es e ends, rw same at some)
      ];
}

pub sound_none : IsSound []
unfolding begins
sound_none = grind arith

-- the call that has taken a slot, or one that has had another
pub taken_cases : (slots new : List (Option ℕ)) (c t slot call : ℕ) → TakesSlot slots c t new
    → HasSlot new slot call → ((slot ≡ t) × (call ≡ c)) ⊎ ((slot ≢ t) × HasSlot slots slot call)
taken_cases slots new c t slot call takes has = grind (arith, cases_eq, slot_once)

pub taken_still : (slots new : List (Option ℕ)) (c t slot call : ℕ) → TakesSlot slots c t new
    → HasSlot slots slot call → HasSlot new slot call
taken_still slots new c t slot call takes has = grind (arith, cases_eq)

pub taken_other : (slots new : List (Option ℕ)) (c t slot call : ℕ) → TakesSlot slots c t new
    → HasSlot slots slot call → slot ≢ t
taken_other slots new c t slot call takes has e = grind arith

-- a call that still has a slot had it
pub freed_before : (slots new : List (Option ℕ)) (t slot call : ℕ) → FreesSlot slots t new
    → HasSlot new slot call → (slot ≢ t) × HasSlot slots slot call
freed_before slots new t slot call frees has = grind (arith, cases_eq)

pub table_begin : (es : List Event) (slots new : List (Option ℕ)) (c t : ℕ) → IsSound es
    → begins c es ≡ 0 → IsTable es slots → TakesSlot slots c t new
    → IsTable (es ++ Begin c ∷ []) new
table_begin es slots new c t s fresh table takes = record {
  each = λ slot call has.
      elim (taken_cases _ _ _ _ _ _ takes has) [
        | inl now ↦ rw now.1 (open_begin_now _ _ s fresh)
        | inr before ↦ open_begin_still _ _ _ (table.each slot call before.1)
      ];
  all = λ call is. grind (arith, open_begin_cases, taken_still);
  apart = λ one other call a b. grind (arith, taken_cases);
  few = takes.few;
}

pub table_end : (es : List Event) (slots new : List (Option ℕ)) (e : Event) (c t : ℕ) → Ends e c
    → IsTable es slots → HasSlot slots t c → FreesSlot slots t new → IsTable (es ++ e ∷ []) new
table_end es slots new e c t ends table here frees = record {
  each = λ slot call has.
      let before = freed_before _ _ _ _ _ frees has in
      open_end_still _ _ _ _ ends (table.each slot call before.1)
      (λ same. before.0 (table.apart slot t call before.1 (rw same here)));
  all = λ call is.
      let at = table.all call (open_end_before _ _ _ _ ends is) in (
        at.0,
        frees.others at.0 (λ same. open_end_other _ _ _ _ ends is
            (slot_once slots t _ _ (rw (← same) at.1) here)) ∙ at.1,
      );
  apart = λ one other call a b. grind (arith, freed_before);
  few = omega (arith, frees.few, table.few);
}

-- the number of a call that has a slot
abbrev number : Option ℕ → ℕ
number None = 0
number (Some call) = call

taken_by : (slot : Option ℕ) → (slot ≡ None → ⊥) → slot ≡ Some (number slot)
taken_by None taken = absurd (taken refl)
taken_by (Some call) taken = refl

-- where all slots are taken and one call more begins, too many are open
module _ (events : List Event) (slots : List (Option ℕ)) (c : ℕ) (s : IsSound events)
    (fresh : begins c events ≡ 0) (table : IsTable events slots) (taken : AreTaken slots)
  where
    abbrev calls : List ℕ
    calls = map number slots

    call_at : (i : ℕ) → i < length calls → HasSlot slots i (get_or calls i 0)
    call_at i h =
        taken_by (get_or slots i None) (taken.1 i (omega (arith, h, length-map slots number)))
        ∙ ap (λ n. Some n) (sym (get_or-map number slots i None))

    open_at : (i : ℕ) → i < length calls → IsOpen events (get_or calls i 0)
    open_at i h = table.each i (get_or calls i 0) (call_at i h)

    new : (i : ℕ) → i < length calls → c ≡ get_or calls i 0 → ⊥
    new i h e = omega (arith, (open_at i h).0, subst (λ y. begins y events ≡ 0) e fresh)

    same : (x i j : ℕ) → i < length (c ∷ calls) → j < length (c ∷ calls)
        → get_or (c ∷ calls) i 0 ≡ x → get_or (c ∷ calls) j 0 ≡ x → i ≡ j
    same x zero zero h k a b = refl
    same x zero (suc j) h k a b = absurd (new j (omega (arith, k)) (a ∙ sym b))
    same x (suc i) zero h k a b = absurd (new i (omega (arith, h)) (b ∙ sym a))
    same x (suc i) (suc j) h k a b =
        ap suc (table.apart i j x (rw a at (call_at i (omega (arith, h))))
        (rw b at (call_at j (omega (arith, k)))))

    open_now : (x i : ℕ) → i < length (c ∷ calls) → get_or (c ∷ calls) i 0 ≡ x
        → IsOpen (events ++ Begin c ∷ []) x
    open_now x zero h e =
        subst (λ y. IsOpen (events ++ Begin c ∷ []) y) e (open_begin_now events c s fresh)
    open_now x (suc i) h e = open_begin_still events c x (rw e at (open_at i (omega (arith, h))))

    -- a call that is open begins now, or has a slot
    among_now : (x : ℕ) → IsOpen (events ++ Begin c ∷ []) x → 0 < times x (c ∷ calls)
    among_now x is =
        elim (open_begin_cases events c x is) [
          | inl before ↦
              let at = table.all x before in
              let within : at.0 < length calls =
              omega (arith, slot_within slots at.0 x at.1, length-map slots number) in
              let there : get_or calls at.0 0 ≡ x =
              same_Some _ _ (sym (call_at at.0 within) ∙ at.1) in
              rw there at (times_at (c ∷ calls) (suc at.0) 0 (omega (arith, within)))
          | inr now ↦
              subst (λ y. 0 < times y (c ∷ calls)) now (times_at (c ∷ calls) 0 0 (omega arith))
        ]

    pub many_open : HasManyOpen (events ++ Begin c ∷ [])
    many_open = (
      c ∷ calls,
      omega (arith, taken.0, table.few, length-map slots number),
      λ x. times_once x (c ∷ calls) (same x),
      λ x. (
        λ h. let at = at_times x (c ∷ calls) h in open_now x at.0 at.1 at.2,
        among_now x,
      ),
    )

pub ended_left : (es fs : List Event) (c : ℕ) → HasEnded es c → HasEnded (es ++ fs) c
ended_left es fs c h = (h.0, ends_left es fs h.0 _ h.1)

pub ended_right : (es fs : List Event) (c : ℕ) → HasEnded fs c → HasEnded (es ++ fs) c
ended_right es fs c h = let r = ends_right es fs h.0 _ h.1 in (r.0, r.2)

pub ended_either : (es fs : List Event) (c : ℕ) → HasEnded (es ++ fs) c
    → HasEnded es c ⊎ HasEnded fs c
ended_either es fs c h =
    elim (ends_either es fs h.0 c h.1) [
      | inl x ↦ inl (h.0, x)
      | inr r ↦ inr (r.0, r.2)
    ]

-- where both parts are sound, and none begins a call of the other, so is the whole
pub sound_back : (es fs gs : List Event) → IsSound fs → IsSound gs
    → IsSound (es ++ (fs ++ gs)) → IsSound (fs ++ gs)
sound_back es fs gs f g whole = record {
  once = λ c. omega (arith, whole.once c, begins-append c es (fs ++ gs));
  begun = λ c ended. elim (ended_either _ _ _ ended) [
    | inl x ↦ omega (arith, f.begun c x, begins-append c fs gs)
    | inr x ↦ omega (arith, g.begun c x, begins-append c fs gs)
  ];
}

-- no call is open after two parts after each of which none is
pub quiet_both : (es fs : List Event) → IsQuiet es → IsQuiet fs → IsQuiet (es ++ fs)
quiet_both es fs p q c begun = grind (arith, cases_lt, ended_left, ended_right, begins-append)

-- a call that is open after both is open after the first, or begins in the second
pub open_parts : (es fs : List Event) (c : ℕ) → IsOpen (es ++ fs) c
    → IsOpen es c ⊎ (0 < begins c fs)
open_parts es fs c is =
    elim (cases_lt 0 (begins c es)) [
      | inl some ↦ inl (some, λ ended. is.1 (ended_left _ _ _ ended))
      | inr none ↦ inr (omega (arith, is.0, none, begins-append c es fs))
    ]

-- a call that is open has begun in the second part, where none is open after the first
pub open_inside : (es fs : List Event) (c : ℕ) → IsQuiet es → IsOpen (es ++ fs) c → IsOpen fs c
open_inside es fs c quiet is = grind (arith, cases_lt, ended_left, begins-append, ended_right)

-- a call that is open in the second part is open in the whole
pub open_whole : (es fs : List Event) (c : ℕ) → IsSound es → IsSound (es ++ fs) → IsOpen fs c
    → IsOpen (es ++ fs) c
open_whole es fs c first whole is = (
  omega (arith, is.0, begins-append c es fs),
  λ ended. elim (ended_either _ _ _ ended) [
    | inl x ↦ absurd (omega (arith, first.begun c x, is.0, whole.once c, begins-append c es fs))
    | inr x ↦ is.1 x
  ],
)

-- what stands among the first events stands in all of them
pub stands_take : (es : List Event) (k p : ℕ) (e : Event) → StandsAt (take k es) p e
    → StandsAt es p e × (p < k)
stands_take [] zero p e at = absurd (cc)
stands_take [] (suc k) p e at = absurd (cc)
stands_take (x ∷ es) zero p e at = absurd (cc)
stands_take (x ∷ es) (suc k) zero e at = (at, omega arith)
stands_take (x ∷ es) (suc k) (suc p) e at =
    let rest = stands_take es k p e at in (rest.0, omega (arith, rest.1))

-- and what stands before their end stands among them
pub stands_front : (es : List Event) (k p : ℕ) (e : Event) → StandsAt es p e → p < k
    → StandsAt (take k es) p e
stands_front [] k p e at less = absurd (cc)
stands_front (x ∷ es) zero p e at less = absurd (omega arith)
stands_front (x ∷ es) (suc k) zero e at less = at
stands_front (x ∷ es) (suc k) (suc p) e at less = stands_front es k p e at (omega (arith, less))

-- a call has ended, or not
ended_or_not : (es : List Event) (c : ℕ) → HasEnded es c ⊎ (¬ (HasEnded es c))
ended_or_not [] c = inr (λ h. absurd (omega (arith, ends_within [] h.0 c h.1)))
ended_or_not (e ∷ es) c =
    elim (ended_or_not es c) [
      | inl h ↦ inl (suc h.0, h.1)
      | inr none ↦ elim (ends_or_not e c) [
        | inl here ↦ inl (0, here)
        | inr not ↦ inr (λ h. neither h.0 h.1 none not)
      ]
    ]
  where
    ends_or_not : (e : Event) (c : ℕ) → EndsAt (e ∷ es) 0 c ⊎ (¬ (EndsAt (e ∷ es) 0 c))
    ends_or_not (Begin b) c = grind arith
    ends_or_not (End b) c = grind (arith, cases_eq)
    ends_or_not (Crash b) c = grind (arith, cases_eq)

    neither : (k : ℕ) → EndsAt (e ∷ es) k c → ¬ (HasEnded es c) → ¬ (EndsAt (e ∷ es) 0 c) → ⊥
    neither zero at none not = not at
    neither (suc k) at none not = none (k, at)

-- no call is open where none has a slot
pub quiet_empty : (es : List Event) (slots : List (Option ℕ)) → IsTable es slots
    → ((slot call : ℕ) → HasSlot slots slot call → ⊥) → IsQuiet es
quiet_empty es slots table empty call begun =
    elim (ended_or_not _ _) [
      | inl h ↦ h
      | inr none ↦ grind arith
    ]
