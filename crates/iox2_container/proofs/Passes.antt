-- Passes over cells, which call callbacks in turn: what they leave, and what is still to come.
use Rattle.iox2_container.proofs.Prelude.{All, All-filter, All-head, All-tail, All-weaker, AreOthers, Bool, CallbackProgression, CalledInTurn, CalledOnCell, Continue, Entry, Found, IsNextOf, List, MayCall, MayVisit, None, NoneFrom, Occupant, Option, SlotIsOf, Some, Stop, Swept, TakesCell, Visits, [], add-one, ap, append-nil, arith, candidates, cell_is_of, drop, entries_from, eq-eqb, false, filter-append, if◌then◌else◌, inl, inr, is_leaving, is_of, leb_tells, length, length-append, length-set, length-take, map, map-append, ne_eqb, not, occupant, refl, slice_get, slice_get_within, slice_set, staying, subst, suc, sym, take, true, zero, ℕ, ◌++◌, ◌+◌, ◌<◌, ◌==◌, ◌∙◌, ◌∷◌, ◌≡◌, ◌≤◌}
use Rattle.iox2_container.proofs.CellEntries.{same_entry, below_from, all_before}
use Rattle.iox2_container.proofs.Lists.{get_set_other}

pub CalledInTurn-push : {F A R : Type 0} (calls : F → A → R → F → Type 0) (f : F) (items : List A)
    (answers : List R) (g : F) (item : A) (answer : R) (h : F)
    → CalledInTurn calls f items answers g
    → calls g item answer h → CalledInTurn calls f (items ++ item ∷ []) (answers ++ answer ∷ []) h
CalledInTurn-push calls f [] [] g item answer h a c = (h, rw a at c, refl)
CalledInTurn-push calls f (x ∷ xs) (r ∷ rs) g item answer h a c =
    (a.0, a.1, CalledInTurn-push calls a.0 xs rs g item answer h a.2 c)
CalledInTurn-push calls f items answers g item answer h a c = absurd a

-- the details in the first cells, and those after them
pub entries_split : {T : Type 0} (low i : ℕ) (cells : List (Option (Occupant T)))
    → (rest : List (Entry T)) × (entries_from low cells ≡ entries_from low (take i cells) ++ rest)
entries_split low zero cells = grind arith
entries_split low (suc i) [] = grind arith
entries_split low (suc i) (None ∷ cells) = grind (arith, entries_split (low + 1) i cells)
entries_split low (suc i) (Some o ∷ cells) = grind (arith, entries_split (low + 1) i cells)

abbrev pub details_of : {T : Type 0} → List (Entry T) → List T
details_of es = map (λ e. e.details) es

-- one cell more
pub taken_more : {T : Type 0} (low i : ℕ) (cells : List (Option (Occupant T))) (x : Entry T)
    → slice_get cells i ≡ Some (Some (occupant x.ticket x.details)) → x.slot ≡ low + i
    → entries_from low (take (suc i) cells) ≡ entries_from low (take i cells) ++ x ∷ []
taken_more low i [] x h s = (cc)
taken_more low zero (None ∷ cells) x h s = (cc)
taken_more {T} low zero (Some o ∷ cells) x h s = grind (arith, same_entry)
taken_more low (suc i) (None ∷ cells) x h s = taken_more (low + 1) i cells x h (omega arith)
taken_more low (suc i) (Some o ∷ cells) x h s = grind (arith, taken_more (low + 1) i cells)

pub taken_free : {T : Type 0} (low i : ℕ) (cells : List (Option (Occupant T)))
    → slice_get cells i ≡ Some None
    → entries_from low (take (suc i) cells) ≡ entries_from low (take i cells)
taken_free low i [] h = (cc)
taken_free low zero (None ∷ cells) h = refl
taken_free low zero (Some o ∷ cells) h = (cc)
taken_free low (suc i) (None ∷ cells) h = taken_free (low + 1) i cells h
taken_free low (suc i) (Some o ∷ cells) h = rw (taken_free (low + 1) i cells h) refl

pub not_stop : (a : CallbackProgression) → (a ≡ Stop → ⊥) → a ≡ Continue
not_stop Continue h = refl
not_stop Stop h = absurd (h refl)

-- the same marks, but for one slot
abbrev mark_at : (ℕ → Bool) → ℕ → Bool → ℕ → Bool
mark_at marked slot b k = if k == slot then b else marked k

-- which are the same about slots before it
module _ {T : Type 0} (is_dead : T → Bool) (marked : ℕ → Bool) (slot : ℕ) (b : Bool) where
  mark_before : (k : ℕ) → k < slot → mark_at marked slot b k ≡ marked k
  mark_before k l = ap (λ c. if c then b else marked k) (ne_eqb k slot (λ e. omega arith))

  answers_before : (es : List (Entry T)) → All (λ e. e.slot < slot) es
      → map (λ e. mark_at marked slot b e.slot) es ≡ map (λ e. marked e.slot) es
  answers_before [] h = refl
  answers_before (e ∷ es) h =
      rw (
        mark_before e.slot (All-head (λ (v : Entry T). v.slot < slot) e es h),
        answers_before es (All-tail (λ (v : Entry T). v.slot < slot) e es h),
      ) refl

  staying_before : (es : List (Entry T)) → All (λ e. e.slot < slot) es
      → staying is_dead (mark_at marked slot b) es ≡ staying is_dead marked es
  staying_before [] h = refl
  staying_before (e ∷ es) h =
      rw (
        mark_before e.slot (All-head (λ (v : Entry T). v.slot < slot) e es h),
        staying_before es (All-tail (λ (v : Entry T). v.slot < slot) e es h),
      ) refl

one_slot : {X : Type 0} (x : X) (goes : Bool)
    → length (if goes then [] else x ∷ []) + (if goes then 1 else 0) ≡ 1
one_slot x true = refl
one_slot x false = refl

unless : {X : Type 0} (x : X) (goes : Bool)
    → (if not goes then x ∷ [] else []) ≡ (if goes then [] else x ∷ [])
unless x true = refl
unless x false = refl

-- one entry more, after those swept: another one, or one that the callback is called on
module _ {F T : Type 0} {calls : F → T → Bool → F → Type 0} {is_dead : T → Bool} {f g : F}
    {old new : List (Entry T)} {gone : ℕ} (x : Entry T) (w : Swept calls is_dead f old g new gone)
  where
    swept_other : is_dead x.details ≡ false
        → Swept calls is_dead f (old ++ x ∷ []) g (new ++ x ∷ []) gone
    swept_other e = grind (arith, filter-append, append-nil, length-append)

    swept_one : (h : F) (goes : Bool) → All (λ v. v.slot < x.slot) old → is_dead x.details ≡ true
        → calls g x.details goes h
        → Swept calls is_dead f (old ++ x ∷ []) h (new ++ (if goes then [] else x ∷ []))
        (gone + (if goes then 1 else 0))
    swept_one h goes below e called =
        let marks : ℕ → Bool = mark_at w.marked x.slot goes in
        let chosen : List (Entry T) = candidates is_dead old in
        let its : marks x.slot ≡ goes =
        ap (λ c. if c then goes else w.marked x.slot) (eq-eqb x.slot x.slot refl) in
        record {
          marked = marks;
          called = rw (
            filter-append (λ (v : Entry T). is_dead v.details) old (x ∷ []),
            e,
            map-append (λ v. v.details) chosen (x ∷ []),
            map-append (λ v. marks v.slot) chosen (x ∷ []),
            answers_before is_dead w.marked x.slot goes chosen
                (All-filter (λ v. is_dead v.details) (λ (v : Entry T). v.slot < x.slot) old below),
            its,
          )
              (CalledInTurn-push calls f (details_of chosen) (map (λ v. w.marked v.slot) chosen) g
              x.details
              goes h w.called called);
          left_is =
              rw (
                filter-append (λ (v : Entry T). not (is_leaving is_dead marks v)) old (x ∷ []),
                staying_before is_dead w.marked x.slot goes old below,
                e,
                its,
                unless x goes,
              )
              (ap (λ l. l ++ (if goes then [] else x ∷ [])) w.left_is);
          gone_is = omega (
            arith,
            w.gone_is,
            length-append new (if goes then [] else x ∷ []),
            length-append old (x ∷ []),
            one_slot x goes,
          );
        }

cleared : {T : Type 0} (low i : ℕ) (cells : List (Option (Occupant T))) → i < length cells
    → entries_from low (take (suc i) (slice_set cells i None)) ≡ entries_from low (take i cells)
cleared low i [] h = absurd (omega arith)
cleared low zero (c ∷ cells) h = refl
cleared low (suc i) (None ∷ cells) h = cleared (low + 1) i cells (omega arith)
cleared low (suc i) (Some o ∷ cells) h = rw (cleared (low + 1) i cells (omega arith)) refl

below_taken : {T : Type 0} (i : ℕ) (cells : List (Option (Occupant T)))
    → All (λ (e : Entry T). e.slot < i) (entries_from 0 (take i cells))
below_taken {T} i cells = grind (arith, All-weaker, length-take, below_from)

-- what is left of one cell
left_more : {T : Type 0} (m : List (Option (Occupant T))) (i : ℕ) (x : Entry T) (goes : Bool)
    → slice_get m i ≡ Some (Some (occupant x.ticket x.details)) → x.slot ≡ i
    → entries_from 0 (take i m) ++ (if goes then [] else x ∷ [])
    ≡ entries_from 0 (take (suc i) (if goes then slice_set m i None else m))
left_more m i x true im e = grind (arith, append-nil, cleared, slice_get_within)
left_more m i x false im e = grind (arith, taken_more)

-- one cell more is swept
module _ {F T : Type 0} {calls : F → T → Bool → F → Type 0} {f g : F} {gone : ℕ}
    (node : T → ℕ) (id : ℕ) (cs m : List (Option (Occupant T))) (i : ℕ)
    (w : Swept calls (is_of node id) f (entries_from 0 (take i cs)) g (entries_from 0 (take i m))
    gone) where
  pub past_cell : (cell : Option (Occupant T)) → slice_get cs i ≡ Some cell
      → slice_get m i ≡ Some cell → false ≡ cell_is_of node id cell
      → Swept calls (is_of node id) f (entries_from 0 (take (suc i) cs)) g
      (entries_from 0 (take (suc i) m)) gone
  past_cell None is im e = rw (taken_free 0 i cs is, taken_free 0 i m im) w
  past_cell (Some o) is im e =
      let x : Entry T = record { slot = i; ticket = o.ticket; details = o.details } in
      rw (taken_more 0 i cs x is (omega arith), taken_more 0 i m x im (omega arith))
      (swept_other x w (sym e))

  pub found_cell : (h : F) (goes : Bool) (x : Entry T) → x.slot ≡ i
      → slice_get cs i ≡ Some (Some (occupant x.ticket x.details))
      → slice_get m i ≡ Some (Some (occupant x.ticket x.details))
      → is_of node id x.details ≡ true → calls g x.details goes h
      → Swept calls (is_of node id) f (entries_from 0 (take (suc i) cs)) h
      (entries_from 0 (take (suc i) (if goes then slice_set m i None else m)))
      (gone + (if goes then 1 else 0))
  found_cell h goes x at is im e called =
      rw (taken_more 0 i cs x is (omega arith), ← left_more m i x goes im at)
      (swept_one x w h goes (rw at (below_taken i cs)) e called)

-- what holds at a slot, and goes on over each slot where no entry of the node stands, holds at
-- the end of such slots
pub over_others : {T : Type 0} (node : T → ℕ) (id : ℕ) (cells : List (Option (Occupant T)))
    (P : ℕ → Type 0) (i j : ℕ) → i ≤ j → AreOthers node id cells i j
    → ((k : ℕ) → i ≤ k → SlotIsOf node id cells k false → P k → P (k + 1)) → P i → P j
over_others node id cells P i zero l others step p =
    let e : i ≡ zero = omega arith in subst P e p
over_others node id cells P i (suc j) l others step p =
    elim (leb_tells i j) as (λ _. P (suc j)) [
      | inl k ↦ subst P (add-one j)
          (step j k.1 (others j k.1 (omega arith))
          (over_others node id cells P i j k.1 (λ m a b. others m a (omega arith)) step p))
      | inr k ↦ (let e : i ≡ suc j = omega (arith, k.1) in subst P e p)
    ]

pub later_kept : {C : Type 0} (cs m n : List (Option C)) (i : ℕ) (goes : Bool)
    → n ≡ (if goes then slice_set m i None else m)
    → ((k : ℕ) → i ≤ k → slice_get m k ≡ slice_get cs k) → (k : ℕ) → i + 1 ≤ k
    → slice_get n k ≡ slice_get cs k
later_kept cs m n i true e h k l = grind (arith, get_set_other)
later_kept cs m n i false e h k l = grind arith

pub length_kept : {C : Type 0} (m n : List (Option C)) (i : ℕ) (goes : Bool)
    → n ≡ (if goes then slice_set m i None else m) → length n ≡ length m
length_kept m n i true e = ap length e ∙ length-set m i None
length_kept m n i false e = ap length e

pub few_more : (n m slot : ℕ) (b : Bool) → m ≡ n + (if b then 1 else 0) → n ≤ slot → m ≤ slot + 1
few_more n m slot true e h = omega arith
few_more n m slot false e h = omega arith

-- the cells from one on
drop_one : {C : Type 0} (cells : List C) (i : ℕ) (cell : C) → slice_get cells i ≡ Some cell
    → drop i cells ≡ cell ∷ drop (suc i) cells
drop_one [] i cell h = (cc)
drop_one {C} (c ∷ cells) zero cell h = (let e : c ≡ cell = (cc) in ap (λ (x : C). x ∷ cells) e)
drop_one (c ∷ cells) (suc i) cell h = drop_one cells i cell h

abbrev pub details_from : {T : Type 0} → ℕ → List (Option (Occupant T)) → List T
details_from i cells = details_of (entries_from i (drop i cells))

abbrev pub candidates_from : {T : Type 0} → (T → Bool) → ℕ → List (Option (Occupant T)) → List T
candidates_from is_dead i cells = details_of (candidates is_dead (entries_from i (drop i cells)))

-- a visit that has come to a cell
module _ {F T : Type 0} (takes : F → T → Type 0)
    (calls : F → T → CallbackProgression → F → Type 0) where
  shows : (f : F) (i : ℕ) (cell : Option (Occupant T)) (rest : List (Option (Occupant T)))
      → MayVisit takes calls f (details_of (entries_from i (cell ∷ rest)))
      → TakesCell takes f cell
      × ((h : F) → CalledOnCell calls f cell Continue h
      → MayVisit takes calls h (details_of (entries_from (i + 1) rest)))
  shows f i None rest m = (tt, λ h a. rw a.1 m)
  shows f i (Some o) rest m = (m.0, λ h a. m.1 h a)

  pub visit_at : (f : F) (cells : List (Option (Occupant T))) (i : ℕ) (cell : Option (Occupant T))
      → slice_get cells i ≡ Some cell → MayVisit takes calls f (details_from i cells)
      → TakesCell takes f cell
      × ((h : F) → CalledOnCell calls f cell Continue h
      → MayVisit takes calls h (details_from (i + 1) cells))
  visit_at f cells i cell is m = grind (arith, add-one, shows, drop_one)

-- a visit of the cells from one on, whose callback was called on the first
module _ {F T : Type 0} (calls : F → T → CallbackProgression → F → Type 0) where
  visited : (f g h : F) (i : ℕ) (cell : Option (Occupant T)) (rest : List (Option (Occupant T)))
      → CalledOnCell calls f cell Continue g
      → Visits calls g (details_of (entries_from (i + 1) rest)) h
      → Visits calls f (details_of (entries_from i (cell ∷ rest))) h
  visited f g h i None rest a v = rw a.1 at v
  visited f g h i (Some o) rest a v = inr (g, a, v)

  pub goes_on : (f g h : F) (cells : List (Option (Occupant T))) (i : ℕ)
      (cell : Option (Occupant T)) → slice_get cells i ≡ Some cell
      → CalledOnCell calls f cell Continue g → Visits calls g (details_from (i + 1) cells) h
      → Visits calls f (details_from i cells) h
  goes_on f g h cells i cell is a v = grind (arith, add-one, visited, drop_one)

  pub stops : (f h : F) (cells : List (Option (Occupant T))) (i : ℕ)
      (cell : Option (Occupant T)) → slice_get cells i ≡ Some cell
      → CalledOnCell calls f cell Stop h → Visits calls f (details_from i cells) h
  stops f h cells i None is a = grind arith
  stops f h cells i (Some o) is a = grind (arith, drop_one)

-- the candidates from a cell on
candidate_here : {T : Type 0} (is_dead : T → Bool) (cells : List (Option (Occupant T)))
    (i ticket : ℕ) (details : T) → slice_get cells i ≡ Some (Some (occupant ticket details))
    → is_dead details ≡ true
    → candidates_from is_dead i cells ≡ details ∷ candidates_from is_dead (i + 1) cells
candidate_here is_dead cells i ticket details is e = grind (arith, drop_one, add-one)

candidate_past : {T : Type 0} (node : T → ℕ) (id : ℕ) (cells : List (Option (Occupant T)))
    (i : ℕ) (cell : Option (Occupant T)) → slice_get cells i ≡ Some cell
    → false ≡ cell_is_of node id cell
    → candidates_from (is_of node id) i cells ≡ candidates_from (is_of node id) (i + 1) cells
candidate_past node id cells i None is e = grind (arith, drop_one, add-one)
candidate_past node id cells i (Some o) is e = grind (arith, drop_one, add-one)

-- a sweep that has come to a slot: what it did so far, and on what it may still call
pub record HasSwept {F T : Type 0} (takes : F → T → Type 0) (calls : F → T → Bool → F → Type 0)
    (is_dead : T → Bool) (f : F) (cs : List (Option (Occupant T))) (i : ℕ) (g : F)
    (m : List (Option (Occupant T))) (gone : ℕ) : Type 0 where
  pub callable : MayCall takes calls g (candidates_from is_dead i cs)
  pub swept : Swept calls is_dead f (entries_from 0 (take i cs)) g (entries_from 0 (take i m)) gone
  pub later : (k : ℕ) → i ≤ k → slice_get m k ≡ slice_get cs k
  pub len : length m ≡ length cs
  pub few : gone ≤ i

-- slots where no entry of the node stands are passed over
pub sweep_past : {F T : Type 0} {takes : F → T → Type 0} {calls : F → T → Bool → F → Type 0}
    {f g : F} {cs m : List (Option (Occupant T))} {i gone : ℕ} (node : T → ℕ) (id j : ℕ)
    → HasSwept takes calls (is_of node id) f cs i g m gone → i ≤ j → AreOthers node id m i j
    → HasSwept takes calls (is_of node id) f cs j g m gone
sweep_past {takes = takes} {calls = calls} {f = f} {g = g} {cs = cs} {m = m} {i = i} {gone = gone}
    node id j swept l others =
    over_others node id m (λ k. HasSwept takes calls (is_of node id) f cs k g m gone) i j l others
    (λ k h o w. let is = sym (w.later k (omega arith)) ∙ o.1 in record {
      callable = rw (candidate_past node id cs k o.0 is o.2) at w.callable;
      swept = rw (add-one k) (past_cell node id cs m k w.swept o.0 is o.1 o.2);
      later = λ n n_later. w.later n (omega arith);
      len = w.len;
      few = omega (arith, w.few);
    }) swept

-- the next entry of the node, after slots that are passed over
module _ {F T : Type 0} {takes : F → T → Type 0} {calls : F → T → Bool → F → Type 0}
    {node : T → ℕ} {id : ℕ} {f g : F} {cs m : List (Option (Occupant T))} {i end gone : ℕ}
    {found : Found T} (next : IsNextOf node id m i end found)
    (w : HasSwept takes calls (is_of node id) f cs i g m gone) where
  so_far : HasSwept takes calls (is_of node id) f cs found.slot g m gone
  so_far = sweep_past node id found.slot w next.order next.others

  stands : slice_get cs found.slot ≡ Some (Some (occupant next.here.1.0 found.details))
  stands = sym (so_far.later found.slot (omega arith)) ∙ next.here.1.1

  may_call : MayCall takes calls g
      (found.details ∷ candidates_from (is_of node id) (found.slot + 1) cs)
  may_call = grind (arith, candidate_here, stands, so_far)

  -- the callback may be called on it
  pub takes_next : takes g found.details
  takes_next = may_call.0

  -- it is swept
  pub sweep_next : (n : List (Option (Occupant T))) (h : F) (left : ℕ) (goes : Bool)
      → calls g found.details goes h → n ≡ (if goes then slice_set m found.slot None else m)
      → left ≡ gone + (if goes then 1 else 0)
      → HasSwept takes calls (is_of node id) f cs (found.slot + 1) h n left
  sweep_next n h left goes called n_is gone_is =
      let x : Entry T =
      record { slot = found.slot; ticket = next.here.1.0; details = found.details } in
      record {
        callable = may_call.1 goes h called;
        swept = rw (add-one found.slot, n_is, gone_is)
            (found_cell node id cs m found.slot so_far.swept h goes x refl stands next.here.1.1
            next.here.0 called);
        later = later_kept cs m n found.slot goes n_is so_far.later;
        len = length_kept m n found.slot goes n_is ∙ so_far.len;
        few = few_more gone left found.slot goes gone_is so_far.few;
      }

-- after the last entry all are swept
pub sweep_ends : {F T : Type 0} {takes : F → T → Type 0} {calls : F → T → Bool → F → Type 0}
    {is_dead : T → Bool} {f g : F} {cs m : List (Option (Occupant T))} {i gone : ℕ}
    → NoneFrom cs i → HasSwept takes calls is_dead f cs i g m gone
    → Swept calls is_dead f (entries_from 0 cs) g (entries_from 0 m) gone
sweep_ends {cs = cs} {m = m} {i = i} none w =
    rw (sym (all_before 0 i cs none))
    (rw (sym (all_before 0 i m (λ k l t. none k l (t.0, sym (w.later k l) ∙ t.1)))) w.swept)
