-- What cells show, and the entries that stand in them.
use Rattle.iox2_container.proofs.Prelude.{All, All-cons, All-nil, All-weaker, AllPairs, AllPairs-cons, Cell, Entry, Free, InsertsOne, List, None, NoneFrom, Occupant, Option, Some, [], ap, arith, drop, entries_from, get_or_from_slice_get, length, map, map-set, occupant, refl, replicate, set-get_or, set-set, shown, slice_get, slice_get-map, slice_get_within, slice_set, suc, sym, take, zero, ℕ, ◌+◌, ◌<◌, ◌∙◌, ◌∷◌, ◌≡◌, ◌≢◌, ◌≤◌}
use Rattle.iox2_container.proofs.Lists.{gains_later, get_set_same}

nothing_shown : {T N : Type 0} (next : N) (n : ℕ)
    → map (shown {T = T} {N = N}) (replicate n (Free next)) ≡ replicate n None
nothing_shown next zero = refl
nothing_shown {T} next (suc n) =
    ap (λ (l : List (Option (Occupant T))). None ∷ l) (nothing_shown next n)

-- free cells show nothing
pub nothing_shown_yet : {T N : Type 0} (cells : List (Cell T N)) (next : N) (n : ℕ)
    → cells ≡ replicate n (Free next) → map shown cells ≡ replicate n None
nothing_shown_yet {T} {N} cells next n e = grind (arith, nothing_shown)

-- what the cell of a slot shows
pub shown_at : {T N : Type 0} (cells : List (Cell T N)) (slot : ℕ) (cell : Cell T N)
    → slice_get cells slot ≡ Some cell
    → ◌≡◌ {A = Option (Option (Occupant T))} (slice_get (map shown cells) slot) (Some (shown cell))
shown_at {T} {N} cells slot cell e = grind (arith, slice_get-map)

-- what a write to cells shows
pub ruleset writes = (map-set)

-- the entry is that of a cell
pub record HasEntry {T : Type 0} (low : ℕ) (cells : List (Option (Occupant T)))
    (e : Entry T) : Type 0 where
  pub at : ℕ
  pub slot_is : e.slot ≡ low + at
  pub cell_is : slice_get cells at ≡ Some (Some (occupant e.ticket e.details))

stand_later : {T : Type 0} (low : ℕ) (c : Option (Occupant T)) (cells : List (Option (Occupant T)))
    (es : List (Entry T)) → All (HasEntry (low + 1) cells) es → All (HasEntry low (c ∷ cells)) es
stand_later low c cells =
    All-weaker (HasEntry (low + 1) cells) (HasEntry low (c ∷ cells))
    (λ e s. record { at = suc s.at; slot_is = omega (arith, s.slot_is); cell_is = s.cell_is })

pub entries_stand : {T : Type 0} (low : ℕ) (cells : List (Option (Occupant T)))
    → All (HasEntry low cells) (entries_from low cells)
entries_stand {T} low [] = All-nil (HasEntry low ([]))
entries_stand low (None ∷ cells) = grind (arith, stand_later, entries_stand (low + 1) cells)
entries_stand low (Some o ∷ cells) =
    grind (arith, All-cons, stand_later, entries_stand (low + 1) cells)

pub slots_from : {T : Type 0} (low : ℕ) (cells : List (Option (Occupant T)))
    → AllPairs (λ (v w : Entry T). v.slot < w.slot) (entries_from low cells)
slots_from {T} low [] = λ i j d h l. absurd (omega arith)
slots_from low (None ∷ cells) = slots_from (low + 1) cells
slots_from {T} low (Some o ∷ cells) =
    let x : Entry T = record { slot = low; ticket = o.ticket; details = o.details } in
    AllPairs-cons (λ (v w : Entry T). v.slot < w.slot) x (entries_from (low + 1) cells)
    (All-weaker (HasEntry (low + 1) cells) (λ (w : Entry T). low < w.slot)
    (λ w s. omega (arith, s.slot_is)) (entries_from (low + 1) cells)
    (entries_stand (low + 1) cells))
    (slots_from (low + 1) cells)

-- what stands in a cell is one entry alone
pub same_entry : {T : Type 0} (slot : ℕ) (o : Occupant T) (x : Entry T) → slot ≡ x.slot
    → ◌≡◌ {A = Option (Option (Occupant T))} (Some (Some o))
    (Some (Some (occupant x.ticket x.details)))
    → (let y : Entry T = record { slot = slot; ticket = o.ticket; details = o.details } in y) ≡ x
same_entry slot o x s h = (let e : o ≡ occupant x.ticket x.details = (cc) in rw (s, e) refl)

-- a write to a free cell
pub gains_write : {T : Type 0} (low : ℕ) (cells : List (Option (Occupant T))) (i : ℕ) (x : Entry T)
    → slice_get cells i ≡ Some None → x.slot ≡ low + i
    → InsertsOne (entries_from low cells)
    (entries_from low (slice_set cells i (Some (occupant x.ticket x.details)))) x
gains_write low [] i x h s = cc
gains_write {T} low (None ∷ cells) zero x h s = grind arith
gains_write low (Some o ∷ cells) zero x h s = cc
gains_write low (None ∷ cells) (suc i) x h s =
    grind (arith, gains_write (low + 1) cells i x h (omega arith))
gains_write {T} low (Some o ∷ cells) (suc i) x h s =
    grind (arith, gains_later, gains_write (low + 1) cells i x h (omega arith))

-- a cell that is emptied
pub gains_clear : {T : Type 0} (low : ℕ) (cells : List (Option (Occupant T))) (i : ℕ) (x : Entry T)
    → slice_get cells i ≡ Some (Some (occupant x.ticket x.details)) → x.slot ≡ low + i
    → InsertsOne (entries_from low (slice_set cells i None)) (entries_from low cells) x
gains_clear {T} low cells i x h s =
    let o : Option (Occupant T) = Some (occupant x.ticket x.details) in
    let back : slice_set (slice_set cells i None) i o ≡ cells = set-set cells i None o
    ∙ (ap (slice_set cells i) (sym (get_or_from_slice_get cells i o None h))
    ∙ set-get_or cells i None) in
    let left = slice_set cells i None in
    rw back at (gains_write low left i x
    (get_set_same cells i None (slice_get_within cells i o h)) s)

-- a free cell is room
pub room_from : {T : Type 0} (low : ℕ) (cells : List (Option (Occupant T)))
    → length (entries_from low cells) ≤ length cells
room_from low [] = omega arith
room_from low (None ∷ cells) = omega (arith, room_from (low + 1) cells)
room_from low (Some o ∷ cells) = omega (arith, room_from (low + 1) cells)

pub nothing_stands : {T : Type 0} (low n : ℕ) → entries_from {T = T} low (replicate n None) ≡ []
nothing_stands low zero = refl
nothing_stands low (suc n) = nothing_stands (low + 1) n

-- where no entry stands from a slot on, the cells from it on have none
pub nothing_from : {T : Type 0} (low i : ℕ) (cells : List (Option (Occupant T)))
    → NoneFrom cells i → entries_from low (drop i cells) ≡ []
nothing_from low zero [] free = refl
nothing_from low (suc i) [] free = refl
nothing_from low zero (None ∷ cells) free =
    nothing_from (low + 1) zero cells (λ slot later taken. free (suc slot) (omega arith) taken)
nothing_from low zero (Some o ∷ cells) free = absurd (free zero (omega arith) (o, refl))
nothing_from low (suc i) (c ∷ cells) free =
    nothing_from low i cells (λ slot later taken. free (suc slot) (omega arith) taken)

-- where no entry stands from a slot on, all stand before it
pub all_before : {T : Type 0} (low end : ℕ) (cells : List (Option (Occupant T)))
    → NoneFrom cells end → entries_from low (take end cells) ≡ entries_from low cells
all_before low zero [] free = refl
all_before low (suc end) [] free = refl
all_before low zero (None ∷ cells) free =
    all_before (low + 1) zero cells (λ slot later taken. free (suc slot) (omega arith) taken)
all_before low zero (Some entry ∷ cells) free = absurd (free zero (omega arith) (entry, refl))
all_before low (suc end) (None ∷ cells) free =
    all_before (low + 1) end cells (λ slot later taken. free (suc slot) (omega arith) taken)
all_before low (suc end) (Some o ∷ cells) free =
    rw (all_before (low + 1) end cells
    (λ slot later taken. free (suc slot) (omega arith) taken)) refl

pub below_from : {T : Type 0} (cells : List (Option (Occupant T)))
    → All (λ (e : Entry T). e.slot < length cells) (entries_from 0 cells)
below_from {T} cells =
    All-weaker (HasEntry 0 cells) (λ (e : Entry T). e.slot < length cells)
    (λ e s. omega (
      arith,
      s.slot_is,
      slice_get_within cells s.at (Some (occupant e.ticket e.details)) s.cell_is,
    ))
    (entries_from 0 cells) (entries_stand 0 cells)

-- each entry is what its cell shows
pub shown_from : {T : Type 0} (cells : List (Option (Occupant T)))
    → All (λ (e : Entry T). slice_get cells e.slot ≡ Some (Some (occupant e.ticket e.details)))
    (entries_from 0 cells)
shown_from {T} cells =
    All-weaker (HasEntry 0 cells)
    (λ (e : Entry T). slice_get cells e.slot ≡ Some (Some (occupant e.ticket e.details)))
    (λ e s. let at_slot : e.slot ≡ s.at = omega (arith, s.slot_is) in ap (slice_get cells) at_slot
    ∙ s.cell_is)
    (entries_from 0 cells) (entries_stand 0 cells)

-- where no cell is free, each has an entry
pub full_from : {T : Type 0} (low : ℕ) (cells : List (Option (Occupant T)))
    → ((k : ℕ) → k < length cells → slice_get cells k ≢ Some None)
    → length cells ≤ length (entries_from low cells)
full_from low [] h = omega arith
full_from low (None ∷ cells) h = absurd (h zero (omega arith) refl)
full_from low (Some o ∷ cells) h =
    omega (arith, full_from (low + 1) cells (λ k l. h (suc k) (omega arith)))
