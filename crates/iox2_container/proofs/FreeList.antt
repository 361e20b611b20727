-- The list of free slots, that is linked through the cells, and what a change does to it.
use Rattle.iox2_container.proofs.Prelude.{All, All-cons, All-head, All-nil, All-tail, All-weaker, Entry, Free, IsFreeAt, IsFreeList, IsTakenAt, LeadsThrough, Linked, List, None, Occupant, Option, PutsFirst, Some, Taken, TakesFirst, TakesLastFreed, [], ap, arith, entries_from, length, length-set, map, map-set, occupant, refl, replicate, shown, slice_get, slice_get_within, slice_set, subst, suc, sym, zero, ℕ, ◌+◌, ◌<◌, ◌∙◌, ◌∷◌, ◌≡◌, ◌≢◌, ◌≤◌}
use Rattle.iox2_container.specs.declared.container.free.FreeList.{FreeList}
use Rattle.iox2_container.proofs.Lists.{get_set_other, get_set_same, length-InsertsOne}
use Rattle.iox2_container.proofs.CellEntries.{shown_at, gains_write, gains_clear, nothing_stands, nothing_shown_yet}

-- each slot of the list is free
pub threads_free : {T : Type 0} (cells : List (Linked T)) (head : Option ℕ) (free : List ℕ)
    → LeadsThrough cells head free → All (IsFreeAt cells) free
threads_free cells None [] t = All-nil (IsFreeAt cells)
threads_free cells (Some head) (slot ∷ slots) t =
    All-cons (IsFreeAt cells) slot slots (t.2.0, t.2.1) (threads_free cells t.2.0 slots t.2.2)
threads_free cells head free t = absurd t

-- a slot that is not free is not in the list
pub taken_apart : {T : Type 0} (cells : List (Linked T)) (head : Option ℕ) (free : List ℕ)
    (slot ticket : ℕ) (details : T) → LeadsThrough cells head free
    → slice_get cells slot ≡ Some (Taken ticket details) → All (λ other. other ≢ slot) free
taken_apart {T} cells head free slot ticket details t h =
    All-weaker (IsFreeAt cells) (λ other. other ≢ slot)
    (λ other is e. (let free = rw e at is.1 in cc (free, h)))
    free (threads_free cells head free t)

-- a write to another slot leaves the list
pub threads_kept : {T : Type 0} (cells : List (Linked T)) (head : Option ℕ) (free : List ℕ)
    (slot : ℕ) (cell : Linked T) → All (λ other. other ≢ slot) free
    → LeadsThrough cells head free → LeadsThrough (slice_set cells slot cell) head free
threads_kept cells None [] slot cell o t = t
threads_kept cells (Some head) (s ∷ slots) slot cell o t =
    grind (
      arith,
      get_set_other,
      All-head,
      All-tail,
      threads_kept cells t.2.0 slots slot cell (All-tail (λ other. other ≢ slot) s slots o) t.2.2,
    )
threads_kept cells head free slot cell o t = absurd t

-- a slot is put before the list
pub threads_freed : {T : Type 0} (cells : List (Linked T)) (head : Option ℕ) (free : List ℕ)
    (slot : ℕ) → slot < length cells → All (λ other. other ≢ slot) free
    → LeadsThrough cells head free
    → LeadsThrough (slice_set cells slot (Free head)) (Some slot) (slot ∷ free)
threads_freed cells head free slot h o t = (
  refl,
  o,
  (
    head,
    get_set_same cells slot (Free head) h,
    threads_kept cells head free slot (Free head) o t,
  ),
)

-- a cell that is not taken is free
pub cell_free : {T : Type 0} (cells : List (Linked T)) (slot : ℕ) → slot < length cells
    → ((ticket : ℕ) → (details : T) → slice_get cells slot ≢ Some (Taken ticket details))
    → IsFreeAt cells slot
cell_free [] slot h n = absurd (omega arith)
cell_free (Free next ∷ cells) zero h n = (next, refl)
cell_free (Taken ticket details ∷ cells) zero h n = absurd (n ticket details refl)
cell_free (c ∷ cells) (suc slot) h n = cell_free cells slot (omega arith) n

pub shown_free : {T : Type 0} (cells : List (Linked T)) (slot : ℕ) → IsFreeAt cells slot
    → ◌≡◌ {A = Option (Option (Occupant T))} (slice_get (map shown cells) slot) (Some None)
shown_free cells slot f = shown_at cells slot (Free f.0) f.1

pub taken_of_shown : {T : Type 0} (cell : Linked T) (ticket : ℕ) (details : T)
    → ◌≡◌ {A = Option (Occupant T)} (shown cell) (Some (occupant ticket details))
    → cell ≡ Taken ticket details
taken_of_shown {T} (Taken t d) ticket details e = grind arith
taken_of_shown (Free next) ticket details e = cc

pub replicate_free : {T : Type 0} (n slot ticket : ℕ) (details : T)
    → slice_get (replicate n (let cell : Linked T = Free None in cell)) slot
    ≢ Some (Taken ticket details)
replicate_free zero slot ticket details e = (cc)
replicate_free (suc n) zero ticket details e = (cc)
replicate_free (suc n) (suc slot) ticket details e = replicate_free n slot ticket details e

-- what is shown as taken, is taken
pub taken_at : {T : Type 0} (cells : List (Linked T)) (slot ticket : ℕ) (details : T)
    → ◌≡◌ {A = Option (Option (Occupant T))} (slice_get (map shown cells) slot)
    (Some (Some (occupant ticket details))) → slice_get cells slot ≡ Some (Taken ticket details)
taken_at [] slot ticket details h = cc
taken_at {T} (cell ∷ cells) zero ticket details h = grind (arith, taken_of_shown)
taken_at (cell ∷ cells) (suc slot) ticket details h =
    grind (arith, taken_at cells slot ticket details h)

-- this many entries stand in the slots
abbrev pub standing : {T : Type 0} → List (Linked T) → ℕ
standing cells = length (entries_from 0 (map shown cells))

-- one stands more, after a free slot was written, and one less, after a taken slot was freed
module _ {T : Type 0} (cells : List (Linked T)) (slot ticket : ℕ) (d : T) where
  standing_write : IsFreeAt cells slot
      → standing (slice_set cells slot (Taken ticket d)) ≡ standing cells + 1
  standing_write f =
      let x : Entry T = record { slot = slot; ticket = ticket; details = d } in
      rw (map-set shown cells slot (Taken ticket d))
      (length-InsertsOne _ _ x
      (gains_write 0 (map shown cells) slot x (shown_free cells slot f) (omega arith)))

  standing_clear : (next : Option ℕ) → slice_get cells slot ≡ Some (Taken ticket d)
      → standing cells ≡ standing (slice_set cells slot (Free next)) + 1
  standing_clear next h =
      let x : Entry T = record { slot = slot; ticket = ticket; details = d } in
      rw (map-set shown cells slot (Free next))
      (length-InsertsOne _ _ x
      (gains_clear 0 (map shown cells) slot x (shown_at cells slot (Taken ticket d) h)
      (omega arith)))

-- a slot was taken, and this is left
pub record Took {T : Type 0} (cells : List (Linked T)) (slot : ℕ) (l : FreeList) : Type 0 where
  pub at : IsFreeAt cells slot
  pub free : List ℕ
  pub threads : LeadsThrough cells l.head free
  pub apart : All (λ other. other ≢ slot) free
  pub used_before : All (λ other. other < l.fresh) free
  pub before : slot < l.fresh
  pub fresh_are_free : (other : ℕ) → l.fresh ≤ other → (ticket : ℕ) → (details : T)
      → slice_get cells other ≢ Some (Taken ticket details)
  pub all_counted : standing cells + 1 + length free ≡ l.fresh
  pub fresh_within : l.fresh ≤ length cells

-- which slot that was: the one freed last, or the first fresh one
took_last : {T : Type 0} (cells : List (Linked T)) (head : Option ℕ) (freed : List ℕ)
    (fresh slot : ℕ) (head' : Option ℕ) (fresh' : ℕ) → LeadsThrough cells head freed
    → TakesFirst cells head fresh slot head' fresh'
    → (left : List ℕ) × LeadsThrough cells head' left × All (λ other. other ≢ slot) left
    × TakesLastFreed freed fresh slot left fresh'
took_last cells None [] fresh slot head' fresh' th takes = grind (arith, All-nil)
took_last {T} cells (Some h) (s ∷ slots) fresh slot head' fresh' th takes = grind arith
took_last cells head freed fresh slot head' fresh' th takes = absurd th

-- a slot is taken of cells whose free ones are in a list
module _ {T : Type 0} (cells : List (Linked T)) (l : FreeList) (slot : ℕ) (m : FreeList) where
  took_by : IsFreeList l cells → (freed left : List ℕ) → standing cells < length cells
      → All (IsFreeAt cells) freed → All (λ other. other < l.fresh) freed
      → standing cells + length freed ≡ l.fresh → LeadsThrough cells m.head left
      → All (λ other. other ≢ slot) left → TakesLastFreed freed l.fresh slot left m.fresh
      → Took cells slot m
  took_by t [] left room free below counted th apart (at, none, next) =
      grind (arith, cell_free, t.fresh_are_free, All-nil)
  took_by t (s ∷ slots) left room free below counted th apart (at, rest, next) = record {
    at = rw at (All-head (IsFreeAt cells) s slots free);
    free = left;
    threads = th;
    apart = apart;
    used_before = rw (rest, next) (All-tail (λ other. other < l.fresh) s slots below);
    before = omega (arith, at, next, All-head (λ other. other < l.fresh) s slots below);
    fresh_are_free = λ other n. t.fresh_are_free other (omega (arith, next));
    all_counted = omega (arith, next, ap length rest);
    fresh_within = omega (arith, next, t.fresh_within);
  }

  pub took : TakesFirst cells l.head l.fresh slot m.head m.fresh → IsFreeList l cells
      → standing cells < length cells → Took cells slot m
  took takes t room =
      let w = took_last cells l.head t.free l.fresh slot m.head m.fresh t.threads takes in
      took_by t t.free w.0 room (threads_free cells l.head t.free t.threads) t.used_before
      t.all_counted w.1 w.2 w.3

  pub puts_first : TakesFirst cells l.head l.fresh slot m.head m.fresh → (s : List (Linked T))
      (ticket : ℕ) (d : T) → s ≡ slice_set cells slot (Taken ticket d) → PutsFirst l cells slot m s
  puts_first takes s ticket d e freed th =
      let w = took_last cells l.head freed l.fresh slot m.head m.fresh th takes in
      (w.0, rw e (threads_kept cells m.head w.0 slot (Taken ticket d) w.2 w.1), w.3)

not_past : (i n : ℕ) → (n ≤ i → ⊥) → i < n
not_past i n h = omega arith

-- a taken slot is freed, and put before the list
module _ {T : Type 0} (cells s : List (Linked T)) (l : FreeList) (slot : ℕ)
    (i : IsTakenAt (map shown cells) slot) (e : s ≡ slice_set cells slot (Free l.head)) where
  shows : slice_get cells slot ≡ Some (Taken i.0.ticket i.0.details)
  shows = taken_at cells slot i.0.ticket i.0.details i.1

  pub clears_first : (freed : List ℕ) → LeadsThrough cells l.head freed
      → LeadsThrough s (Some slot) (slot ∷ freed)
  clears_first freed th =
      subst (λ (cs : List (Linked T)). LeadsThrough cs (Some slot) (slot ∷ freed)) (sym e)
      (threads_freed cells l.head freed slot
      (slice_get_within cells slot (Taken i.0.ticket i.0.details) shows)
      (taken_apart cells l.head freed slot i.0.ticket i.0.details th shows) th)

  pub threaded_clear : IsFreeList l cells → IsFreeList (record l { head = Some slot }) s
  threaded_clear t =
      let before : slot < l.fresh =
      not_past slot l.fresh (λ n. t.fresh_are_free slot n i.0.ticket i.0.details shows) in
      record {
        free = slot ∷ t.free;
        threads = clears_first t.free t.threads;
        used_before = All-cons (λ other. other < l.fresh) slot t.free before t.used_before;
        fresh_are_free = λ other n u v q. t.fresh_are_free other n u v
            (sym (get_set_other cells slot other (Free l.head) (λ x. omega arith)) ∙ (rw e at q));
        all_counted = omega (
          arith,
          t.all_counted,
          ap standing e,
          standing_clear cells slot i.0.ticket i.0.details l.head shows,
        );
        fresh_within =
            omega (arith, t.fresh_within, ap length e, length-set cells slot (Free l.head));
      }

-- the taken slot is written
pub threaded_put : {T : Type 0} (cells s : List (Linked T)) (slot : ℕ) (l : FreeList) (ticket : ℕ)
    (d : T) → Took cells slot l → s ≡ slice_set cells slot (Taken ticket d) → IsFreeList l s
threaded_put {T} cells s slot l ticket d w e = record {
  free = w.free;
  threads = rw e (threads_kept cells l.head w.free slot (Taken ticket d) w.apart w.threads);
  used_before = w.used_before;
  fresh_are_free = λ other n t u q. w.fresh_are_free other n t u
      (sym (get_set_other cells slot other (Taken ticket d) (λ x. omega (arith, w.before)))
      ∙ (rw e at q));
  all_counted =
      omega (arith, w.all_counted, ap standing e, standing_write cells slot ticket d w.at);
  fresh_within = omega (arith, w.fresh_within, ap length e, length-set cells slot (Taken ticket d));
}

pub threaded_new : {T : Type 0} (n : ℕ)
    → IsFreeList {T = T} (record { head = None; fresh = 0 }) (replicate n (Free None))
threaded_new {T} n = record {
  free = [];
  threads = tt;
  used_before = All-nil (λ other. other < 0);
  fresh_are_free = λ other _ ticket details. replicate_free n other ticket details;
  all_counted =
      rw (nothing_shown_yet {T = T} {N = Option ℕ} (replicate n (Free None)) None n refl)
      (omega (arith, ap length (nothing_stands {T = T} 0 n)));
  fresh_within = omega arith;
}
