-- How many entries a test holds of.
use Rattle.iox2_container.proofs.Prelude.{All, All-cons, All-nil, AreOthers, Bool, Entry, Found, InsertsOne, IsLastOf, IsNextOf, IsSome, IsTakenAt, List, MatchBool, MatchOption, None, NoneFrom, Occupant, Option, SlotIsOf, Some, [], add-one, ap, arith, candidates, cell_is_of, entries_from, false, if◌then◌else◌, inl, inr, is_of, leb_tells, length, lt-ltb, nat_lt, refl, rules, same_Some, slice_get, staying, suc, sym, take, true, ℕ, ◌++◌, ◌+◌, ◌<◌, ◌∙◌, ◌∷◌, ◌≡◌, ◌≤◌, ◌⊎◌}
use Rattle.iox2_container.proofs.Passes.{entries_split, taken_free, taken_more, over_others}
use Rattle.iox2_container.proofs.CellEntries.{all_before}

-- how many entries the test holds of
abbrev pub counted : {T : Type 0} → (T → Bool) → List (Entry T) → ℕ
counted p es = length (candidates p es)

-- 1 where it holds
abbrev pub one_if : Bool → ℕ
one_if b = if b then 1 else 0

-- the first entry, and the others
pub counted-cons : {T : Type 0} (p : T → Bool) (e : Entry T) (es : List (Entry T))
    → counted p (e ∷ es) ≡ one_if (p e.details) + counted p es
counted-cons p e es = grind arith

-- the entries round one
pub counted-between : {T : Type 0} (p : T → Bool) (xs : List (Entry T)) (x : Entry T)
    (ys : List (Entry T))
    → counted p (xs ++ x ∷ ys) ≡ counted p (xs ++ ys) + one_if (p x.details)
counted-between p [] x ys = grind (arith, counted-cons)
counted-between p (e ∷ xs) x ys = grind (arith, counted-cons, counted-between p xs x ys)

counted-append : {T : Type 0} (p : T → Bool) (xs ys : List (Entry T))
    → counted p (xs ++ ys) ≡ counted p xs + counted p ys
counted-append p [] ys = grind arith
counted-append p (e ∷ xs) ys = grind (arith, counted-cons, counted-append p xs ys)

-- the slots of cells, by whether an entry of the node stands there
module _ {T : Type 0} (node : T → ℕ) (id : ℕ) (cells : List (Option (Occupant T))) where
  counted_cell : (i : ℕ) (cell : Option (Occupant T)) → slice_get cells i ≡ Some cell
      → counted (is_of node id) (entries_from 0 (take (suc i) cells))
      ≡ counted (is_of node id) (entries_from 0 (take i cells)) + one_if (cell_is_of node id cell)
  counted_cell i None h = rw (taken_free 0 i cells h) (omega arith)
  counted_cell i (Some o) h =
      let x : Entry T = record { slot = i; ticket = o.ticket; details = o.details } in
      let before = entries_from 0 (take i cells) in
      rw (taken_more 0 i cells x h (omega arith))
      (omega (
        arith,
        counted-append (is_of node id) before (x ∷ []),
        counted-cons (is_of node id) x [],
      ))

  -- one cell more, by what a loop knows of it
  pub counted_more : (i n m : ℕ) (cell : Option (Occupant T)) (b : Bool)
      → slice_get cells i ≡ Some cell → b ≡ cell_is_of node id cell → m ≡ n + one_if b
      → n ≡ counted (is_of node id) (entries_from 0 (take i cells))
      → m ≡ counted (is_of node id) (entries_from 0 (take (i + 1) cells))
  counted_more i n m cell b h e em en = grind (arith, add-one, counted_cell)

  -- some entry is the node's, where one stands in a slot
  pub some_counted : (i : ℕ) → SlotIsOf node id cells i true
      → true ≡ nat_lt 0 (counted (is_of node id) (entries_from 0 cells))
  some_counted i p =
      let s = entries_split 0 (suc i) cells in
      let more = counted_cell i p.0 p.1 in
      let one : one_if (cell_is_of node id p.0) ≡ 1 = ap one_if (sym p.2) in
      let all = ap (counted (is_of node id)) s.1
      ∙ counted-append (is_of node id) (entries_from 0 (take (suc i) cells)) s.0 in
      sym (lt-ltb 0 (counted (is_of node id) (entries_from 0 cells))
      (omega (arith, more, one, all)))

  -- none is, where none stands in any slot
  none_counted : (n : ℕ) → AreOthers node id cells 0 n
      → counted (is_of node id) (entries_from 0 (take n cells)) ≡ 0
  none_counted n others =
      over_others node id cells
      (λ k. counted (is_of node id) (entries_from 0 (take k cells)) ≡ 0) 0 n (omega arith) others
      (λ k h o e. rw (add-one k) (omega (arith, counted_cell k o.0 o.1, ap one_if (sym o.2), e)))
      refl

  -- other slots, and more of them
  pub others_join : (from i j to : ℕ) → AreOthers node id cells from i
      → AreOthers node id cells j to → j ≤ i → AreOthers node id cells from to
  others_join from i j to before after le k l h = grind (arith, leb_tells i k)

  -- one other slot
  pub other_at : (i to : ℕ) → SlotIsOf node id cells i false → to ≡ i + 1
      → AreOthers node id cells i to
  other_at i to is e k l h = let at : k ≡ i = omega arith in rw at is

  -- one slot more
  pub others_more : (from i to : ℕ) → AreOthers node id cells from i
      → SlotIsOf node id cells i false → to ≡ i + 1 → AreOthers node id cells from to
  others_more from i to others is e =
      others_join from i i to others (other_at i to is e) (omega arith)

  -- what was found from a slot on, after other slots: before the end, or nothing up to it
  pub found_after : (from at end to : ℕ) (o : Option (Found T)) → from ≤ at → end ≤ to
      → IsSome o ⊎ (end ≡ to) → AreOthers node id cells from at
      → MatchOption o (AreOthers node id cells at end) (IsNextOf node id cells at end)
      → MatchOption o (AreOthers node id cells from to) (IsNextOf node id cells from to)
  found_after from at end to None l m (inl some) others after = grind arith
  found_after from at end to None l m (inr e) others after =
      others_join from at at to others (rw e at after) (omega arith)
  found_after from at end to (Some found) l m s others next = search (rules, others_join)

  -- a search says whether the node has an entry, where the slots before it have none
  pub finds_last : (at from end old new : ℕ) (has : Bool) → NoneFrom cells end
      → AreOthers node id cells 0 at → from ≤ at
      → MatchBool has (IsLastOf node id cells from end old new) (AreOthers node id cells from end)
      → has ≡ nat_lt 0 (counted (is_of node id) (entries_from 0 cells))
  finds_last at from end old new true free others l last = some_counted last.slot last.here
  finds_last at from end old new false free others l after =
      rw (← all_before 0 end cells free)
      (rw (none_counted end (others_join 0 at from end others after l)) refl)

  -- where the node has an entry, an entry stands
  stands_there : (slot : ℕ) → SlotIsOf node id cells slot true → IsTakenAt cells slot
  stands_there slot (None, at, is) = (let e : true ≡ false = is in cc)
  stands_there slot (Some o, at, is) = (o, at)

  -- not both has the node an entry there and not
  not_both : (slot : ℕ) → SlotIsOf node id cells slot true → SlotIsOf node id cells slot false
      → ⊥
  not_both slot has others = grind (arith, same_Some)

  -- a search that begins at an entry of the node looks at no other slot
  module _ (end middle slot : ℕ) (free : NoneFrom cells end)
      (first : slot < end → middle ≡ slot + 1) (has : SlotIsOf node id cells slot true) where
    begins_there : middle ≡ slot + 1
    begins_there =
        elim (leb_tells end slot) as (λ _. middle ≡ slot + 1) [
          | inl later ↦ absurd (free slot later.1 (stands_there slot has))
          | inr less ↦ first less.1
        ]

    pub newest_found : (old new : ℕ) → IsLastOf node id cells 0 middle old new → new ≡ old + 1
    newest_found old new last = grind (arith, leb_tells slot last.slot, begins_there, not_both)

    pub newest_missed : AreOthers node id cells 0 middle → ⊥
    newest_missed others = grind (arith, begins_there, not_both)

-- one entry more
pub counted-InsertsOne : {T : Type 0} (p : T → Bool) (old new : List (Entry T)) (x : Entry T)
    → InsertsOne old new x → counted p new ≡ counted p old + one_if (p x.details)
counted-InsertsOne p old new x g = grind (arith, counted-between)

-- a recovery leaves entries that are not dead
pub counted-staying : {T : Type 0} (p is_dead : T → Bool)
    → ((d : T) → is_dead d ≡ true → p d ≡ false) → (marked : ℕ → Bool) (es : List (Entry T))
    → counted p (staying is_dead marked es) ≡ counted p es
counted-staying p is_dead other marked [] = refl
counted-staying {T} p is_dead other marked (e ∷ es) =
    grind (arith, counted-cons, counted-staying p is_dead other marked es)

not_one : (b : Bool) → one_if b ≡ 0 → b ≡ false
not_one true h = absurd (omega arith)
not_one false h = refl

-- where none is counted, each differs
pub All-other : {T : Type 0} (p : T → Bool) (es : List (Entry T)) → counted p es ≡ 0
    → All (λ e. p e.details ≡ false) es
All-other {T} p [] h = All-nil (λ (e : Entry T). p e.details ≡ false)
All-other {T} p (e ∷ es) h = grind (arith, All-cons, not_one, counted-cons, All-other p es)
