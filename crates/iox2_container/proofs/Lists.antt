-- Lists: where one element was written, where one entry was gained, and which elements they have.
use Rattle.iox2_container.proofs.Prelude.{All, All-append, All-cons, All-drop, All-head, All-tail, All-take, AllPairs, AllPairs-cons, Any, Bool, Contains, Entry, InsertsOne, List, Some, [], ap, arith, filter, get_or-set_same, inl, inr, length, length-append, length-set, map, refl, rules, slice_get, slice_get_read, slice_set, subst, suc, sym, true, zero, ℕ, ◌++◌, ◌+◌, ◌<◌, ◌∷◌, ◌≡◌, ◌≢◌, ◌⊎◌}
use Rattle.std.proofs.Math.Seq.{take-append_seam, drop-append_seam}

-- the others are as they were
pub get_set_other : {A : Type 0} (xs : List A) (i j : ℕ) (a : A) → j ≢ i
    → slice_get (slice_set xs i a) j ≡ slice_get xs j
get_set_other [] i j a n = refl
get_set_other (x ∷ xs) zero zero a n = absurd (n refl)
get_set_other (x ∷ xs) zero (suc j) a n = refl
get_set_other (x ∷ xs) (suc i) zero a n = refl
get_set_other (x ∷ xs) (suc i) (suc j) a n = get_set_other xs i j a (λ e. n (ap suc e))

-- it is what was written
pub get_set_same : {A : Type 0} (xs : List A) (i : ℕ) (a : A) → i < length xs
    → slice_get (slice_set xs i a) i ≡ Some a
get_set_same xs i a h = search (rules, slice_get_read, length-set, get_or-set_same)

pub filter-map : {A B : Type 0} (p : B → Bool) (u : A → B) (xs : List A)
    → filter p (map u xs) ≡ map u (filter (λ x. p (u x)) xs)
filter-map p u [] = refl
filter-map {A} {B} p u (x ∷ xs) = grind (arith, filter, filter-map p u xs, filter-map p u xs)

pub AllPairs-head : {X : Type 0} (R : X → X → Type 0) (x : X) (xs : List X) → AllPairs R (x ∷ xs)
    → All (R x) xs
AllPairs-head R x xs p k d h = p zero (suc k) d (omega arith) (omega arith)

pub AllPairs-tail : {X : Type 0} (R : X → X → Type 0) (x : X) (xs : List X) → AllPairs R (x ∷ xs)
    → AllPairs R xs
AllPairs-tail R x xs p i j d h l = p (suc i) (suc j) d (omega arith) (omega arith)

pub All-front : {X : Type 0} (P : X → Type 0) (b a : List X) → All P (b ++ a) → All P b
All-front P b a h = rw take-append_seam at (All-take P (length b) (b ++ a) h)

pub All-back : {X : Type 0} (P : X → Type 0) (b a : List X) → All P (b ++ a) → All P a
All-back P b a h = rw drop-append_seam at (All-drop P (length b) (b ++ a) h)

pub All-put : {X : Type 0} (P : X → Type 0) (b a : List X) (x : X) → All P (b ++ a) → P x
    → All P (b ++ x ∷ a)
All-put P b a x h p = search (rules, All-append, All-front, All-cons, All-back)

pub All-cut : {X : Type 0} (P : X → Type 0) (b a : List X) (x : X) → All P (b ++ x ∷ a)
    → All P (b ++ a)
All-cut P b a x h =
    All-append P b a (All-front P b (x ∷ a) h) (All-tail P x a (All-back P b (x ∷ a) h))

pub AllPairs-put : {X : Type 0} (R : X → X → Type 0) (b a : List X) (x : X)
    → ((y : X) → R x y → R y x) → AllPairs R (b ++ a) → All (R x) (b ++ a) → AllPairs R (b ++ x ∷ a)
AllPairs-put R [] a x s p h = AllPairs-cons R x a h p
AllPairs-put R (y ∷ b) a x s p h =
    AllPairs-cons R y (b ++ x ∷ a)
    (All-put (R y) b a x (AllPairs-head R y (b ++ a) p) (s y (All-head (R x) y (b ++ a) h)))
    (AllPairs-put R b a x s (AllPairs-tail R y (b ++ a) p) (All-tail (R x) y (b ++ a) h))

pub AllPairs-cut : {X : Type 0} (R : X → X → Type 0) (b a : List X) (x : X)
    → AllPairs R (b ++ x ∷ a) → AllPairs R (b ++ a)
AllPairs-cut R [] a x p = AllPairs-tail R x a p
AllPairs-cut R (y ∷ b) a x p =
    AllPairs-cons R y (b ++ a)
    (All-cut (R y) b a x (AllPairs-head R y (b ++ x ∷ a) p))
    (AllPairs-cut R b a x (AllPairs-tail R y (b ++ x ∷ a) p))

-- each of the others is related to the one between them
pub AllPairs-around : {X : Type 0} (R : X → X → Type 0) (b a : List X) (x : X)
    → ((y : X) → R y x → R x y) → AllPairs R (b ++ x ∷ a) → All (R x) (b ++ a)
AllPairs-around R [] a x s p = AllPairs-head R x a p
AllPairs-around R (y ∷ b) a x s p =
    All-cons (R x) y (b ++ a)
    (s y (All-head (R y) x a (All-back (R y) b (x ∷ a) (AllPairs-head R y (b ++ x ∷ a) p))))
    (AllPairs-around R b a x s (AllPairs-tail R y (b ++ x ∷ a) p))

-- there is one more
pub length-InsertsOne : {T : Type 0} (old new : List (Entry T)) (x : Entry T) → InsertsOne old new x
    → length new ≡ length old + 1
length-InsertsOne old new x g = grind (arith, length-append)

pub gains_later : {T : Type 0} (old new : List (Entry T)) (x y : Entry T) → InsertsOne old new x
    → InsertsOne (y ∷ old) (y ∷ new) x
gains_later old new x y g =
    record {
      before = y ∷ g.before;
      after = g.after;
      old_is = ap (λ l. y ∷ l) g.old_is;
      new_is = ap (λ l. y ∷ l) g.new_is;
    }

-- x is in the list
abbrev pub Among : {X : Type 0} → X → List X → Type 0
Among x [] = ⊥
Among x (y ∷ ys) = (x ≡ y) ⊎ Among x ys

pub among_contained : {X : Type 0} (xs : List X) (x : X) → Contains xs x → Among x xs
among_contained [] x (k, l, e) = absurd (omega (arith, l))
among_contained (y ∷ ys) x (zero, l, e) = inl (sym e)
among_contained (y ∷ ys) x (suc k, l, e) = inr (among_contained ys x (k, omega (arith, l), e))

pub contains_among : {X : Type 0} (xs : List X) (x : X) → Among x xs → Contains xs x
contains_among [] x a = absurd a
contains_among (y ∷ ys) x (inl e) = (zero, omega arith, sym e)
contains_among (y ∷ ys) x (inr a) =
    let c = contains_among ys x a in
    (suc c.0, omega (arith, c.1), c.2)

-- what holds of some item holds of the first or of another
pub first_or_other : {X : Type 0} (P : X → Type 0) (x : X) (xs : List X) → Any P (x ∷ xs) → P x
    ⊎ Any P xs
first_or_other P x xs (zero, y, l, e, p) = inl (subst P (sym e) p)
first_or_other P x xs (suc k, y, l, e, p) = inr (k, y, omega (arith, l), e, p)

pub of_all : {X : Type 0} (P : X → Type 0) (xs : List X) (x : X) → All P xs → Among x xs → P x
of_all P [] x h a = absurd a
of_all P (y ∷ ys) x h (inl e) = subst P (sym e) (All-head P y ys h)
of_all P (y ∷ ys) x h (inr a) = of_all P ys x (All-tail P y ys h) a

pub moved : {X : Type 0} (x : X) (xs ys : List X) → xs ≡ ys → Among x xs → Among x ys
moved x xs ys e h = rw e at h

among_put : {X : Type 0} (b a : List X) (x y : X) → Among y (b ++ a) → Among y (b ++ x ∷ a)
among_put [] a x y h = inr h
among_put (z ∷ b) a x y (inl e) = inl e
among_put (z ∷ b) a x y (inr h) = inr (among_put b a x y h)

among_put_self : {X : Type 0} (b a : List X) (x : X) → Among x (b ++ x ∷ a)
among_put_self [] a x = inl refl
among_put_self (z ∷ b) a x = inr (among_put_self b a x)

among_cut : {X : Type 0} (b a : List X) (x y : X) → Among y (b ++ x ∷ a) → Among y (b ++ a)
    ⊎ (y ≡ x)
among_cut [] a x y (inl e) = grind arith
among_cut [] a x y (inr h) = grind arith
among_cut (z ∷ b) a x y (inl e) = grind arith
among_cut {X} (z ∷ b) a x y (inr h) = grind (arith, among_cut b a x y h)

-- the entry that was gained, the others, and no third
pub gained : {T : Type 0} (old new : List (Entry T)) (x : Entry T) → InsertsOne old new x
    → Among x new
gained old new x g = rw g.new_is (among_put_self g.before g.after x)

pub among_more : {T : Type 0} (old new : List (Entry T)) (x y : Entry T) → InsertsOne old new x
    → Among y old → Among y new
among_more old new x y g h =
    rw g.new_is (among_put g.before g.after x y (rw g.old_is at h))

pub among_less : {T : Type 0} (old new : List (Entry T)) (x y : Entry T) → InsertsOne old new x
    → Among y new → Among y old ⊎ (y ≡ x)
among_less old new x y g h = grind (arith, among_cut)

-- a list without one of its entries
pub record Without {T : Type 0} (es : List (Entry T)) (x : Entry T) : Type 0 where
  pub rest : List (Entry T)
  pub gains : InsertsOne rest es x

pub without : {T : Type 0} (es : List (Entry T)) (x : Entry T) → Among x es → Without es x
without [] x h = absurd h
without (e ∷ es) x (inl p) = record {
  rest = es;
  gains = record { before = []; after = es; old_is = refl; new_is = rw p refl };
}
without (e ∷ es) x (inr h) =
    let w = without es x h in
    record { rest = e ∷ w.rest; gains = gains_later w.rest es x e w.gains }

-- entries that differ in their number, which is the slot or the ticket
abbrev pub DifferBy : {T : Type 0} → (Entry T → ℕ) → List (Entry T) → Type 0
DifferBy n es = AllPairs (λ v w. n v ≢ n w) es

-- the entry that was gained differs from the others
pub others_differ : {T : Type 0} (n : Entry T → ℕ) (old new : List (Entry T)) (x : Entry T)
    → InsertsOne old new x → DifferBy n new → All (λ w. n x ≢ n w) old
others_differ n old new x g p =
    rw g.old_is
    (AllPairs-around (λ v w. n v ≢ n w) g.before g.after x (λ v d e. d (sym e)) (rw g.new_is at p))

pub other_differs : {T : Type 0} (n : Entry T → ℕ) (old new : List (Entry T)) (x y : Entry T)
    → InsertsOne old new x → DifferBy n new → Among y old → n y ≢ n x
other_differs n old new x y g p h s =
    of_all (λ w. n x ≢ n w) old y (others_differ n old new x g p) h (sym s)

-- entries of one ticket are one
pub one_by_ticket : {T : Type 0} (es v w : List (Entry T)) (x y : Entry T)
    → AllPairs (λ a b. a.ticket ≢ b.ticket) es → InsertsOne v es x → InsertsOne w es y
    → x.ticket ≡ y.ticket → y ≡ x
one_by_ticket es v w x y differ gx gy t =
    elim (among_less v es x y gx (gained w es y gy)) [
      | inl h ↦ absurd (other_differs (λ e. e.ticket) v es x y gx differ h (sym t))
      | inr e ↦ e
    ]

-- what passes a test is what is in the list and passes it
pub filter_from : {X : Type 0} (p : X → Bool) (xs : List X) (x : X) → Among x (filter p xs)
    → Among x xs × (p x ≡ true)
filter_from p [] x h = absurd h
filter_from {X} p (y ∷ ys) x h = grind (arith, filter, filter_from p ys x)

pub filter_to : {X : Type 0} (p : X → Bool) (xs : List X) (x : X) → Among x xs → p x ≡ true
    → Among x (filter p xs)
filter_to p [] x h e = absurd h
filter_to {X} p (y ∷ ys) x a e = grind (arith, filter, filter_to p ys x)
