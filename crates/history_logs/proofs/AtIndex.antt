-- Elements at an index.
use Rattle.history_logs.proofs.Words.{All, List, Some, [], ap, arith, get_or, get_or_from_slice_get, get_or_push, inl, inr, length, length_push, refl, same_Some, slice_get, slice_get-get_or, slice_get_read, slice_get_within, slice_set, subst, suc, sym, zero, ℕ, ◌++◌, ◌<◌, ◌∙◌, ◌∷◌, ◌≡◌, ◌⊎◌}
use Rattle.iox2_container.proofs.Lists.{get_set_same}

pub get_same : {X : Type 0} (xs : List X) (i : ℕ) (a b : X) → slice_get xs i ≡ Some b
    → slice_get (slice_set xs i a) i ≡ Some a
get_same xs i a b e = get_set_same xs i a (slice_get_within xs i b e)

pub get_left : {X : Type 0} (xs ys : List X) (n : ℕ) → n < length xs
    → slice_get (xs ++ ys) n ≡ slice_get xs n
get_left [] ys n h = absurd (omega arith)
get_left (x ∷ xs) ys zero h = refl
get_left (x ∷ xs) ys (suc n) h = get_left xs ys n (omega arith)

pub get_last : {X : Type 0} (xs : List X) (y : X) (n : ℕ) → n ≡ length xs
    → slice_get (xs ++ y ∷ []) n ≡ Some y
get_last xs y n h =
    slice_get_read (xs ++ y ∷ []) (length (xs ++ y ∷ [])) n y refl
    (omega (arith, length_push xs y)) (sym (get_or_push xs y y n (sym h)))

pub get_push : {X : Type 0} (xs : List X) (y : X) (i : ℕ) (x : X) → slice_get xs i ≡ Some x
    → slice_get (xs ++ y ∷ []) i ≡ Some x
get_push xs y i x e = get_left xs (y ∷ []) i (slice_get_within xs i x e) ∙ e

pub get_push_at : {X : Type 0} (xs : List X) (y : X) (i : ℕ) (x : X)
    → slice_get (xs ++ y ∷ []) i ≡ Some x
    → (slice_get xs i ≡ Some x) ⊎ ((i ≡ length xs) × (y ≡ x))
get_push_at [] y zero x e = inr (refl, same_Some y x e)
get_push_at [] y (suc i) x e = absurd (cc)
get_push_at (z ∷ xs) y zero x e = inl e
get_push_at (z ∷ xs) y (suc i) x e =
    elim (get_push_at xs y i x e) as (λ _. (slice_get (z ∷ xs) (suc i) ≡ Some x)
    ⊎ ((suc i ≡ length (z ∷ xs)) × (y ≡ x))) [
      | inl before ↦ inl before
      | inr last ↦ inr (ap suc last.0, last.1)
    ]

pub all_get : {X : Type 0} (P : X → Type 0) (xs : List X) (i : ℕ) (x : X) → All P xs
    → slice_get xs i ≡ Some x → P x
all_get P xs i x all e =
    subst P (get_or_from_slice_get xs i x x e) (all i x (slice_get_within xs i x e))

pub all_of : {X : Type 0} (P : X → Type 0) (xs : List X)
    → ((i : ℕ) (x : X) → slice_get xs i ≡ Some x → P x) → All P xs
all_of P xs each i d h = each i (get_or xs i d) (slice_get-get_or xs i d h)

pub get_within : {X : Type 0} (xs : List X) (i : ℕ) → i < length xs
    → (x : X) × (slice_get xs i ≡ Some x)
get_within [] i h = absurd (omega arith)
get_within (x ∷ xs) zero h = (x, refl)
get_within (x ∷ xs) (suc i) h = get_within xs i (omega arith)
