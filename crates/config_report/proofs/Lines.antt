-- Lists that are made one item after the other.
use Rattle.config_report.proofs.Prelude.{◌≡◌, ℕ, ◌+◌, ◌≤◌, ◌<◌, List, [], ◌∷◌, ◌++◌, length, map, drop, get_or, refl, add-one, append_assoc, append-nil, arith, drop-cons, drop_of_length-le, flat_map}

-- one text is written after another, or one list added
pub then : {A : Type 0} (out mid new first second : List A) → mid ≡ out ++ first
    → new ≡ mid ++ second → new ≡ out ++ (first ++ second)
then out mid new first second was now = grind (arith, append_assoc)

-- what there is of one more of some values is added
pub one_more : {A B C : Type 0} (view : A → B) (text : B → List C) (xs : List A) (i : ℕ) (x : A)
    (out new whole : List C) → i < length xs → x ≡ get_or xs i x
    → out ++ flat_map text (map view (drop i xs)) ≡ whole → new ≡ out ++ text (view x)
    → new ++ flat_map text (map view (drop (i + 1) xs)) ≡ whole
one_more view text xs i x out new whole lt is before wrote =
    grind (arith, add-one, drop-cons, append_assoc)

-- past the last of some values all of them are mapped
pub all_mapped : {A B C : Type 0} (view : A → B) (f : B → C) (xs : List A) (i : ℕ)
    (done whole : List C) → length xs ≤ i → done ++ map f (map view (drop i xs)) ≡ whole
    → done ≡ whole
all_mapped view f xs i done whole all is = grind (arith, drop_of_length-le, append-nil)

pub map_twice : {A B C : Type 0} (f : A → B) (g : B → C) (xs : List A)
    → map g (map f xs) ≡ map (λ x. g (f x)) xs
map_twice f g [] = refl
map_twice f g (x ∷ xs) = rw (map_twice f g xs) refl
