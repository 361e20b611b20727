-- The settings of two configurations, one after the other, and when two values are the same.
use Rattle.std.specs.Bool.{Decides}
use Rattle.std.proofs.lemmas.Slice.Eq.{bytes_eq-Decides}
use Rattle.config_report.proofs.Prelude.{◌≡◌, Bool, ℕ, zero, suc, ◌+◌, ◌≤◌, List, [], ◌∷◌, ◌++◌, length, map, drop, slice_get, Option, Some, None, refl, sym, add-one, append_assoc, append-nil, arith, length-append, flat_map, nat_tests, same_from_decides, length-map, none-some, slice_get_past, row_view, Setting, held_at, ValuePair, is_same, paired}
use Rattle.iox2_config_file.specs.declared.fault.Kind.{Kind}
use Rattle.iox2_config_file.specs.declared.section.Row.{Row}
use Rattle.iox2_config_file.specs.Values.{SettingValue}
use Rattle.iox2_config_file.proofs.Rowed.{drop_at, here, keyed, row_key}

abbrev pub make_pair : List ℕ → SettingValue → SettingValue → ValuePair
make_pair key value other = record { key = key; value = value; other = other }

-- a setting beside its value in the other configuration
abbrev beside : Option Setting → Option SettingValue → Option ValuePair
beside (Some x) (Some other) = Some (make_pair x.key x.value other)
beside _ _ = None

none_beside : (o : Option Setting) → None ≡ beside o None
none_beside None = refl
none_beside (Some x) = refl

pair_is : (xs ys : List Setting) (i : ℕ)
    → slice_get (paired xs ys) i ≡ beside (slice_get xs i) (held_at ys i)
pair_is [] ys i = refl
pair_is (x ∷ xs) [] i = none_beside (slice_get (x ∷ xs) i)
pair_is (x ∷ xs) (y ∷ ys) zero = refl
pair_is (x ∷ xs) (y ∷ ys) (suc i) = pair_is xs ys i

none_at : (xs : List Setting) (i : ℕ) → None ≡ held_at xs i → slice_get xs i ≡ None
none_at [] i none = refl
none_at (x ∷ xs) zero none = absurd (none-some x.value none)
none_at (x ∷ xs) (suc i) none = none_at xs i none

-- the pair of this number, if both configurations have the setting
pub pair_here : (rows : List Row) (xs ys : List Setting) (more : List (List ℕ × Kind)) (i : ℕ)
    (r : Row) (v w : SettingValue) → map row_view rows ≡ map keyed xs ++ more
    → slice_get rows i ≡ Some r → Some v ≡ held_at xs i → Some w ≡ held_at ys i
    → Some (make_pair r.key.now v w) ≡ slice_get (paired xs ys) i
pair_here rows xs ys more i r v w same row at there =
    let (x, _, value, found) = here xs i v (sym at) in
    let key = row_key rows xs more i x r same found row in
    grind (arith, pair_is)

pub no_value : (xs ys : List Setting) (i : ℕ) → None ≡ held_at xs i
    → None ≡ slice_get (paired xs ys) i
no_value xs ys i none = rw (pair_is xs ys i, none_at xs i none) refl

pub no_other : (xs ys : List Setting) (i : ℕ) → None ≡ held_at ys i
    → None ≡ slice_get (paired xs ys) i
no_other xs ys i none = rw (pair_is xs ys i, ← none) (none_beside (slice_get xs i))

drop_past : {X : Type 0} (xs : List X) (i : ℕ) → None ≡ slice_get xs i → drop i xs ≡ []
drop_past [] zero none = refl
drop_past [] (suc i) none = refl
drop_past (x ∷ xs) zero none = absurd (none-some x none)
drop_past (x ∷ xs) (suc i) none = drop_past xs i none

-- what is made of one thing more was added
pub walk_next : {P A : Type 0} (f : P → List A) (ps : List P) (i : ℕ) (p : P)
    (out new whole : List A) → Some p ≡ slice_get ps i
    → out ++ flat_map f (drop i ps) ≡ whole → new ≡ out ++ f p
    → new ++ flat_map f (drop (i + 1) ps) ≡ whole
walk_next f ps i p out new whole at before now = grind (arith, add-one, append_assoc, drop_at)

-- past the last thing nothing is added
pub walk_past : {P A : Type 0} (f : P → List A) (ps : List P) (i : ℕ) (out whole : List A)
    → None ≡ slice_get ps i → out ++ flat_map f (drop i ps) ≡ whole → out ≡ whole
walk_past f ps i out whole none before = grind (arith, append-nil, drop_past)

-- there are no more settings than rows
pub walk_end : {A : Type 0} (f : ValuePair → List A) (rows : List Row) (xs ys : List Setting)
    (more : List (List ℕ × Kind)) (i : ℕ) (out whole : List A)
    → map row_view rows ≡ map keyed xs ++ more → length rows ≤ i
    → out ++ flat_map f (drop i (paired xs ys)) ≡ whole → out ≡ whole
walk_end f rows xs ys more i out whole same past_rows before =
    let none : slice_get xs i ≡ None =
    slice_get_past xs i (grind (arith, length-map, length-append)) in
    walk_past f (paired xs ys) i out whole (rw (pair_is xs ys i, none) refl) before

same_values : (a b : SettingValue) → Decides (is_same a b) (a ≡ b)
same_values a b = grind (arith, nat_tests, bytes_eq-Decides)

pub same_is : (r : Bool) (a b : SettingValue) → Decides r (a ≡ b) → r ≡ is_same a b
same_is r a b is = same_from_decides r (is_same a b) is (same_values a b)
