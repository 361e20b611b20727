-- No text is nearer to another than their lengths are.
use Rattle.std.proofs.Common.{ℕ, zero, suc, ◌+◌, ◌≤◌, List, [], ◌∷◌, Bool, length, nat_eq, arith}
use Rattle.std.proofs.lemmas.Int.{clamps}
use Rattle.std.specs.Str.{chars}
use Rattle.strsim.specs.Edits.{cost_at, next_row, rows}
use Rattle.iox2_config_file.specs.Unknown.{edit_distance}

-- a cell of the row after n elements is no less than the steps by which its index and n differ
abbrev IsFar : ℕ → (ℕ → ℕ) → Type 0
IsFar n row = (j : ℕ) → (j ≤ row j + n) × (n ≤ row j + j)

next_is_far : (c before : ℕ → ℕ) (n : ℕ) → IsFar n before
    → IsFar (suc n) (next_row c before (suc n))
unfolding next_row
next_is_far c before n far zero = grind arith
next_is_far c before n far (suc j) = grind (arith, clamps, next_is_far c before n far j)

rows_are_far : {T : Type 0} (eq : T → T → Bool) (xs ys : List T) (n : ℕ) (before : ℕ → ℕ)
    → IsFar n before → IsFar (n + length xs) (rows eq xs ys n before)
unfolding rows
rows_are_far eq [] ys n before far j = let cell = far j in (omega arith, omega arith)
rows_are_far eq (x ∷ xs) ys n before far j =
    let cell = rows_are_far eq xs ys (suc n) (next_row (cost_at eq x ys) before (suc n))
    (next_is_far (cost_at eq x ys) before n far) j in (omega arith, omega arith)

-- a text has to be changed at least so often as the other has characters more
pub is_far : (a b : List ℕ) → (length (chars a) ≤ edit_distance a b + length (chars b))
    × (length (chars b) ≤ edit_distance a b + length (chars a))
unfolding edit_distance
is_far a b = grind (arith, rows_are_far, nat_eq)
