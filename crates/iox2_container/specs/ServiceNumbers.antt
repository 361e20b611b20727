-- Numbers for services.
use Rattle.std.specs.Prelude.{◌≡◌, ℕ, ◌+◌, ◌-◌, ◌^◌, ◌<◌, List, [], ◌∷◌, Option, Some, None, AllPairs}

-- the number after the last one, or none after 2^64 - 1
abbrev pub ReturnsNumber : ℕ → Option ℕ → ℕ → Type 0
ReturnsNumber last (Some number) new =
    (last < 2 ^ 64 - 1) × (number ≡ last + 1) × (new ≡ number)
ReturnsNumber last None new = (last ≡ 2 ^ 64 - 1) × (new ≡ last)

-- these numbers were returned, one after another
abbrev pub ReturnInTurn : ℕ → List ℕ → ℕ → Type 0
ReturnInTurn last [] new = new ≡ last
ReturnInTurn last (number ∷ others) new =
    (next : ℕ) × ReturnsNumber last (Some number) next × ReturnInTurn next others new

-- each number is greater than those that were returned before it
abbrev pub NumbersRise : Type 0
NumbersRise = (last new : ℕ) (numbers : List ℕ) → ReturnInTurn last numbers new
    → AllPairs ◌<◌ numbers
