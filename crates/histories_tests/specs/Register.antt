-- What calls on a register do.
use Rattle.std.specs.Prelude.{◌≡◌, ℕ, Option, Some, None}
use Rattle.histories_tests.specs.declared.register.Access.{Access}
use Rattle.histories_tests.specs.declared.register.Access.TheVariants as access

-- a write leaves what was written; a read was of the value that there is, and leaves it, and so
-- does one that was never answered
abbrev pub Makes : Access → ℕ → ℕ → Type 0
Makes (access.Write written) old new = new ≡ written
Makes (access.Read seen) old new = (seen ≡ old) × (new ≡ old)
Makes access.Unanswered old new = new ≡ old

-- the call with a number, if there is one, does that
abbrev pub MakesCall : Option Access → ℕ → ℕ → Type 0
MakesCall (Some call) old new = Makes call old new
MakesCall None old new = ⊥
