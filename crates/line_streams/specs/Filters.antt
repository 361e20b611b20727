-- What a program makes of what it reads.
use Rattle.std.specs.Prelude.{◌≡◌, ◌<◌, ◌⊎◌, ℕ, List, [], Option, Result, Ok, Err, IfOk, IfSome, OnOk, codes}
use Rattle.std.specs.Io.KnownBytes.{Appends, IsAtEnd}
use Rattle.std.specs.declared.alloc.AllocError.{AllocError}
use Rattle.std.specs.declared.alloc.Global.{Global}
use Rattle.std.specs.declared.io.Error.{Error}
use Rattle.std.specs.declared.vec.Vec.{Vec}
use Rattle.line_streams.specs.declared.streams.Status.{Status}
use Rattle.line_streams.specs.declared.streams.Status.TheVariants.{Good, Faulty, Unusable}
use Rattle.line_streams.specs.Streams.{ReportsFailure, StreamFails}

-- the number of a status
abbrev pub status_number : Status → ℕ
status_number Good = 0
status_number Faulty = 1
status_number Unusable = 2

-- of what was done, or of why it was not
abbrev pub either : {T F A : Type 0} → (T → A) → (F → A) → Result T F → A
either of_done of_why (Ok done) = of_done done
either of_done of_why (Err why) = of_why why

-- what was read, or that memory for it was refused, was worked on: that is the status, and the
-- writers got the outcome
pub record Ran {T : Type 0} (Works : Result (Vec ℕ Global) AllocError → T → Type 0)
    (status_of : T → ℕ) (on_output on_errors : T → List ℕ) (status : ℕ)
    (given left out_old out_new err_old err_new : Option (List ℕ)) : Type 0 where
  pub read : Result (Vec ℕ Global) AllocError
  pub outcome : T
  pub worked : Works read outcome
  pub all : IfOk read (λ bytes. IfSome given (λ input. bytes.items ≡ input))
  pub end : OnOk read (IsAtEnd left)
  pub is_status : status ≡ status_of outcome
  pub output : Appends out_old out_new (on_output outcome)
  pub errors : Appends err_old err_new (on_errors outcome)

-- memory was refused: the writers got nothing but that
abbrev pub RefusesMemory : Option (List ℕ) → Option (List ℕ) → Option (List ℕ) → Option (List ℕ)
    → Type 0
RefusesMemory out_old out_new err_old err_new =
    Appends out_old out_new [] × Appends err_old err_new (codes "no memory\n")

-- how a program ends where no stream fails: this is reported with a status below 3, or memory was
-- refused
abbrev pub Ends : (ℕ → Type 0) → ℕ → Option (List ℕ) → Option (List ℕ) → Option (List ℕ)
    → Option (List ℕ) → Type 0
Ends Reported status out_old out_new err_old err_new =
    ((status < 3) × Reported status)
    ⊎ ((status ≡ 3) × RefusesMemory out_old out_new err_old err_new)

-- how a program ends with the status 3: memory was refused, or one of its streams failed, and that
-- was reported
abbrev pub GivesUp : {R W E : Type 0} → (R → Error → R → Type 0)
    → (W → Option (List ℕ)) → (W → List ℕ → Result ℕ Error → W → Type 0)
    → (W → Error → W → Type 0)
    → (E → Option (List ℕ)) → (E → List ℕ → Result ℕ Error → E → Type 0)
    → (E → Error → E → Type 0) → R → W → W → E → E → Type 0
GivesUp {E = E} reads output out_writes out_flushes errors err_writes err_flushes reader out_old
    out_new err_old err_new =
    RefusesMemory (output out_old) (output out_new) (errors err_old) (errors err_new)
    ⊎ ((e : Error) × (before : E) × ReportsFailure errors err_writes before err_new
    × StreamFails reads out_writes out_flushes err_writes err_flushes reader out_old out_new err_old
    before e)
