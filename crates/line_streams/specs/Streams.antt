-- What a failed stream has read or written.
use Rattle.std.specs.Prelude.{◌≡◌, ◌≢◌, ◌⊎◌, ℕ, List, [], ◌++◌, Option, Result, Ok, Err, codes}
use Rattle.std.specs.Io.KnownBytes.{Appends, Consumes}
use Rattle.std.specs.IoError.{error_kind}
use Rattle.std.specs.declared.io.Error.{Error}
use Rattle.std.specs.declared.io.ErrorKind.TheVariants.{WriteZero}

-- known bytes begin with some bytes, and lose them
abbrev pub ConsumesSome : Option (List ℕ) → Option (List ℕ) → Type 0
ConsumesSome old new = (read : List ℕ) × Consumes old new read

-- known bytes grow by some first bytes of bs, and not by all
abbrev pub AppendsBeginning : Option (List ℕ) → Option (List ℕ) → List ℕ → Type 0
AppendsBeginning old new bs = (written left : List ℕ)
    × Appends old new written × (bs ≡ written ++ left) × (left ≢ [])

-- the last read failed with this error
abbrev pub ReadFails : {R : Type 0} → (R → Error → R → Type 0) → R → Error → Type 0
ReadFails {R} fails now e = (before : R) × fails before e now

-- the last write was one of what is left, and failed with this error, or took none of it, and the
-- error says that
abbrev pub WriteFails : {W : Type 0} → (W → List ℕ → Result ℕ Error → W → Type 0)
    → W → Error → Type 0
WriteFails {W} writes now e = (before : W) × (left : List ℕ) × (left ≢ [])
    × (writes before left (Err e) now
    ⊎ (writes before left (Ok 0) now × (error_kind e ≡ WriteZero)))

-- the last that was done to a writer is a flush that succeeded
abbrev pub IsFlushed : {W : Type 0} → (W → W → Type 0) → W → Type 0
IsFlushed {W} flushes now = (before : W) × flushes before now

-- the last that was done to a writer is a write or a flush that failed with this error
abbrev pub Fails : {W : Type 0} → (W → List ℕ → Result ℕ Error → W → Type 0)
    → (W → Error → W → Type 0) → W → Error → Type 0
Fails {W} writes fails now e = WriteFails writes now e ⊎ ((before : W) × fails before e now)

-- Of a program's streams, one failed with this error, and nothing was done to it afterwards. Where
-- that was a read, nothing was written.
abbrev pub StreamFails : {R W E : Type 0} → (R → Error → R → Type 0)
    → (W → List ℕ → Result ℕ Error → W → Type 0) → (W → Error → W → Type 0)
    → (E → List ℕ → Result ℕ Error → E → Type 0) → (E → Error → E → Type 0)
    → R → W → W → E → E → Error → Type 0
StreamFails reads out_writes out_flushes err_writes err_flushes reader out_old out_new err_old
    err_new e = (ReadFails reads reader e × (out_new ≡ out_old) × (err_new ≡ err_old))
    ⊎ (Fails out_writes out_flushes out_new e ⊎ Fails err_writes err_flushes err_new e)

-- `a stream failed` was written, or a write of it failed
abbrev pub ReportsFailure : {W : Type 0} → (W → Option (List ℕ))
    → (W → List ℕ → Result ℕ Error → W → Type 0) → W → W → Type 0
ReportsFailure {W} contents writes old now =
    Appends (contents old) (contents now) (codes "a stream failed\n")
    ⊎ (AppendsBeginning (contents old) (contents now) (codes "a stream failed\n")
    × ((e : Error) × WriteFails writes now e))
