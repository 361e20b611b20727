-- How the program fails where a text is to be written.
use Rattle.std.proofs.Common.{◌≡◌, ◌⊎◌, ℕ, List, [], Option, Result, Ok, Err, arith, codes, inl, inr, IfErr, IfOk}
use Rattle.std.specs.Prelude.{OnErr, OnOk}
use Rattle.std.specs.Io.KnownBytes.{Appends}
use Rattle.std.specs.declared.alloc.AllocError.{AllocError}
use Rattle.std.specs.declared.io.Error.{Error}
use Rattle.line_streams.specs.Filters.{RefusesMemory, either}
use Rattle.iox2_conform.specs.Program.{text_on_errors, text_on_output, text_status}
use Rattle.iox2_conform.specs.declared.Text.{Text}
use Rattle.iox2_conform.specs.declared.Text.TheVariants as text

-- memory was refused, or a write or a flush failed, and that was reported
pub failed_where_written : {E : Type 0} (contents : E → Option (List ℕ)) (Told : E → E → Type 0)
    (ReadFailed : E → Error → Type 0) (OutputFailed : Error → Type 0)
    (ErrorsFailed : E → Error → Type 0) (end : Result Text AllocError) (wrote : Result ℕ Error)
    (now last : E) (status : ℕ) (out_old out_new err_old : Option (List ℕ))
    → IfOk wrote (λ n. n ≡ either text_status (λ why. 3) end)
    → OnOk wrote (Appends out_old out_new (either text_on_output (λ why. []) end))
    → OnOk wrote (Appends err_old (contents now)
    (either text_on_errors (λ why. codes "no memory\n") end))
    → IfErr wrote (λ e. OutputFailed e ⊎ ErrorsFailed now e)
    → IfOk wrote (λ n. (status ≡ n) × (last ≡ now))
    → OnErr wrote ((status ≡ 3) × Told now last) → status ≡ 3
    → RefusesMemory out_old out_new err_old (contents last)
    ⊎ ((e : Error) × (before : E) × Told before last
    × (ReadFailed before e ⊎ (OutputFailed e ⊎ ErrorsFailed before e)))
failed_where_written _ _ _ _ _ (Ok text.Help) (Ok n) _ _ _ _ _ _ is _ _ _ same _ three =
    absurd (omega (arith, is, same.0, three))
failed_where_written _ _ _ _ _ (Ok text.Version) (Ok n) _ _ _ _ _ _ is _ _ _ same _ three =
    absurd (omega (arith, is, same.0, three))
failed_where_written _ _ _ _ _ (Ok text.BadArgument) (Ok n) _ _ _ _ _ _ is _ _ _ same _ three =
    absurd (omega (arith, is, same.0, three))
failed_where_written _ _ _ _ _ (Err why) (Ok n) _ _ _ _ _ _ is output errors _ same _ three =
    inl (output, rw same.1 errors)
failed_where_written _ _ _ _ _ end (Err e) now _ _ _ _ _ is output errors failed same told three =
    inr (e, now, told.1, inr failed)
