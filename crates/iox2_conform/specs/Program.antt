-- What the streams of the program get.
use Rattle.std.specs.Prelude.{◌≡◌, ◌⊎◌, ℕ, List, [], Option, IfSome, Result, Ok, Err, String}
use Rattle.std.specs.Io.KnownBytes.{Appends, IsAtEnd}
use Rattle.std.specs.declared.alloc.Global.{Global}
use Rattle.std.specs.declared.vec.IntoIter.{IntoIter}
use Rattle.std.specs.declared.io.Error.{Error}
use Rattle.history_drawing.specs.Drawings.{DrawnWith}
use Rattle.history_logs.specs.Orders.{Reported}
use Rattle.history_logs.specs.declared.logs.streams.Report.{Report}
use Rattle.iox2_conform.specs.declared.Text.{Text}
use Rattle.iox2_conform.specs.declared.Text.TheVariants as text
use Rattle.iox2_conform.specs.declared.TheConstants.{BAD_ARGUMENT, HELP, VERSION}
use Rattle.iox2_conform.specs.declared.request.Request.{Request}
use Rattle.iox2_conform.specs.declared.request.Request.TheVariants.{Check, CheckWithProgress, Help, Picture, Version}
use Rattle.iox2_conform.specs.declared.request.RequestError.{RequestError}
use Rattle.iox2_conform.specs.declared.request.RequestError.TheVariants.{BadArgument, NoMemory}
use Rattle.iox2_conform.specs.Requests.{Requests}

-- progress is requested
abbrev pub RequestsProgress : Result (IntoIter (String Global) Global) Error → Type 0
RequestsProgress arguments = (wanted : Report) × Requests arguments (Ok (CheckWithProgress wanted))

-- a check is requested, or a picture
abbrev pub RequestsCheck : Result (IntoIter (String Global) Global) Error → Type 0
RequestsCheck arguments =
    ((wanted : Report) × Requests arguments (Ok (Check wanted)))
    ⊎ (Requests arguments (Ok Picture) ⊎ RequestsProgress arguments)

-- the status with a text, and what the writers get
abbrev pub text_status : Text → ℕ
text_status text.Help = 0
text_status text.Version = 0
text_status text.BadArgument = 2

abbrev pub text_on_output : Text → List ℕ
text_on_output text.Help = HELP.now
text_on_output text.Version = VERSION.now
text_on_output text.BadArgument = []

abbrev pub text_on_errors : Text → List ℕ
text_on_errors text.BadArgument = BAD_ARGUMENT.now
text_on_errors other = []

-- the text was written
abbrev pub Writes : Text → ℕ → Option (List ℕ) → Option (List ℕ)
    → Option (List ℕ) → Option (List ℕ) → Type 0
Writes t status out_old out_new err_old err_new = (status ≡ text_status t)
    × Appends out_old out_new (text_on_output t) × Appends err_old err_new (text_on_errors t)

-- What was done for a request: all was read, and there is a verdict on the log, if its bytes are
-- known, or its picture; or a text was written.
abbrev pub Runs : Result Request RequestError → ℕ → Option (List ℕ) → Option (List ℕ)
    → Option (List ℕ) → Option (List ℕ) → Option (List ℕ) → Option (List ℕ) → Type 0
Runs (Ok (Check wanted)) status given left out_old out_new err_old err_new = IsAtEnd left
    × IfSome given (λ log. Reported wanted log status out_old out_new err_old err_new)
Runs (Ok (CheckWithProgress wanted)) status given left out_old out_new err_old err_new =
    IsAtEnd left
    × IfSome given (λ log. Reported wanted log status out_old out_new err_old err_new)
Runs (Ok Picture) status given left out_old out_new err_old err_new = IsAtEnd left
    × IfSome given (λ log. DrawnWith log status out_old out_new err_old err_new)
Runs (Ok Help) status given left out_old out_new err_old err_new =
    Writes text.Help status out_old out_new err_old err_new
Runs (Ok Version) status given left out_old out_new err_old err_new =
    Writes text.Version status out_old out_new err_old err_new
Runs (Err BadArgument) status given left out_old out_new err_old err_new =
    Writes text.BadArgument status out_old out_new err_old err_new
Runs (Err NoMemory) status given left out_old out_new err_old err_new = ⊥

-- what the arguments request was done
pub record Ran (arguments : Result (IntoIter (String Global) Global) Error) (status : ℕ)
    (given left out_old out_new err_old err_new : Option (List ℕ)) : Type 0 where
  pub request : Result Request RequestError
  pub requested : Requests arguments request
  pub runs : Runs request status given left out_old out_new err_old err_new
