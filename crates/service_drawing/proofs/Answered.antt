-- What is answered, and what follows from a status.
use Rattle.std.proofs.Common.{◌≡◌, ℕ, List, Option, Result, Ok, Err, IfOk, OnOk, String, arith}
use Rattle.std.specs.Io.KnownBytes.{Appends, IsAtEnd}
use Rattle.std.specs.declared.alloc.Global.{Global}
use Rattle.std.specs.declared.io.Error.{Error}
use Rattle.std.specs.declared.vec.IntoIter.{IntoIter}
use Rattle.std.specs.Result.{IsErr, IsErrAnd, MatchResult}
use Rattle.iox2_config.specs.declared.config.Config.{Config}
use Rattle.service_drawing.specs.Descriptions.{StopsReading, IsOver, IsReason}
use Rattle.service_drawing.specs.Streams.{IsRequestOf, IsRead, status_of, output_text, error_text, ReportsBadLine, Draws, Answers, Reported}
use Rattle.service_drawing.specs.declared.streams.Form.{Form}
use Rattle.service_drawing.specs.declared.streams.Request.{Request}
use Rattle.service_drawing.specs.declared.fault.Fault.{Fault}
use Rattle.service_drawing.specs.declared.fault.Fault.TheVariants.{BadLine, NoMemory}
use Rattle.service_drawing.specs.declared.streams.Written.{Written}
use Rattle.service_drawing.specs.declared.reading.cause.Expected.{Expected}
use Rattle.service_drawing.proofs.SettingLines.{one_reason}

-- the status 0 is that of an answer
pub answered_at_zero : (end : Result Written Fault) (P : Type 0) → IfOk end (λ written. P)
    → status_of end ≡ 0 → P
answered_at_zero end P h k = grind arith

-- what was requested was answered where the outcome was written
pub reported_where_written : (arguments : Result (IntoIter (String Global) Global) Error)
    (request : Result Request Fault) (end : Result Written Fault) (wrote : Result ℕ Error)
    (given left out_old out_new err_old err_new : Option (List ℕ)) → IsRequestOf arguments request
    → Answers given request end → IfOk end (λ written. IsRead request → IsAtEnd left)
    → IfOk wrote (λ status. status ≡ status_of end)
    → OnOk wrote (Appends out_old out_new (output_text end))
    → OnOk wrote (Appends err_old err_new (error_text end))
    → IfOk wrote (λ status. Reported arguments status given left out_old out_new err_old err_new)
reported_where_written arguments request end (Ok status) given left out_old out_new err_old err_new
    requests answered read reported output errors = grind (arith, answered_at_zero)
reported_where_written arguments request end (Err why) given left out_old out_new err_old err_new
    requests answered read reported output errors = tt

-- what is true of an error is true of it where it is handed on
pub handed_on : {A E : Type 0} (Good : A → Type 0) (Bad : E → Type 0) (r : Result A E) (why : E)
    → IsErr r × IsErrAnd r (λ e. e ≡ why) → Bad why → MatchResult r Good Bad
handed_on Good Bad r why h bad = grind arith

-- the line that is reported is that where reading stopped
pub draws_no_more : (form : Form) (base : Config) (warnings rest bytes : List ℕ)
    (expected : Expected)
    (fault : Fault) → IsOver base warnings rest bytes
    → StopsReading base expected.rest.now rest
    × IsReason base expected.reason expected.rest.now rest
    → ReportsBadLine bytes expected fault → Draws form bytes (Err fault)
draws_no_more form base warnings rest bytes expected (BadLine report) over s
    (line, cause, number, because, is) = (
      line,
      cause,
      expected.prefix.now,
      expected.form.now,
      record {
        base = base;
        warnings = warnings;
        rest = rest;
        over = over;
        left = expected.rest.now;
        reason = expected.reason;
        stops = s.0;
        number = number;
        found = s.1;
        alone = λ other h. one_reason base expected.reason other expected.rest.now rest s.1 h;
        because = because;
      },
      is,
    )
draws_no_more form base warnings rest bytes expected NoMemory over s h = tt
draws_no_more form base warnings rest bytes expected _ over s h = absurd h
