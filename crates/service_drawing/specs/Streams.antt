-- What the program's arguments ask for, and what its streams get.
use Rattle.std.specs.Prelude.{◌≡◌, ◌≢◌, ◌⊎◌, List, [], ◌∷◌, ℕ, codes, map, drop, Result, Ok, Err, String, string_bytes, ◌+◌, ◌++◌, ◌==◌, count_by, cond, Option, IfSome}
use Rattle.std.specs.IoError.{error_kind}
use Rattle.std.specs.Vec.Iter.{into_iter_items}
use Rattle.std.specs.declared.alloc.Global.{Global}
use Rattle.std.specs.declared.vec.IntoIter.{IntoIter}
use Rattle.std.specs.declared.io.Error.{Error}
use Rattle.std.specs.declared.io.ErrorKind.TheVariants.{OutOfMemory}
use Rattle.service_drawing.specs.declared.streams.Request.{Request}
use Rattle.service_drawing.specs.declared.streams.Request.TheVariants.{Drawing, Help, Version}
use Rattle.service_drawing.specs.declared.streams.Form.{Form}
use Rattle.service_drawing.specs.declared.streams.Form.TheVariants.{Text, Svg}
use Rattle.service_drawing.specs.declared.fault.Fault.{Fault}
use Rattle.service_drawing.specs.declared.streams.Written.{Written}
use Rattle.service_drawing.specs.declared.fault.Fault.TheVariants.{BadArgument, BadLine, BadSettings, NoEnd, NoMemory}
use Rattle.std.specs.Fmt.{decimal}
use Rattle.std.specs.Io.KnownBytes.{Appends, IsAtEnd}
use Rattle.line_streams.specs.Filters.{either}
use Rattle.iox2_config.specs.declared.config.Config.{Config}
use Rattle.service_drawing.specs.Descriptions.{IsCause, IsReason, HasDescription, StopsReading, IsOver, IsNotOver}
use Rattle.service_drawing.specs.Svg.{IsPicture}
use Rattle.service_drawing.specs.declared.description.Description.{Description}
use Rattle.service_drawing.specs.declared.streams.TheConstants.{HELP, VERSION}
use Rattle.service_drawing.specs.declared.reading.cause.Cause.{Cause}
use Rattle.service_drawing.specs.declared.reading.cause.Cause.TheVariants.{NoNewline, CarriageReturn, ForeignByte, TwoSpaces, Read}
use Rattle.service_drawing.specs.declared.reading.cause.Reason.{Reason}
use Rattle.service_drawing.specs.declared.reading.cause.Reason.TheVariants.{InternalName, UnknownSetting, SetTwice, OtherForm}
use Rattle.service_drawing.specs.declared.reading.cause.Expected.{Expected}

-- the arguments
abbrev pub words_of : IntoIter (String Global) Global → List (List ℕ)
words_of words = map string_bytes (into_iter_items words)

-- the words are no request that the program knows
abbrev pub IsNoRequest : List (List ℕ) → Type 0
IsNoRequest words =
    (words ≢ []) × (words ≢ codes "svg" ∷ []) × (words ≢ codes "-h" ∷ [])
    × (words ≢ codes "--help" ∷ []) × (words ≢ codes "--version" ∷ [])

-- what the words after the program's name ask for
abbrev pub IsRequest : List (List ℕ) → Result Request Fault → Type 0
IsRequest words (Ok (Drawing Text)) = words ≡ []
IsRequest words (Ok (Drawing Svg)) = words ≡ codes "svg" ∷ []
IsRequest words (Ok Help) = (words ≡ codes "-h" ∷ []) ⊎ (words ≡ codes "--help" ∷ [])
IsRequest words (Ok Version) = words ≡ codes "--version" ∷ []
IsRequest words (Err BadArgument) = IsNoRequest words
IsRequest words (Err other) = ⊥

-- what the arguments ask for: where they could not be had, there is no memory or they are bad
abbrev pub IsRequestOf : Result (IntoIter (String Global) Global) Error → Result Request Fault
    → Type
    0
IsRequestOf (Ok words) request = IsRequest (drop 1 (words_of words)) request
IsRequestOf (Err why) (Err NoMemory) = error_kind why ≡ OutOfMemory
IsRequestOf (Err why) (Err BadArgument) = error_kind why ≢ OutOfMemory
IsRequestOf (Err why) other = ⊥

-- what is asked for is made of what is read
abbrev pub IsRead : Result Request Fault → Type 0
IsRead (Ok (Drawing form)) = Unit {0}
IsRead request = ⊥

-- the arguments request a drawing
abbrev pub RequestsDrawing : Result (IntoIter (String Global) Global) Error → Type 0
RequestsDrawing arguments = (form : Form) × IsRequestOf arguments (Ok (Drawing form))

-- this text, or there is no memory for it
abbrev pub IsTextOrNoMemory : List ℕ → Result Written Fault → Type 0
IsTextOrNoMemory text (Ok copy) =
    (string_bytes copy.text ≡ text) × (string_bytes copy.warnings ≡ [])
IsTextOrNoMemory text (Err fault) = fault ≡ NoMemory

-- why a line is bad
abbrev pub cause_text : Cause → List ℕ
cause_text NoNewline = codes ": no newline ends it; "
cause_text CarriageReturn =
    codes ": it ends in a carriage return and a newline, and not in a newline alone; "
cause_text (ForeignByte byte) =
    codes ": it holds the byte " ++ decimal byte
    ++ codes ", and a line holds bytes from 32 to 126; "
cause_text TwoSpaces = codes ": two spaces stand where one separates words; "
cause_text (Read InternalName) =
    codes ": names that begin with iox2:// are those of internal services; "
cause_text (Read UnknownSetting) = codes ": the pattern has no such setting; "
cause_text (Read SetTwice) = codes ": the setting was set before; "
cause_text (Read OtherForm) = codes ": "

-- the line that reports a bad line: its number, why it is bad, and what was expected
abbrev pub bad_line_text : ℕ → Cause → List ℕ → List ℕ → List ℕ
bad_line_text line cause prefix form =
    codes "bad line " ++ (decimal line ++ (cause_text cause ++ (codes "expected " ++ (prefix
    ++ (form ++ codes "\n")))))

-- the lines that report a fault
abbrev pub fault_text : Fault → List ℕ
fault_text (BadLine report) = string_bytes report
fault_text BadArgument =
    codes "bad argument: expected svg, -h, --help, --version, or no argument; "
    ++ codes "the description is read from the standard input\n"
fault_text (BadSettings lines) = string_bytes lines
fault_text NoEnd =
    codes "bad settings: no line end, with a newline alone behind it, follows the line config\n"
fault_text NoMemory = codes "no memory" ++ 10 ∷ []

-- what the line of this number may begin with: the first one may also begin a block of settings
abbrev pub prefix_at : ℕ → List ℕ → List ℕ
prefix_at line prefix = cond (line == 1) (codes "config, or ") prefix

-- the fault of the line with which what is left begins: a report of its number, the cause, and what
-- was expected
abbrev pub ReportsBadLine : List ℕ → Expected → Fault → Type 0
ReportsBadLine bytes expected (BadLine report) =
    (line : ℕ) × (cause : Cause)
    × ((read : List ℕ) → bytes ≡ read ++ expected.rest.now
    → line ≡ count_by (λ b. b == 10) read + 1)
    × IsCause expected.rest.now expected.reason cause
    × (string_bytes report ≡ bad_line_text line cause (prefix_at line expected.prefix.now)
    expected.form.now)
ReportsBadLine bytes expected NoMemory = Unit {0}
ReportsBadLine bytes expected other = ⊥

-- the line of this number is bad for this cause: behind the block in front, if there is one, it is
-- the first that no description has there, and its cause follows from the reason why none has it
pub record IsBadLine (line : ℕ) (cause : Cause) (bytes : List ℕ) : Type 0 where
  pub base : Config
  pub warnings : List ℕ
  pub rest : List ℕ
  pub over : IsOver base warnings rest bytes
  pub left : List ℕ
  pub reason : Reason
  pub stops : StopsReading base left rest
  pub number : (read : List ℕ) → bytes ≡ read ++ left → line ≡ count_by (λ b. b == 10) read + 1
  pub found : IsReason base reason left rest
  pub alone : (other : Reason) → IsReason base other left rest → other ≡ reason
  pub because : IsCause left reason cause

-- the text is the drawing of a described service
abbrev pub IsDrawing : Form → Description → List ℕ → Type 0
IsDrawing Svg d text = IsPicture d text
IsDrawing Text d text = Unit {0}

-- what is drawn of the bytes: the service of a description, over the configuration of the block in
-- front, if there is one; or the number of the first line that none has there is reported, or what
-- is wrong with the block
abbrev pub Draws : Form → List ℕ → Result Written Fault → Type 0
Draws form bytes (Ok written) =
    (base : Config) × (rest : List ℕ) × (d : Description)
    × IsOver base (string_bytes written.warnings) rest bytes × HasDescription base d rest
    × IsDrawing form d (string_bytes written.text)
Draws form bytes (Err (BadLine report)) =
    (line : ℕ) × (cause : Cause) × (prefix : List ℕ) × (form : List ℕ) × IsBadLine line cause bytes
    × (string_bytes report ≡ bad_line_text line cause (prefix_at line prefix) form)
Draws form bytes (Err fault) = IsNotOver bytes fault

-- what is answered: the bytes that the reader gives, if they are known, are drawn, or the text
-- that was asked for is answered unless there is no memory for it
abbrev pub Answers : Option (List ℕ) → Result Request Fault → Result Written Fault → Type 0
Answers given (Err fault) end = end ≡ Err fault
Answers given (Ok (Drawing form)) end = IfSome given (λ bytes. Draws form bytes end)
Answers given (Ok Help) end = IsTextOrNoMemory HELP.now end
Answers given (Ok Version) end = IsTextOrNoMemory VERSION.now end

-- the status of a fault
abbrev pub fault_status : Fault → ℕ
fault_status NoMemory = 2
fault_status other = 1

-- the status
abbrev pub status_of : Result Written Fault → ℕ
status_of = either (λ written. 0) fault_status

-- what the output gets
abbrev pub output_text : Result Written Fault → List ℕ
output_text = either (λ written. string_bytes written.text) (λ fault. [])

-- what the errors get
abbrev pub error_text : Result Written Fault → List ℕ
error_text = either (λ written. string_bytes written.warnings) fault_text

-- what was asked for was answered or there was a fault: that is the status, the writers got what
-- fits it, and for a drawing the input was read to its end
pub record Reported (arguments : Result (IntoIter (String Global) Global) Error) (status : ℕ)
    (given left out_old out_new err_old err_new : Option (List ℕ)) : Type 0 where
  pub request : Result Request Fault
  pub end : Result Written Fault
  pub requests : IsRequestOf arguments request
  pub answered : Answers given request end
  pub reported : status ≡ status_of end
  pub read : status ≡ 0 → IsRead request → IsAtEnd left
  pub output : Appends out_old out_new (output_text end)
  pub errors : Appends err_old err_new (error_text end)
