-- What is answered to a request, and what the streams of the program get.
use Rattle.std.specs.Prelude.{◌≡◌, ℕ, Bool, true, false, ◌&&◌, ◌||◌, nat_lt, List, [], ◌∷◌, ◌++◌, flat_map, length, if◌then◌else◌, slice_get, codes, Option, Some, None, IfSome, Result, Ok, Err, String, string_bytes}
use Rattle.std.specs.Bool.{MatchBool}
use Rattle.std.specs.Io.KnownBytes.{Appends, IsAtEnd}
use Rattle.std.specs.List.{All, list_any}
use Rattle.std.specs.Str.{bytes_eq}
use Rattle.std.specs.declared.alloc.Global.{Global}
use Rattle.std.specs.declared.io.Error.{Error}
use Rattle.std.specs.declared.vec.IntoIter.{IntoIter}
use Rattle.line_streams.specs.Filters.{status_number}
use Rattle.config_report.specs.Findings.{HasDefaults, IsToml}
use Rattle.config_report.specs.Text.{IsReportText}
use Rattle.settings_check.specs.Found.{differences, Said, Seen, AreFound, ValidFile}
use Rattle.settings_check.specs.Lines.{lines_in, end_text, errors_in, warnings_in, unread_line, style_of}
use Rattle.settings_check.specs.Schema.{IsSchema}
use Rattle.settings_check.specs.Words.{Requests, texts_of}
use Rattle.settings_check.specs.declared.answer.Answer.{Answer}
use Rattle.line_streams.specs.declared.streams.Status.{Status}
use Rattle.line_streams.specs.declared.streams.Status.TheVariants.{Good, Faulty, Unusable}
use Rattle.settings_check.specs.declared.answer.TheConstants.{HELP, VERSION, BAD_ARGUMENTS}
use Rattle.settings_check.specs.declared.arguments.Request.{Request}
use Rattle.settings_check.specs.declared.arguments.RequestError.{RequestError}
use Rattle.settings_check.specs.declared.arguments.RequestError.TheVariants.{BadArguments, NoMemory}
use Rattle.settings_check.specs.declared.arguments.Task.{Task}
use Rattle.settings_check.specs.declared.arguments.Task.TheVariants as task
use Rattle.settings_check.specs.declared.found.FileError.{FileError}
use Rattle.settings_check.specs.declared.lines.Omitted.{Omitted}
use Rattle.settings_check.specs.declared.lines.Style.{Style}
use Rattle.settings_check.specs.declared.lines.Style.TheVariants as style

-- a file cannot be read
abbrev pub has_unread : List (List ℕ × FileError) → Bool
has_unread [] = false
has_unread (file ∷ files) = true

-- files are to be compared
abbrev pub is_comparison : Task → Bool
is_comparison task.Compare = true
is_comparison other = false

-- the status, by whether a file cannot be read, and whether there is an error, or a warning that
-- counts as one
abbrev pub status_of : Bool → Seen → Status
status_of strict seen =
    if has_unread seen.unread then Unusable
    else (if nat_lt 0 (errors_in seen.said) || (strict && nat_lt 0 (warnings_in seen.said))
    then Faulty else Good)

-- the lines of the files that cannot be read
abbrev pub unread_text : Seen → List ℕ
unread_text seen = flat_map unread_line seen.unread

-- what a report on files leaves out: contradictions where a file has an error, and differences
-- where they are requested and there are not two files without errors
abbrev pub omitted_in : Task → Seen → Omitted
omitted_in parsed seen = record {
  contradictions = nat_lt 0 (errors_in seen.said);
  differences = is_comparison parsed && nat_lt (length seen.valid) 2;
  files = has_unread seen.unread;
}

-- these texts are written, to the output and to the errors, and this is the status
pub record IsAnswer (text reported : List ℕ) (end : Status) (answer : Answer) : Type 0 where
  pub output : string_bytes answer.output ≡ text
  pub errors : string_bytes answer.errors ≡ reported
  pub status : answer.status ≡ end

-- what was found is reported, and what is left out: to the output, and the files that cannot be
-- read to the errors
abbrev pub IsChecked : Style → Bool → Omitted → Seen → Answer → Type 0
IsChecked way strict omitted seen =
    IsAnswer (lines_in way seen.said ++ end_text way omitted seen.said) (unread_text seen)
    (status_of strict seen)

-- all settings of a file and what follows from them, or nothing where there is none
abbrev pub IsTextOf : Option ValidFile → List ℕ → Type 0
IsTextOf None text = text ≡ []
IsTextOf (Some file) text = IsReportText file.config text

-- the settings are shown, and all else is reported to the errors
pub record IsShown (strict : Bool) (seen : Seen) (answer : Answer) : Type 0 where
  pub output : IsTextOf (slice_get seen.valid 0) (string_bytes answer.output)
  pub errors : string_bytes answer.errors ≡ lines_in style.Plain seen.said ++ unread_text seen
  pub status : answer.status ≡ status_of strict seen

-- what is said of the differences of two files without errors, or nothing where there are not two
abbrev pub compared : List ValidFile → List Said
compared (a ∷ (b ∷ more)) = differences (a, b)
compared files = []

-- the same beside what was found
abbrev pub with_compared : Seen → Seen
with_compared seen = record seen { said = seen.said ++ compared seen.valid }

-- the texts of files are TOML
abbrev pub AreToml : List ValidFile → Type 0
AreToml files = All (λ file. IsToml file.text) files

-- what is answered to a request for files, by what was found in them
abbrev pub AnswersTask : Task → Style → Bool → Seen → Answer → Type 0
AnswersTask task.Show way strict seen answer = IsShown strict seen answer
AnswersTask task.Compare way strict seen answer =
    IsChecked way strict (omitted_in task.Compare seen) (with_compared seen) answer
AnswersTask other way strict seen answer =
    IsChecked way strict (omitted_in other seen) seen answer

-- the files are read, and what is found in them is answered
abbrev pub AnswersFiles : (List ℕ → Result (List ℕ) FileError → Type 0) → Bool → List ℕ → Request
    → Answer → Type 0
AnswersFiles Gives coloured input request answer =
    (seen : Seen) × AreFound Gives input (texts_of request.files.items) seen
    × AnswersTask request.task (style_of request.format coloured) request.strict seen answer

-- this text is answered
abbrev pub IsTextAnswer : List ℕ → Answer → Type 0
IsTextAnswer text = IsAnswer text [] Good

-- the file of the default settings, and the schema
abbrev pub IsDefaultAnswer : Answer → Type 0
IsDefaultAnswer answer =
    (text : List ℕ) × HasDefaults text × IsTextAnswer text answer

abbrev pub IsSchemaAnswer : Answer → Type 0
IsSchemaAnswer answer = (text : List ℕ) × IsSchema text × IsTextAnswer text answer

-- what is answered to a request
abbrev pub AnswersRequest : Task → (List ℕ → Result (List ℕ) FileError → Type 0) → Bool → List ℕ
    → Request → Answer → Type 0
AnswersRequest task.DefaultFile Gives coloured input request answer = IsDefaultAnswer answer
AnswersRequest task.Schema Gives coloured input request answer = IsSchemaAnswer answer
AnswersRequest task.Help Gives coloured input request answer = IsTextAnswer HELP.now answer
AnswersRequest task.Version Gives coloured input request answer = IsTextAnswer VERSION.now answer
AnswersRequest other Gives coloured input request answer =
    AnswersFiles Gives coloured input request answer

-- bad arguments are reported
abbrev pub IsRefusedAnswer : Answer → Type 0
IsRefusedAnswer = IsAnswer [] BAD_ARGUMENTS.now Unusable

-- what is answered to arguments
abbrev pub Answers : (List ℕ → Result (List ℕ) FileError → Type 0) → Bool → List ℕ
    → Result Request RequestError → Answer → Type 0
Answers Gives coloured input (Ok request) answer =
    AnswersRequest request.task Gives coloured input request answer
Answers Gives coloured input (Err BadArguments) answer = IsRefusedAnswer answer
Answers Gives coloured input (Err NoMemory) answer = ⊥

-- the standard input is one of the files
abbrev pub reads_input : List (String Global) → Bool
reads_input files = list_any (λ file. bytes_eq (string_bytes file) (codes "-")) files

-- a request reads it
abbrev pub input_is_read : Result Request RequestError → Bool
input_is_read (Ok request) = reads_input request.files.items
input_is_read (Err why) = false

-- where the standard input is read, these are all bytes that it gives, if they are known
abbrev pub IsInput : Result Request RequestError → Option (List ℕ) → List ℕ → Type 0
IsInput parsed given bytes = input_is_read parsed ≡ true → IfSome given (λ all. bytes ≡ all)

-- what is answered to arguments, where the reader gives these bytes
abbrev pub AnswersArguments : (List ℕ → Result (List ℕ) FileError → Type 0) → Bool
    → Result Request RequestError → Option (List ℕ) → Answer → Type 0
AnswersArguments Gives coloured parsed given answer =
    (bytes : List ℕ) × IsInput parsed given bytes × Answers Gives coloured bytes parsed answer

-- the standard input is one of the files that the arguments request
abbrev pub RequestsInput : Result (IntoIter (String Global) Global) Error → Type 0
RequestsInput arguments =
    (parsed : Result Request RequestError) × Requests arguments parsed
    × (input_is_read parsed ≡ true)

-- the arguments are a request or bad, that is answered, the writers got the answer, the status is
-- its own, and the standard input was read to its end if it is one of the files, and else not read
pub record Reported (Gives : List ℕ → Result (List ℕ) FileError → Type 0) (coloured : Bool)
    (arguments : Result (IntoIter (String Global) Global) Error) (status : ℕ)
    (given left out_old out_new err_old err_new : Option (List ℕ)) : Type 0 where
  pub parsed : Result Request RequestError
  pub answer : Answer
  pub requests : Requests arguments parsed
  pub answered : AnswersArguments Gives coloured parsed given answer
  pub reported : status ≡ status_number answer.status
  pub read : MatchBool (input_is_read parsed) (IsAtEnd left) (left ≡ given)
  pub output : Appends out_old out_new (string_bytes answer.output)
  pub errors : Appends err_old err_new (string_bytes answer.errors)
