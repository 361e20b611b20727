-- What is said of two configurations, and how the program ends.
use Rattle.std.proofs.Common.{◌≡◌, inl, inr, ℕ, Bool, List, [], ◌∷◌, ◌≤◌, length, map, get_or, Option, Some, None, Result, Ok, Err, refl, arith, string_bytes}
use Rattle.std.specs.Bool.{MatchBool}
use Rattle.std.specs.Prelude.{String}
use Rattle.std.specs.Io.KnownBytes.{Appends, IsAtEnd}
use Rattle.std.proofs.lemmas.List.Elements.{All-append, All-cons, All-head, All-nil, All-tail}
use Rattle.std.proofs.lemmas.Result.{IfOk-weaker}
use Rattle.std.specs.declared.alloc.Global.{Global}
use Rattle.std.specs.declared.io.Error.{Error}
use Rattle.std.specs.declared.vec.IntoIter.{IntoIter}
use Rattle.line_streams.specs.Filters.{status_number}
use Rattle.iox2_config.specs.declared.config.Config.{Config}
use Rattle.config_report.specs.Text.{IsReportText}
use Rattle.config_report.specs.Findings.{Checks, IsToml}
use Rattle.config_report.specs.declared.finding.Findings.{Findings}
use Rattle.settings_check.specs.Answer.{AreToml, IsTextOf}
use Rattle.settings_check.specs.Found.{AddsFiles, AreFound, AreParsed, IsSeenIn, Seen, ValidFile, nothing_seen, valid_in, valid_view}
use Rattle.settings_check.specs.Answer.{input_is_read, AnswersArguments, Reported}
use Rattle.settings_check.specs.Words.{Requests}
use Rattle.settings_check.specs.declared.answer.Answer.{Answer}
use Rattle.settings_check.specs.declared.arguments.Request.{Request}
use Rattle.settings_check.specs.declared.arguments.RequestError.{RequestError}
use Rattle.settings_check.specs.declared.found.FileError.{FileError}
use Rattle.settings_check.specs.declared.found.ValidFile.{ValidFile as Held}

-- the settings of a file are shown
pub text_is : (first : Option ValidFile) (file : ValidFile) (text : List ℕ) → first ≡ Some file
    → IsReportText file.config text → IsTextOf first text
text_is first file text p report = rw p report

pub ruleset shown = (IfOk-weaker, text_is)

-- the first two of some files stand before the others
pub first_two : (files slice : List Held) (a b d e : Held) → slice ≡ files → 2 ≤ length slice
    → a ≡ get_or slice 0 d → b ≡ get_or slice 1 e
    → (more : List Held) × (files ≡ a ∷ (b ∷ more))
first_two files [] a b d e same two first second = absurd (omega arith)
first_two files (x ∷ []) a b d e same two first second = absurd (omega arith)
first_two files (x ∷ (y ∷ more)) a b d e same two first second = (more, cc)

abbrev HasToml : ValidFile → Type 0
HasToml file = IsToml file.text

-- they are TOML where all are
pub both_toml : (a b : Held) (more : List Held) → AreToml (map valid_view (a ∷ (b ∷ more)))
    → AreParsed (valid_view a, valid_view b)
both_toml a b more all =
    let second = map valid_view (b ∷ more) in
    let others = All-tail HasToml (valid_view a) second all in (
      All-head HasToml (valid_view a) second all,
      All-head HasToml (valid_view b) (map valid_view more) others,
    )

-- the text of a file that has settings is TOML
valid_toml : (file bytes : List ℕ) (findings : Findings) (config : Option Config)
    → findings.config ≡ config → Checks bytes findings → AreToml (valid_in file bytes config)
valid_toml file bytes findings None is checks = All-nil HasToml
valid_toml file bytes findings (Some config) is (inl none) =
    absurd (grind (arith, is, none.config))
valid_toml file bytes findings (Some config) is (inr found) =
    All-cons HasToml _ [] (found.text.0, rw found.parsed refl)
    (All-nil HasToml)

-- so are those of the files in which no error was found
seen_toml : (file : List ℕ) (given : Result (List ℕ) FileError) (seen : Seen)
    → IsSeenIn file given seen → AreToml seen.valid
seen_toml file (Err why) seen is = rw is (All-nil HasToml)
seen_toml file (Ok bytes) seen (findings, checks, is) =
    rw is (valid_toml file bytes findings findings.config refl checks)

files_toml : (Gives : List ℕ → Result (List ℕ) FileError → Type 0) (input : List ℕ)
    (files : List (List ℕ)) (old new : Seen) → AreToml old.valid
    → AddsFiles Gives input files old new → AreToml new.valid
files_toml Gives input [] old new before is = rw is before
files_toml Gives input (file ∷ files) old new before (next, (given, gives, added), more) =
    files_toml Gives input files next new
    (rw added.2 (All-append HasToml old.valid added.0.valid before
    (seen_toml file given added.0 added.1))) more

pub found_toml : (Gives : List ℕ → Result (List ℕ) FileError → Type 0) (input : List ℕ)
    (files : List (List ℕ)) (seen : Seen) → AreFound Gives input files seen → AreToml seen.valid
found_toml Gives input files seen is =
    files_toml Gives input files nothing_seen seen (All-nil HasToml) is

-- an answer that was written is reported
pub answer_reported : (Gives : List ℕ → Result (List ℕ) FileError → Type 0) (coloured : Bool)
    (arguments : Result (IntoIter (String Global) Global) Error)
    (parsed : Result Request RequestError) (given left out_old out_new err_old err_new :
    Option (List ℕ)) → Requests arguments parsed → (answer : Answer)
    → (AnswersArguments Gives coloured parsed given answer
    × MatchBool (input_is_read parsed) (IsAtEnd left) (left ≡ given))
    → Appends out_old out_new (string_bytes answer.output)
    → Appends err_old err_new (string_bytes answer.errors)
    → Reported Gives coloured arguments (status_number answer.status) given left out_old out_new
    err_old err_new
answer_reported _ _ _ parsed _ _ _ _ _ _ requests answer does output errors = record {
  parsed = parsed;
  answer = answer;
  requests = requests;
  answered = does.0;
  reported = refl;
  read = does.1;
  output = output;
  errors = errors;
}
