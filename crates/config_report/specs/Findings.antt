-- What is found in a file of settings, in which order it is listed, and what is reported of it.
use Rattle.std.specs.Prelude.{◌≡◌, ◌≤◌, ◌⊎◌, ℕ, List, codes, length, take, Some, None, IsSome, IsUtf8, ⊤, ◌-◌, ◌^◌, [], ◌∷◌, ◌++◌, map, flat_map, Option, Bool, true, ◌&&◌, Result, Ok, Err, string_bytes}
use Rattle.std.specs.List.Sorted.{IsPermutation, IsSortedByKey, IsStableByKey}
use Rattle.std.specs.Ordering.{nat_cmp, ordering_then}
use Rattle.std.specs.declared.cmp.Ordering.{Ordering}
use Rattle.config_report.specs.Prelude.{IsValidUpTo, Error, IsDefaultConfig, Config, fault_view, faults_in, unknown_in, unknown_view, Finding, Position, All, IsConfigText}
use Rattle.iox2_config_file.specs.Depth.{too_deep}
use Rattle.config_report.specs.Notes.{Note, finding_view, note, Topic, fault, unknown, note_in, note_text, has_no_control}
use Rattle.config_report.specs.declared.check.Unread.{Unread}
use Rattle.config_report.specs.declared.check.Unread.TheVariants.{NotUtf8, TooDeep, NotToml, NoMemory}
use Rattle.toml.specs.Parse.{parse_document}
use Rattle.toml_positions.specs.Position.{position_after}
use Rattle.iox2_config_file.specs.Answers.{IsConfigOf}
use Rattle.iox2_config_file.specs.declared.read.FileContents.{FileContents}
use Rattle.config_report.specs.Contradictions.{contradiction_note, contradictions_in}
use Rattle.config_report.specs.declared.finding.Findings.{Findings}
use Rattle.toml.specs.Data.{Members}
use Rattle.config_report.specs.declared.check.FileConfig.{FileConfig}
use Rattle.config_report.specs.declared.check.ReportError.{ReportError}
use Rattle.config_report.specs.declared.check.ReportError.TheVariants as refusal

-- an error behind the first n bytes, of no key
abbrev pub error_behind : ℕ → List ℕ → List ℕ → Note
error_behind n bytes words = note (Some (position_after (take n bytes))) Error None words

-- the bytes are a text whose tables and arrays are at most 32 deep in one another
abbrev pub IsText : List ℕ → Type 0
IsText bytes = IsUtf8 bytes × (too_deep bytes ≡ None)

-- the bytes are a text that is TOML
abbrev pub IsToml : List ℕ → Type 0
IsToml bytes = IsUtf8 bytes × IsSome (parse_document bytes)

-- the bytes are no UTF-8, which is said behind their longest front that is
abbrev pub IsNoUtf8 : List ℕ → Note → Type 0
IsNoUtf8 bytes said =
    (n : ℕ) × (¬ IsUtf8 bytes) × IsValidUpTo bytes n
    × (said ≡ error_behind n bytes (codes "the file is no UTF-8"))

-- tables and arrays are too deep in one another, which is said of the first byte that opens one
-- within 32 others
abbrev pub IsTooDeep : List ℕ → Note → Type 0
IsTooDeep bytes said =
    (n : ℕ) × IsUtf8 bytes × (too_deep bytes ≡ Some n)
    × (said
    ≡ error_behind n bytes (codes "tables and arrays are more than 32 deep in one another"))

-- the bytes are no TOML, which is said of a byte among them, or of their end, in some words
abbrev pub IsNoToml : List ℕ → Note → Type 0
IsNoToml bytes said =
    (n : ℕ) × (words : List ℕ) × (n ≤ length bytes) × IsText bytes
    × (parse_document bytes ≡ None) × (said ≡ error_behind n bytes words)

-- the bytes are no file of settings, for one of these reasons
abbrev pub IsNoFile : List ℕ → Note → Type 0
IsNoFile bytes said = IsNoUtf8 bytes said ⊎ (IsTooDeep bytes said ⊎ IsNoToml bytes said)

-- why bytes are no file of settings, or memory was refused
abbrev pub IsUnread : List ℕ → Unread → Type 0
IsUnread bytes (NotUtf8 finding) = IsNoUtf8 bytes (finding_view finding)
IsUnread bytes (TooDeep finding) = IsTooDeep bytes (finding_view finding)
IsUnread bytes (NotToml finding) = IsNoToml bytes (finding_view finding)
IsUnread bytes (NoMemory e) = ⊤

-- where it stands among others: by its line and its column, and without them behind all
abbrev pub sort_key_of : Option Position → ℕ × ℕ
sort_key_of (Some p) = (p.line, p.column)
sort_key_of None = (2 ^ 64 - 1, 2 ^ 64 - 1)

abbrev pub finding_sort_key : Finding → ℕ × ℕ
finding_sort_key f = sort_key_of f.position

-- by the first number, and then by the second
abbrev pub sort_key_cmp : ℕ × ℕ → ℕ × ℕ → Ordering
sort_key_cmp p q = ordering_then (nat_cmp p.0 q.0) (nat_cmp p.1 q.1)

-- the same things, in the order of the file; those of one position in the order that they had
pub record IsInOrder {A : Type 0} (sort_key : A → ℕ × ℕ) (found listed : List A) : Type 0 where
  pub same : IsPermutation found listed
  pub ordered : IsSortedByKey sort_key sort_key_cmp listed
  pub stable : IsStableByKey sort_key sort_key_cmp found listed

-- a finding for each of some notes, in the order of the file
abbrev pub Lists : List Note → List Finding → Type 0
Lists notes listed =
    (found : List Finding) × (map finding_view found ≡ notes)
    × IsInOrder finding_sort_key found listed

-- what there is to say something of in a file, by what is read of it
abbrev pub topics_of : FileContents → List Topic
topics_of contents =
    map fault (map fault_view contents.faults.items)
    ++ map unknown (map unknown_view contents.unknown.items)

-- what there is to say something of in a file, by its tables: its faults, and then its unknown keys
abbrev pub topics_in : Config → Members → List Topic
topics_in c file = map fault (faults_in c file) ++ map unknown (unknown_in c file)

-- what is said of a file: of its faults, of its unknown keys, and of its settings that contradict
-- each other
abbrev pub notes_in : List ℕ → Config → Members → Option Config → List Note
notes_in bytes default file config =
    map (note_in bytes) (topics_in default file)
    ++ map (contradiction_note bytes) (contradictions_in config)

-- the bytes are a file, and this is found in it
pub record FindsInFile (bytes : List ℕ) (found : Findings) : Type 0 where
  pub file : Members
  pub default : Config
  pub text : IsText bytes
  pub parsed : parse_document bytes ≡ Some file
  pub is_default : IsDefaultConfig default
  pub config : IsConfigOf default file found.config
  pub list : Lists (notes_in bytes default file found.config) found.list.items

-- the bytes are no file of settings: this alone is found
pub record FindsNoFile (bytes : List ℕ) (found : Findings) : Type 0 where
  pub said : Note
  pub no_file : IsNoFile bytes said
  pub config : found.config ≡ None
  pub list : map finding_view found.list.items ≡ said ∷ []

-- what is found in bytes
abbrev pub Checks : List ℕ → Findings → Type 0
Checks bytes found = FindsNoFile bytes found ⊎ FindsInFile bytes found

-- a line for each finding
abbrev pub lines_of : List Finding → List ℕ
lines_of list = flat_map (λ n. note_text n ++ codes "\n") (map finding_view list)

-- a key has no control character, if there is one
abbrev pub key_in_line : Option (List ℕ) → Bool
key_in_line None = true
key_in_line (Some key) = has_no_control key

-- a key and words that have no control character
abbrev pub is_in_line : Note → Bool
is_in_line n = key_in_line n.key && has_no_control n.message

-- no finding has a newline, or another control character below 32
abbrev pub AreInLine : List Finding → Type 0
AreInLine list = All (λ f. is_in_line (finding_view f) ≡ true) list

-- the bytes are a file of these settings, and this has a line for each thing that is found in them
abbrev pub HasConfig : List ℕ → Config → List ℕ → Type 0
HasConfig bytes config warnings =
    (found : Findings) × Checks bytes found × (found.config ≡ Some config)
    × (warnings ≡ lines_of found.list.items)

-- the bytes are no file of settings, and this has a line for each thing that is found in them
abbrev pub IsRefusal : List ℕ → List ℕ → Type 0
IsRefusal bytes lines =
    (found : Findings) × Checks bytes found × (found.config ≡ None)
    × (lines ≡ lines_of found.list.items)

-- why there are no settings
abbrev pub Refusal : List ℕ → ReportError → Type 0
Refusal bytes (refusal.Refused lines) = IsRefusal bytes (string_bytes lines)
Refusal bytes refusal.NoMemory = Unit {0}

-- what is read of a file of settings
abbrev pub ReadsFile : List ℕ → Result FileConfig ReportError → Type 0
ReadsFile bytes (Ok file) = HasConfig bytes file.config (string_bytes file.warnings)
ReadsFile bytes (Err error) = Refusal bytes error

-- the text is that of the default settings
abbrev pub HasDefaults : List ℕ → Type 0
HasDefaults text =
    (default : Config) × (config : Config) × IsDefaultConfig default × IsDefaultConfig config
    × IsConfigText default config text
