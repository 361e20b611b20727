-- Files, by their names, what is found in them, and which settings of two of them differ.
use Rattle.std.specs.Prelude.{◌≡◌, ◌≢◌, ◌⊎◌, ℕ, List, codes, Result, Ok, Err, Vec, Bool, true, false, [], ◌∷◌, ◌++◌, flat_map, map, if◌then◌else◌, Option, Some, None}
use Rattle.std.specs.declared.alloc.Global.{Global}
use Rattle.std.specs.declared.io.ErrorKind.{ErrorKind}
use Rattle.std.specs.declared.io.ErrorKind.TheVariants as kind
use Rattle.std.specs.Fmt.{decimal}
use Rattle.settings_check.specs.declared.found.FileError.{FileError}
use Rattle.settings_check.specs.declared.found.FileError.TheVariants.{NotFound, PermissionDenied, IsADirectory, Other}
use Rattle.iox2_config.specs.declared.config.Config.{Config}
use Rattle.config_report.specs.Findings.{Checks, IsToml}
use Rattle.config_report.specs.Notes.{Note, finding_view, note}
use Rattle.config_report.specs.declared.finding.Finding.{Finding}
use Rattle.config_report.specs.declared.finding.Findings.{Findings}
use Rattle.config_report.specs.declared.finding.Severity.{Severity}
use Rattle.config_report.specs.declared.finding.Severity.TheVariants.{Error, Warning}
use Rattle.config_report.specs.Text.{ValuePair, is_same, value_pairs}
use Rattle.iox2_config_file.specs.Read.{sections}
use Rattle.iox2_config_file.specs.Settings.{prefix_of, table_path}
use Rattle.iox2_config_file.specs.Values.{SettingValue}
use Rattle.iox2_config_file.specs.Write.{value_text, value_view}
use Rattle.iox2_config_file.specs.declared.section.Section.{Section}
use Rattle.iox2_config_file.specs.declared.section.Section.TheVariants as section
use Rattle.settings_check.specs.declared.found.Found.{Found}
use Rattle.settings_check.specs.declared.found.Report.{Report}
use Rattle.settings_check.specs.declared.found.Compared.{Compared}
use Rattle.settings_check.specs.declared.found.FileSetting.{FileSetting as HeldSetting}
use Rattle.settings_check.specs.declared.found.Pair.{Pair}
use Rattle.settings_check.specs.declared.found.Unread.{Unread}
use Rattle.settings_check.specs.declared.found.ValidFile.{ValidFile as Held}
use Rattle.toml_positions.specs.Written.{position_in}
use Rattle.toml_positions.specs.declared.position.Position.{Position}

-- what reading a file gives
abbrev pub given_bytes : Result (Vec ℕ Global) FileError → Result (List ℕ) FileError
given_bytes (Ok bytes) = Ok bytes.items
given_bytes (Err why) = Err why

-- why a file cannot be read, by the kind of the system's error
abbrev pub cause_of : ErrorKind → FileError
cause_of kind.NotFound = NotFound
cause_of kind.PermissionDenied = PermissionDenied
cause_of kind.IsADirectory = IsADirectory
cause_of _ = Other

-- the same in words
abbrev pub why_text : FileError → List ℕ
why_text NotFound = codes "there is no such file"
why_text PermissionDenied = codes "it may not be read"
why_text IsADirectory = codes "it is a directory"
why_text Other = codes "it cannot be read"

-- what is given for a name: `-` is the standard input, and else it is the name of a file
abbrev pub IsGiven : (List ℕ → Result (List ℕ) FileError → Type 0) → List ℕ → List ℕ
    → Result (List ℕ) FileError → Type 0
IsGiven Gives input name given =
    ((name ≡ codes "-") × (given ≡ Ok input)) ⊎ ((name ≢ codes "-") × Gives name given)

-- what is said of a file: its name, and what
abbrev pub Said : Type 0
Said = List ℕ × Note

-- a finding in a file
abbrev pub report_of : List ℕ → Finding → Said
report_of file finding = (file, finding_view finding)

-- what some reports say
abbrev pub reports_of : List Report → List Said
reports_of reports = map (λ r. report_of r.file.now r.finding) reports

-- files that cannot be read, and why
abbrev pub unread_of : List Unread → List (List ℕ × FileError)
unread_of unread = map (λ u. (u.file.now, u.why)) unread

-- a file without errors: its name, its text and its settings
pub record ValidFile : Type 0 where
  pub file : List ℕ
  pub text : List ℕ
  pub config : Config

abbrev pub valid_view : Held → ValidFile
valid_view v = record { file = v.file.now; text = v.text.items; config = v.config }

-- the file, if it has settings
abbrev pub valid_in : List ℕ → List ℕ → Option Config → List ValidFile
valid_in file text None = []
valid_in file text (Some config) = record { file = file; text = text; config = config } ∷ []

-- what was found in some files: what is said of them, those that cannot be read, and those without
-- errors
pub record Seen : Type 0 where
  pub said : List Said
  pub unread : List (List ℕ × FileError)
  pub valid : List ValidFile

abbrev pub found_view : Found → Seen
found_view f = record {
  said = reports_of f.reports.items;
  unread = unread_of f.unread.items;
  valid = map valid_view f.valid.items;
}

-- nothing was found
abbrev pub nothing_seen : Seen
nothing_seen = record { said = []; unread = []; valid = [] }

-- both were found
abbrev pub both_seen : Seen → Seen → Seen
both_seen a b = record {
  said = a.said ++ b.said;
  unread = a.unread ++ b.unread;
  valid = a.valid ++ b.valid;
}

-- what is found in a file of this text
abbrev pub findings_seen : List ℕ → List ℕ → Findings → Seen
findings_seen file text findings = record {
  said = map (report_of file) findings.list.items;
  unread = [];
  valid = valid_in file text findings.config;
}

-- what is found in a file for which this is given
abbrev pub IsSeenIn : List ℕ → Result (List ℕ) FileError → Seen → Type 0
IsSeenIn file (Ok bytes) seen =
    (findings : Findings) × Checks bytes findings × (seen ≡ findings_seen file bytes findings)
IsSeenIn file (Err why) seen = seen ≡ record { said = []; unread = (file, why) ∷ []; valid = [] }

-- what is found in a file for which this is given is added
abbrev pub AddsGiven : List ℕ → Result (List ℕ) FileError → Seen → Seen → Type 0
AddsGiven file given old new =
    (seen : Seen) × IsSeenIn file given seen × (new ≡ both_seen old seen)

-- what is found in a file, read by its name or from the standard input, is added
abbrev pub AddsFile : (List ℕ → Result (List ℕ) FileError → Type 0) → List ℕ → List ℕ → Seen
    → Seen → Type 0
AddsFile Gives input file old new =
    (given : Result (List ℕ) FileError) × IsGiven Gives input file given
    × AddsGiven file given old new

-- what is found in some files is added, one after the other
abbrev pub AddsFiles : (List ℕ → Result (List ℕ) FileError → Type 0) → List ℕ → List (List ℕ)
    → Seen → Seen → Type 0
AddsFiles Gives input [] old new = new ≡ old
AddsFiles Gives input (file ∷ files) old new =
    (next : Seen) × AddsFile Gives input file old next × AddsFiles Gives input files next new

-- what is found in some files
abbrev pub AreFound : (List ℕ → Result (List ℕ) FileError → Type 0) → List ℕ → List (List ℕ)
    → Seen → Type 0
AreFound Gives input files seen = AddsFiles Gives input files nothing_seen seen

-- all processes of one system share the settings of the table
abbrev pub is_shared : Section → Bool
is_shared section.Global = true
is_shared section.Service = true
is_shared section.Node = true
is_shared other = false

-- how much a difference weighs
abbrev pub difference_severity : Section → Severity
difference_severity s = if is_shared s then Error else Warning

-- what is said of a setting that all processes share
abbrev pub sharing_text : Section → List ℕ
sharing_text s =
    if is_shared s then codes ", and must be the same in all processes of one system" else []

-- a setting as a file has it: the name of the file, where it writes the key, if it does, and the
-- value
pub record FileSetting : Type 0 where
  pub file : List ℕ
  pub position : Option Position
  pub value : SettingValue

abbrev pub setting_view : HeldSetting → FileSetting
setting_view s = record {
  file = s.file.now;
  position = s.position;
  value = value_view s.value;
}

-- the setting of this key and this value
abbrev pub setting_in : ValidFile → Section → List ℕ → SettingValue → FileSetting
setting_in v s key value = record {
  file = v.file;
  position = position_in v.text (table_path s ++ key ∷ []);
  value = value;
}

-- where a file writes a key, or that it has the default
abbrev pub elsewhere_text : Option Position → List ℕ → List ℕ
elsewhere_text (Some p) file =
    codes " at " ++ (file ++ (codes ":" ++ (decimal p.line ++ (codes ":" ++ decimal p.column))))
elsewhere_text None file = codes " by default in " ++ file

-- what is said of a setting of one file that differs from that of the other, in one line
abbrev pub said_beside : Section → List ℕ → FileSetting → FileSetting → Said
said_beside s key one other = (
  one.file,
  note one.position (difference_severity s) (Some (prefix_of s ++ key))
      (codes "is " ++ (value_text one.value
      ++ (codes " here and " ++ (value_text other.value
      ++ (elsewhere_text other.position other.file ++ sharing_text s))))),
)

-- what is said of a setting that differs: of the first file, unless the second alone writes its key
abbrev said_where : Option Position → Option Position → Section → List ℕ → FileSetting
    → FileSetting → Said
said_where None (Some at) s key first second = said_beside s key second first
said_where _ _ s key first second = said_beside s key first second

abbrev pub difference : Section → List ℕ → FileSetting → FileSetting → Said
difference s key first second = said_where first.position second.position s key first second

-- a file that is compared
abbrev pub compared_view : Compared → ValidFile
compared_view c = valid_view c.file.now

-- the positions are those of its text
abbrev pub IsCompared : Compared → Type 0
IsCompared c = c.positions ≡ (compared_view c).text

-- two files that are compared
abbrev pub pair_view : Pair → ValidFile × ValidFile
pair_view p = (compared_view p.first, compared_view p.second)

abbrev pub AreCompared : Pair → Type 0
AreCompared p = IsCompared p.first × IsCompared p.second

-- their texts are TOML
abbrev pub AreParsed : ValidFile × ValidFile → Type 0
AreParsed (a, b) = IsToml a.text × IsToml b.text

-- what is said of a setting of this key, by its values in both files
abbrev pub difference_in : ValidFile × ValidFile → Section → List ℕ → SettingValue
    → SettingValue → Said
difference_in (a, b) s key value other =
    difference s key (setting_in a s key value) (setting_in b s key other)

-- what is said of a setting: something exactly where its values differ
unfoldable pub setting_differences : ValidFile × ValidFile → Section → ValuePair → List Said
setting_differences files s p =
    if is_same p.value p.other then []
    else difference_in files s p.key p.value p.other ∷ []

-- what is said of the settings of a table
unfoldable pub table_differences : ValidFile × ValidFile → Section → List Said
table_differences (a, b) s =
    flat_map (setting_differences (a, b) s) (value_pairs a.config b.config s)

-- what is said of all settings, in the order of the tables: those that all processes share first
abbrev pub differences : ValidFile × ValidFile → List Said
differences files = flat_map (table_differences files) sections
