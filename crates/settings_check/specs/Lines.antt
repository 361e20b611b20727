-- How findings are written, without control characters.
use Rattle.std.specs.Prelude.{ℕ, false, List, ◌++◌, codes, flat_map, if◌then◌else◌, Bool, true, not, nat_eq, [], ◌∷◌, count_by, Option, Some, None, option_map}
use Rattle.std.specs.Fmt.{decimal}
use Rattle.serde_json.specs.Data.{Data, null, number, unsigned, string, object, member, no_members}
use Rattle.serde_json.specs.Written.{compact_text}
use Rattle.config_report.specs.Notes.{note_text, severity_text}
use Rattle.config_report.specs.Printable.{printable, printable_line}
use Rattle.config_report.specs.declared.finding.Severity.{Severity}
use Rattle.config_report.specs.declared.finding.Severity.TheVariants.{Error, Warning}
use Rattle.settings_check.specs.Found.{why_text, Said}
use Rattle.settings_check.specs.declared.arguments.Format.{Format}
use Rattle.settings_check.specs.declared.arguments.Format.TheVariants.{Text, Json}
use Rattle.settings_check.specs.declared.found.FileError.{FileError}
use Rattle.settings_check.specs.declared.lines.Omitted.{Omitted}
use Rattle.settings_check.specs.declared.lines.Style.{Style}
use Rattle.settings_check.specs.declared.lines.Style.TheVariants as style
use Rattle.toml_positions.specs.declared.position.Position.{Position}

-- what stands between the name of a file and what is said of it
abbrev pub gap : Option Position → List ℕ
gap (Some at) = codes ":"
gap None = codes ": "

-- how lines of a format are written, where text may be coloured or not
abbrev pub style_of : Format → Bool → Style
style_of Json coloured = style.Json
style_of Text coloured = if coloured then style.Coloured else style.Plain

-- a finding for a person: the file, and what is said of it, without control characters
abbrev pub text_of : Said → List ℕ
text_of (file, note) = printable (file ++ (gap note.position ++ note_text note))

-- what switches the colour of a finding on
abbrev pub colour_of : Severity → List ℕ
colour_of Error = 27 ∷ codes "[31m"
colour_of Warning = 27 ∷ codes "[33m"

-- a number of JSON, a text, or null
abbrev pub number_data : Option ℕ → Data
number_data (Some n) = number (unsigned n)
number_data None = null

abbrev pub key_data : Option (List ℕ) → Data
key_data (Some key) = string key
key_data None = null

-- the object of a finding, with its members in the order of their keys
abbrev pub note_data : Said → Data
note_data (file, note) =
    object (member (codes "column") (number_data (option_map (λ at. at.column) note.position))
    (member (codes "file") (string file)
    (member (codes "key") (key_data note.key)
    (member (codes "line") (number_data (option_map (λ at. at.line) note.position))
    (member (codes "message") (string note.message)
    (member (codes "severity") (string (severity_text note.severity)) no_members))))))

-- the line of a finding: for a person, also with its colour switched on and off, which are the only
-- commands to a terminal, or for a program, an object of JSON
abbrev pub line_in : Style → Said → List ℕ
line_in style.Plain said = text_of said ++ codes "\n"
line_in style.Coloured said = colour_of said.1.severity ++ (text_of said ++ (27 ∷ codes "[0m\n"))
line_in style.Json said = compact_text (note_data said) ++ codes "\n"

-- the lines of some findings
abbrev pub lines_in : Style → List Said → List ℕ
lines_in way said = flat_map (line_in way) said

-- the finding is an error
abbrev is_error_of : Severity → Bool
is_error_of Error = true
is_error_of Warning = false

abbrev pub is_error : Said → Bool
is_error (file, note) = is_error_of note.severity

-- how many errors and how many warnings there are
abbrev pub errors_in : List Said → ℕ
errors_in said = count_by is_error said

abbrev pub warnings_in : List Said → ℕ
warnings_in said = count_by (λ s. not (is_error s)) said

-- what stands behind a noun of a number
abbrev pub plural : ℕ → List ℕ
plural n = if nat_eq n 1 then [] else codes "s"

-- a note, or nothing
abbrev pub note_if : Bool → List ℕ → List ℕ
note_if is_said note = if is_said then note else []

-- what a report leaves out, in words
abbrev pub omitted_text : Omitted → List ℕ
omitted_text o =
    note_if o.contradictions (codes "; contradictions are looked for in files without errors")
    ++ (note_if o.differences (codes "; the files are not compared")
    ++ note_if o.files (codes "; a file cannot be read"))

-- the line that counts them, and says what is left out
abbrev pub counts_text : Omitted → List Said → List ℕ
counts_text omitted said =
    decimal (errors_in said) ++ (codes " error" ++ (plural (errors_in said)
    ++ (codes ", " ++ (decimal (warnings_in said) ++ (codes " warning"
    ++ (plural (warnings_in said) ++ (omitted_text omitted ++ codes "\n")))))))

-- the last line, which counts the findings: there is none among objects of JSON
abbrev pub end_text : Style → Omitted → List Said → List ℕ
end_text style.Json omitted said = []
end_text way omitted said = counts_text omitted said

-- the line of a file that cannot be read
abbrev pub unread_line : List ℕ × FileError → List ℕ
unread_line (file, why) = printable_line (file ++ (codes ": " ++ why_text why))
