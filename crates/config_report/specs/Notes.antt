-- What is said of a file of settings, and where in it the keys stand.
use Rattle.std.specs.Prelude.{ℕ, List, [], ◌∷◌, ◌++◌, codes, flat_map, length, nat_le, if◌then◌else◌, Option, Some, None, Bool, option_map, string_bytes}
use Rattle.config_report.specs.Prelude.{decimal, Position, list_all, reason_text, Located, fault_view, Proposed, Unknown, unknown_view, prefix_of, table_path, Finding, Error, Warning}
use Rattle.toml_positions.specs.Written.{position_in}
use Rattle.iox2_config_file.specs.declared.fault.SettingFault.{SettingFault}
use Rattle.iox2_config_file.specs.declared.proposal.Likeness.TheVariants.{Quoted}
use Rattle.iox2_config_file.specs.declared.unknown.UnknownKey.{UnknownKey}
use Rattle.config_report.specs.declared.finding.Severity.{Severity}
use Rattle.config_report.specs.Printable.{printable}
use Rattle.toml_parser.specs.Strings.{Key}
use Rattle.toml_writer.specs.Text.{key_text}

-- the position of a path in a file of at most 128 KiB, if an expression writes it
abbrev pub position_for : List ℕ → List (List ℕ) → Option Position
position_for bytes path = if nat_le (length bytes) 131_072 then position_in bytes path else None

-- a position, in front of what is reported there
abbrev pub at_text : Option Position → List ℕ
at_text None = []
at_text (Some p) = decimal p.line ++ (codes ":" ++ (decimal p.column ++ codes ": "))

-- no byte is a control character below 32
abbrev pub has_no_control : List ℕ → Bool
has_no_control text = list_all (λ c. nat_le 32 c) text

-- a text, with its control characters escaped
abbrev pub in_line : List ℕ → List ℕ
in_line text = printable text

-- something that is said of a file: where, how much it weighs, of which key, and what
pub record Note : Type 0 where
  pub position : Option Position
  pub severity : Severity
  pub key : Option (List ℕ)
  pub message : List ℕ

-- the same with a key and words that stand in one line
abbrev pub note : Option Position → Severity → Option (List ℕ) → List ℕ → Note
note at severity key message = record {
  position = at;
  severity = severity;
  key = option_map in_line key;
  message = in_line message;
}

-- what a finding says
abbrev pub finding_view : Finding → Note
finding_view f = record {
  position = f.position;
  severity = f.severity;
  key = option_map (λ k. string_bytes k) f.key;
  message = string_bytes f.message;
}

-- what there is to say something of: a value that is not allowed, or a key that no setting has
pub data Topic : Type 0 where
  fault : Located → Topic
  unknown : Unknown → Topic

-- the same, as the code holds them
abbrev pub fault_topic : SettingFault → Topic
fault_topic f = fault (fault_view f)

abbrev pub unknown_topic : UnknownKey → Topic
unknown_topic key = unknown (unknown_view key)

-- the path of its key
abbrev pub topic_path : Topic → List (List ℕ)
topic_path (fault (s, key, reason)) = table_path s ++ key ∷ []
topic_path (unknown (s, key, meant)) = table_path s ++ key ∷ []

-- what was probably meant, in words
abbrev pub proposed_text : Proposed → List ℕ
proposed_text (s, key, Quoted) = prefix_of s ++ (key ++ codes " without the quotes may be meant")
proposed_text (s, key, other) = prefix_of s ++ (key ++ codes " may be meant")

-- that a table has no such key, and what was probably meant
abbrev pub meant_text : Option Proposed → List ℕ
meant_text None = codes "this table has no such key"
meant_text (Some proposal) = codes "this table has no such key, " ++ proposed_text proposal

-- what is said of it at a position
abbrev pub topic_note : Option Position → Topic → Note
topic_note at (fault (s, key, reason)) =
    note at Error (Some (prefix_of s ++ key)) (reason_text reason)
topic_note at (unknown (s, key, meant)) =
    note at Warning (Some (prefix_of s ++ key_text key)) (meant_text meant)

-- the position of its key in a file
abbrev pub topic_position : List ℕ → Topic → Option Position
topic_position bytes topic = position_for bytes (topic_path topic)

-- the position of a key whose value is not allowed, and of one that no setting has
abbrev pub fault_position : List ℕ → Located → Option Position
fault_position bytes located = topic_position bytes (fault located)

abbrev pub unknown_position : List ℕ → Unknown → Option Position
unknown_position bytes key = topic_position bytes (unknown key)

-- what is said of it in a file
abbrev pub note_in : List ℕ → Topic → Note
note_in bytes topic = topic_note (topic_position bytes topic) topic

-- a key, each of its parts as TOML writes it
abbrev pub dotted_text : Key → List ℕ
dotted_text key = flat_map (λ part. key_text part ++ codes ".") key.0 ++ key_text key.1

-- how much it weighs, in words
abbrev pub severity_text : Severity → List ℕ
severity_text Error = codes "error"
severity_text Warning = codes "warning"

-- a key in front of what is said of it
abbrev pub of_key : Option (List ℕ) → List ℕ
of_key None = []
of_key (Some key) = key ++ codes ": "

-- what is said, without the end of its line
abbrev pub note_text : Note → List ℕ
note_text n =
    at_text n.position
    ++ (severity_text n.severity ++ (codes ": " ++ (of_key n.key ++ n.message)))
