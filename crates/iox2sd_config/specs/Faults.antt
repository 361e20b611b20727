-- What is wrong with a file of settings, as plain values.
use Rattle.std.specs.Prelude.{ℕ, List, [], ◌++◌, length, take, Option, Some, None, ◌-◌, ◌^◌, ◌==◌, if◌then◌else◌}
use Rattle.iox2sd_config.specs.Prelude.{zero_padded, code, status_text, Status, Note, fault, fault_position, finding_view, topic_note, Unread, Section, Position, Located, PlainFault}
use Rattle.config_report.specs.declared.check.Unread.TheVariants.{NotUtf8, TooDeep, NotToml, NoMemory}
use Rattle.iox2_config_file.specs.Settings.{prefix_of}
use Rattle.iox2_config_file.specs.declared.fault.Fault.{Fault}
use Rattle.iox2_config_file.specs.declared.fault.Fault.TheVariants.{WrongType, OutOfRange, NoPath, NoFileName, UnknownVariant, NoDuration, NanosTooLarge}
use Rattle.iox2_config_file.specs.declared.fault.Kind.{Kind}
use Rattle.iox2_config_file.specs.declared.fault.Kind.TheVariants as kind
use Rattle.iox2_config_file.specs.declared.fault.NameFault.TheVariants.{TooLong}
use Rattle.iox2_config_file.specs.declared.fault.TomlType.{TomlType}
use Rattle.iox2_config_file.specs.declared.fault.TomlType.TheVariants as type
use Rattle.iox2_config_file.specs.declared.section.Section.TheVariants as section
use Rattle.iox2_texts.specs.declared.bounded.SemanticStringError.TheVariants.{InvalidContent, ExceedsMaximumLength}
use Rattle.iox2sd_common.specs.declared.status.Status.TheVariants as status

-- the number of a table of the file
abbrev pub section_number : Section → ℕ
section_number section.Root = 0
section_number section.Global = 1
section_number section.Service = 2
section_number section.Node = 3
section_number section.Defaults = 4
section_number section.PublishSubscribe = 5
section_number section.Event = 6
section_number section.RequestResponse = 7
section_number section.Blackboard = 8

-- the number of a type of TOML
abbrev pub type_number : TomlType → ℕ
type_number type.String = 1
type_number type.Integer = 2
type_number type.Float = 3
type_number type.Boolean = 4
type_number type.Datetime = 5
type_number type.Array = 6
type_number type.Table = 7

-- the number of what a value may be
abbrev pub kind_number : Kind → ℕ
kind_number kind.Table = 1
kind_number kind.Number = 2
kind_number kind.Flag = 3
kind_number kind.Path = 4
kind_number kind.FileName = 5
kind_number kind.Backpressure = 6
kind_number kind.Allocation = 7
kind_number kind.Duration = 8

-- the status of what is wrong with a value
abbrev pub fault_status : Fault → Status
fault_status (WrongType found wanted) = status.WrongType
fault_status OutOfRange = status.BelowZero
fault_status (NoPath ExceedsMaximumLength) = status.TooLong
fault_status (NoPath InvalidContent) = status.BadPath
fault_status (NoFileName TooLong) = status.TooLong
fault_status (NoFileName why) = status.NoFileName
fault_status (UnknownVariant wanted) = status.UnknownVariant
fault_status NoDuration = status.NoDuration
fault_status NanosTooLarge = status.BadDuration

-- the type of a value where another is wanted
abbrev pub found_number : Fault → ℕ
found_number (WrongType found wanted) = type_number found
found_number _ = 0

-- what is wanted in place of a value
abbrev pub wanted_number : Fault → ℕ
wanted_number (WrongType found wanted) = kind_number wanted
wanted_number OutOfRange = kind_number kind.Number
wanted_number (NoPath why) = kind_number kind.Path
wanted_number (NoFileName why) = kind_number kind.FileName
wanted_number (UnknownVariant wanted) = kind_number wanted
wanted_number NoDuration = kind_number kind.Duration
wanted_number NanosTooLarge = kind_number kind.Duration

-- the path of a key: its tables, and then the key
abbrev pub key_path : Section → List ℕ → List ℕ
key_path s key = prefix_of s ++ key

-- the first 80 bytes of the path of a known key, which is shorter, and then zeros
abbrev pub cut_key : List ℕ → List ℕ
cut_key path = zero_padded 80 (take 80 path)

-- the first 256 bytes of what is wrong, in words, and then zeros
abbrev pub cut_reason : List ℕ → List ℕ
cut_reason words = zero_padded 256 (take 256 words)

-- the line and the column of a position, 0 where there is none
abbrev pub line_of : Option Position → ℕ
line_of None = 0
line_of (Some p) = p.line

abbrev pub column_of : Option Position → ℕ
column_of None = 0
column_of (Some p) = p.column

-- the key that something is said of, none where it is said of the whole file
abbrev pub key_of : Option (List ℕ) → List ℕ
key_of None = []
key_of (Some key) = key

-- a status, with the table, the type and the kind of a value, at a position, of a key, in words
abbrev pub c_found : Status → ℕ → ℕ → ℕ → Option Position → Option (List ℕ) → List ℕ → PlainFault
c_found s table found wanted at key words = record {
  status = code s;
  table = table;
  found = found;
  wanted = wanted;
  line = line_of at;
  column = column_of at;
  key = cut_key (key_of key);
  key_length = length (key_of key);
  reason = cut_reason words;
  reason_length = length words;
}

-- what the report on a file says, with its status, and with the table, the type and the kind of the
-- value
abbrev pub c_note : Status → ℕ → ℕ → ℕ → Note → PlainFault
c_note s table found wanted n = c_found s table found wanted n.position n.key n.message

-- a status in these words, and nothing of a key
abbrev pub worded : Status → List ℕ → PlainFault
worded s words = c_found s 0 0 0 None None words

-- a status in its own words, and nothing of a key
abbrev pub no_position : Status → PlainFault
no_position s = worded s (status_text s)

-- what the report says of a value that is not allowed, where its key has this position
abbrev pub c_at : Option Position → Located → PlainFault
c_at at (s, key, reason) =
    c_note (fault_status reason) (section_number s) (found_number reason) (wanted_number reason)
    (topic_note at (fault (s, key, reason)))

-- the same in a file
abbrev pub c_fault : List ℕ → Located → PlainFault
c_fault bytes located = c_at (fault_position bytes located) located

-- why bytes are no file of settings: what the report says, with its status
abbrev pub c_unread : Unread → PlainFault
c_unread (NotUtf8 finding) = c_note status.NotUtf8 0 0 0 (finding_view finding)
c_unread (TooDeep finding) = c_note status.TooDeep 0 0 0 (finding_view finding)
c_unread (NotToml finding) = c_note status.NotToml 0 0 0 (finding_view finding)
c_unread (NoMemory e) = no_position status.NoMemory

-- the same by the status alone
abbrev pub unread_status : Unread → Status
unread_status (NotUtf8 finding) = status.NotUtf8
unread_status (TooDeep finding) = status.TooDeep
unread_status (NotToml finding) = status.NotToml
unread_status (NoMemory e) = status.NoMemory

-- where something with this line and this column stands among others: what has none comes last
abbrev pub sort_key_at : ℕ → ℕ → ℕ × ℕ
sort_key_at line column = if line == 0 then (2 ^ 64 - 1, 2 ^ 64 - 1) else (line, column)
