-- What a file says of the settings, and what is wrong with it.
use Rattle.std.specs.Prelude.{◌≡◌, ℕ, List, [], ◌∷◌, ◌++◌, map, flat_map, Option, option_map, option_and_then, unwrap_or, codes}
use Rattle.std.specs.List.{filter_map}
use Rattle.iox2_config.specs.declared.config.Config.{Config}
use Rattle.iox2_config_file.specs.declared.fault.Kind.{Kind}
use Rattle.iox2_config_file.specs.declared.fault.Kind.TheVariants as kind
use Rattle.iox2_config_file.specs.declared.section.Section.{Section}
use Rattle.iox2_config_file.specs.declared.section.Row.{Row}
use Rattle.iox2_config_file.specs.declared.section.Section.TheVariants as section
use Rattle.iox2_config_file.specs.declared.fault.Fault.{Fault}
use Rattle.iox2_config_file.specs.declared.fault.SettingFault.{SettingFault}
use Rattle.iox2_config_file.specs.Values.{value_or, fault_in}
use Rattle.iox2_config_file.specs.Settings.{Setting, settings_in, table_path, tables_in, prefix_of}
use Rattle.toml.specs.Data.{Members, no_members, get_member, as_table}
use Rattle.iox2_texts.specs.declared.bounded.SemanticStringError.{SemanticStringError}
use Rattle.iox2_texts.specs.declared.bounded.SemanticStringError.TheVariants.{InvalidContent, ExceedsMaximumLength}
use Rattle.iox2_config_file.specs.declared.fault.Fault.TheVariants.{WrongType, OutOfRange, NoPath, NoFileName, UnknownVariant, NoDuration, NanosTooLarge}
use Rattle.iox2_config_file.specs.declared.fault.NameFault.{NameFault}
use Rattle.iox2_config_file.specs.declared.fault.NameFault.TheVariants as name
use Rattle.iox2_config_file.specs.declared.fault.TomlType.{TomlType}
use Rattle.iox2_config_file.specs.declared.fault.TomlType.TheVariants as type

-- a key and what its value may be
abbrev pub row_view : Row → List ℕ × Kind
row_view row = (row.key.now, row.kind)

-- the keys that a table may have: its settings, and then the tables in it
abbrev pub rows_in : Section → Config → List (List ℕ × Kind)
rows_in s c =
    map (λ x. (x.key, x.kind)) (settings_in s c) ++ map (λ k. (k, kind.Table)) (tables_in s)

-- the setting with the value at its key, if there is one
abbrev pub read_setting : Members → Setting → Setting
read_setting ms s = record s { value = value_or s.kind s.value (get_member s.key ms) }

-- the members of the table at a key, none where the key has no table
abbrev pub members_at : List ℕ → Members → Members
members_at key ms = unwrap_or (option_and_then as_table (get_member key ms)) no_members

-- the members of the table at a path
abbrev pub members_below : List (List ℕ) → Members → Members
members_below [] file = file
members_below (key ∷ keys) file = members_below keys (members_at key file)

-- the members of each table of a file, none where it is absent
abbrev pub section_members : Section → Members → Members
section_members s = members_below (table_path s)

-- the settings of a table, each with the value at its key, if there is one
abbrev pub read_section : Section → Members → List Setting → List Setting
read_section s file defaults = map (read_setting (section_members s file)) defaults

-- each setting has the value at its key if there is one, and else its default
abbrev pub IsSettingsOf : Config → Members → Config → Type 0
IsSettingsOf defaults file config =
    (s : Section) → settings_in s config ≡ read_section s file (settings_in s defaults)

-- a fault with its position
abbrev pub Located : Type 0
Located = Section × List ℕ × Fault

abbrev pub fault_view : SettingFault → Located
fault_view f = (f.section, f.key.now, f.fault)

-- what is wrong with the value of a key
abbrev pub row_fault : Section → Members → List ℕ × Kind → Option Located
row_fault s ms row = option_map (λ f. (s, row.0, f)) (fault_in row.1 (get_member row.0 ms))

-- the values of a table that are not allowed, in the order of its keys
unfoldable pub section_faults : Config → Members → Section → List Located
section_faults c file s = filter_map (row_fault s (section_members s file)) (rows_in s c)

-- the tables of a file in their order
abbrev pub sections : List Section
sections =
    section.Root ∷ section.Global ∷ section.Service ∷ section.Node ∷ section.Defaults
    ∷ section.PublishSubscribe ∷ section.Event ∷ section.RequestResponse ∷ section.Blackboard ∷ []

-- all values that are not allowed, in the order of the table of settings
unfoldable pub faults_in : Config → Members → List Located
faults_in c file = flat_map (section_faults c file) sections

-- what a value may be, in words
abbrev pub kind_text : Kind → List ℕ
kind_text kind.Table = codes "a table"
kind_text kind.Number = codes "an integer"
kind_text kind.Flag = codes "a boolean"
kind_text kind.Path = codes "a string with a path"
kind_text kind.FileName = codes "a string with the name of a file"
kind_text kind.Backpressure = codes "\"RetryUntilDelivered\" or \"DiscardData\""
kind_text kind.Allocation = codes "\"BestFit\", \"PowerOfTwo\" or \"Static\""
kind_text kind.Duration = codes "a table of `secs` and `nanos`"

-- the types in words
abbrev pub type_text : TomlType → List ℕ
type_text type.String = codes "a string"
type_text type.Integer = codes "an integer"
type_text type.Float = codes "a float"
type_text type.Boolean = codes "a boolean"
type_text type.Datetime = codes "a date-time"
type_text type.Array = codes "an array"
type_text type.Table = codes "a table"

-- why a text is no name of a file
abbrev pub no_file_name_text : NameFault → List ℕ
no_file_name_text name.Empty = codes "it is empty"
no_file_name_text name.TooLong = codes "it has more than 255 bytes"
no_file_name_text name.Dots = codes "it is `.` or `..`"
no_file_name_text name.Slash = codes "it has a `/`"
no_file_name_text name.ForeignByte = codes "it has a byte that is not from 1 to 127"

-- why a text is no path
abbrev pub no_path_text : SemanticStringError → List ℕ
no_path_text InvalidContent = no_file_name_text name.ForeignByte
no_path_text ExceedsMaximumLength = no_file_name_text name.TooLong

-- what is wrong with a value
unfoldable pub reason_text : Fault → List ℕ
reason_text (WrongType found wanted) =
    codes "is " ++ (type_text found ++ (codes ", and " ++ (kind_text wanted ++ codes " is wanted")))
reason_text OutOfRange = codes "is not an integer from 0 to 9223372036854775807"
reason_text (NoPath e) = codes "is no path: " ++ no_path_text e
reason_text (NoFileName e) = codes "is no name of a file: " ++ no_file_name_text e
reason_text (UnknownVariant wanted) = codes "is not " ++ kind_text wanted
reason_text NoDuration = codes "is not `{ secs = S, nanos = N }` with two integers from 0 on"
reason_text NanosTooLarge = codes "has `nanos` of 2^32 or more"

-- the path of a key, and what is wrong with its value
abbrev pub located_text : Located → List ℕ
located_text (s, key, fault) = prefix_of s ++ (key ++ (codes ": " ++ reason_text fault))
