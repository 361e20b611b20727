-- What the value of a key may be, and what it means.
use Rattle.std.specs.Prelude.{ℕ, ◌+◌, ◌*◌, ◌^◌, ℤ, pos, negsuc, List, length, Bool, true, Option, Some, None, Result, Ok, Err, if◌then◌else◌, ◌&&◌, ◌==◌, not, nat_lt, nat_le, codes, bytes_eq}
use Rattle.std.specs.List.{list_all, list_any}
use Rattle.std.specs.Result.{result_map_both, result_err, result_unwrap_or}
use Rattle.iox2_texts.specs.Path.{is_slash}
use Rattle.iox2_texts.specs.declared.bounded.SemanticStringError.{SemanticStringError}
use Rattle.iox2_texts.specs.declared.bounded.SemanticStringError.TheVariants.{InvalidContent, ExceedsMaximumLength}
use Rattle.iox2_config.specs.declared.config.choices.BackpressureStrategy.{BackpressureStrategy}
use Rattle.iox2_config.specs.declared.config.choices.BackpressureStrategy.TheVariants.{RetryUntilDelivered, DiscardData}
use Rattle.iox2_config.specs.declared.config.choices.AllocationStrategy.{AllocationStrategy}
use Rattle.iox2_config.specs.declared.config.choices.AllocationStrategy.TheVariants as grow
use Rattle.iox2_config_file.specs.declared.fault.Kind.{Kind}
use Rattle.iox2_config_file.specs.declared.fault.Kind.TheVariants as kind
use Rattle.iox2_config_file.specs.declared.fault.TomlType.{TomlType}
use Rattle.iox2_config_file.specs.declared.fault.TomlType.TheVariants as type
use Rattle.iox2_config_file.specs.declared.fault.Fault.{Fault}
use Rattle.iox2_config_file.specs.declared.fault.NameFault.{NameFault}
use Rattle.iox2_config_file.specs.declared.fault.NameFault.TheVariants.{Empty, TooLong, Dots, Slash, ForeignByte}
use Rattle.iox2_config_file.specs.declared.fault.Fault.TheVariants.{WrongType, OutOfRange, NoPath, NoFileName, UnknownVariant, NoDuration, NanosTooLarge}
use Rattle.toml.specs.Data.{Data, string, integer, float, boolean, datetime, array, table, Members, no_members, member, get_member}

-- what a setting holds; a duration is known by its nanoseconds
pub data SettingValue : Type 0 where
  number : ℕ → SettingValue
  flag : Bool → SettingValue
  text : List ℕ → SettingValue
  backpressure : BackpressureStrategy → SettingValue
  allocation : AllocationStrategy → SettingValue
  duration : ℕ → SettingValue
  absent : SettingValue
  settings : SettingValue

-- the type of a value
abbrev pub type_in : Data → TomlType
type_in (string s) = type.String
type_in (integer z) = type.Integer
type_in (float x) = type.Float
type_in (boolean b) = type.Boolean
type_in (datetime dt) = type.Datetime
type_in (array ds) = type.Array
type_in (table ms) = type.Table

-- an integer that is not below 0
abbrev pub number_in : ℤ → Result SettingValue Fault
number_in (pos n) = Ok (number n)
number_in (negsuc n) = Err OutOfRange

-- a text of at most 255 bytes from 1 to 127 that is allowed
abbrev pub text_in : (List ℕ → Bool) → List ℕ → Result SettingValue SemanticStringError
text_in allows s =
    if nat_lt 255 (length s) then Err ExceedsMaximumLength
    else if list_all (λ b. nat_le 1 b && nat_le b 127) s && allows s then Ok (text s)
    else Err InvalidContent

-- any text is a path
abbrev pub is_path : List ℕ → Bool
is_path s = true

-- the name of a file is not empty, without `/`, and neither `.` nor `..`
abbrev pub is_file_name : List ℕ → Bool
is_file_name s =
    ((not (length s == 0) && not (list_any is_slash s)) && not (bytes_eq s (codes ".")))
    && not (bytes_eq s (codes ".."))

-- why a text that is no name of a file is none
abbrev pub name_fault : List ℕ → NameFault
name_fault s =
    if length s == 0 then Empty
    else if nat_lt 255 (length s) then TooLong
    else if bytes_eq s (codes ".") then Dots
    else if bytes_eq s (codes "..") then Dots
    else if list_any is_slash s then Slash
    else ForeignByte

-- the strategies by their names
abbrev pub backpressure_in : List ℕ → Result SettingValue Fault
backpressure_in s =
    if bytes_eq s (codes "RetryUntilDelivered") then Ok (backpressure RetryUntilDelivered)
    else if bytes_eq s (codes "DiscardData") then Ok (backpressure DiscardData)
    else Err (UnknownVariant kind.Backpressure)

abbrev pub allocation_in : List ℕ → Result SettingValue Fault
allocation_in s =
    if bytes_eq s (codes "BestFit") then Ok (allocation grow.BestFit)
    else if bytes_eq s (codes "PowerOfTwo") then Ok (allocation grow.PowerOfTwo)
    else if bytes_eq s (codes "Static") then Ok (allocation grow.Static)
    else Err (UnknownVariant kind.Allocation)

-- how many members there are
abbrev pub member_count : Members → ℕ
member_count no_members = 0
member_count (member k d ms) = 1 + member_count ms

-- an integer at a key that is not below 0
abbrev pub part_in : Option Data → Option ℕ
part_in (Some (integer (pos n))) = Some n
part_in _ = None

-- so many seconds, and nanoseconds of at most 32 bits: those of a second or more are carried over
abbrev pub seconds_in : Option ℕ → Option ℕ → Result SettingValue Fault
seconds_in (Some secs) (Some nanos) =
    if nat_lt nanos (2 ^ 32) then Ok (duration (secs * 1_000_000_000 + nanos))
    else Err NanosTooLarge
seconds_in _ _ = Err NoDuration

-- a table of `secs` and `nanos`, and nothing else
abbrev pub duration_in : Members → Result SettingValue Fault
duration_in ms =
    if member_count ms == 2
    then
    seconds_in (part_in (get_member (codes "secs") ms))
    (part_in (get_member (codes "nanos") ms))
    else Err NoDuration

-- a setting that may be absent
abbrev pub option_value : {T : Type 0} → (T → SettingValue) → Option T → SettingValue
option_value value None = absent
option_value value (Some x) = value x

-- what a value means where a setting of the kind is wanted, or what is wrong with it
abbrev pub value_in : Kind → Data → Result SettingValue Fault
value_in kind.Table (table ms) = Ok settings
value_in kind.Number (integer z) = number_in z
value_in kind.Flag (boolean b) = Ok (flag b)
value_in kind.Path (string s) = result_map_both (λ v. v) NoPath (text_in is_path s)
value_in kind.FileName (string s) =
    result_map_both (λ v. v) (λ e. NoFileName (name_fault s)) (text_in is_file_name s)
value_in kind.Backpressure (string s) = backpressure_in s
value_in kind.Allocation (string s) = allocation_in s
value_in kind.Duration (table ms) = duration_in ms
value_in wanted found = Err (WrongType (type_in found) wanted)

-- the value that a key has, or else the default
abbrev pub value_or : Kind → SettingValue → Option Data → SettingValue
value_or wanted default None = default
value_or wanted default (Some found) = result_unwrap_or (value_in wanted found) default

-- what is wrong with the value of a key, if it has one
abbrev pub fault_in : Kind → Option Data → Option Fault
fault_in wanted None = None
fault_in wanted (Some found) = result_err (value_in wanted found)
