-- What a whole description is, what stands in front of it, and why a line is bad.
use Rattle.std.specs.Prelude.{◌≡◌, ◌≢◌, ◌⊎◌, ℕ, List, [], ◌++◌, codes, drop, take, string_bytes, ◌==◌, ◌+◌, ◌<◌, ◌∷◌, not, Some, None, IsTrue, length, nat_eq, slice_index, map, Bool, cond, count_by, ◌||◌}
use Rattle.iox2_config.specs.Defaults.{IsDefaultConfig}
use Rattle.iox2_config.specs.declared.config.Config.{Config}
use Rattle.memchr.specs.Find.{FindsNeedle}
use Rattle.config_report.specs.Findings.{HasConfig, IsRefusal}
use Rattle.service_drawing.specs.declared.fault.Fault.{Fault}
use Rattle.service_drawing.specs.declared.fault.Fault.TheVariants.{BadSettings, NoEnd, NoMemory}
use Rattle.iox2_texts.specs.Pair.{Pair}
use Rattle.iox2_texts.specs.Verify.{Requirements}
use Rattle.iox2_config.specs.Hashing.{hash_input, sha1_text}
use Rattle.iox2_config.specs.declared.hash.input.PatternKind.{PatternKind}
use Rattle.service_drawing.specs.Lines.{Form, Stops, line_by_line, sequence, exchange, HasService, HasAttributes, HasRequirements, is_plain, IsLine, UpTo, IsInternal}
use Rattle.service_drawing.specs.Settings.{HasConfiguration, Assignment, GivesSetting, HasName, IsSetting, setting_names, word_of}
use Rattle.service_drawing.specs.declared.description.Description.{Description}
use Rattle.service_drawing.specs.declared.description.Exchange.{Exchange}
use Rattle.std.specs.List.{find, before_first, ends_with, list_any}
use Rattle.service_drawing.specs.declared.reading.cause.Cause.{Cause}
use Rattle.service_drawing.specs.declared.reading.cause.Cause.TheVariants.{NoNewline, CarriageReturn, ForeignByte, TwoSpaces, Read}
use Rattle.service_drawing.specs.declared.reading.cause.Reason.{Reason}
use Rattle.service_drawing.specs.declared.reading.cause.Reason.TheVariants.{InternalName, UnknownSetting, SetTwice, OtherForm}

-- the bytes begin with a line `config`
abbrev pub Opens : List ℕ → Type 0
Opens bytes = (more : List ℕ) × (bytes ≡ codes "config\n" ++ more)

-- what stands behind the word `config`
abbrev pub behind_config : List ℕ → List ℕ
behind_config bytes = drop 6 bytes

-- The bytes begin with a line `config`, the lines of a file of settings and a line `end`, the first
-- one. The file begins with the newline of the line `config`, so that its lines have the numbers of
-- all lines.
pub record HasBlock (settings rest bytes : List ℕ) : Type 0 where
  pub opens : Opens bytes
  pub at : ℕ
  pub ends : FindsNeedle (behind_config bytes) (codes "\nend\n") 0 (Some at)
  pub file : settings ≡ take (at + 1) (behind_config bytes)
  pub left : rest ≡ drop (at + 5) (behind_config bytes)

-- what is left of the bytes is a description over this configuration: that of the block in front,
-- with the warnings on it, or without a block the default one
abbrev pub IsOver : Config → List ℕ → List ℕ → List ℕ → Type 0
IsOver base warnings rest bytes =
    ((¬ Opens bytes) × (rest ≡ bytes) × IsDefaultConfig base × (warnings ≡ []))
    ⊎ ((settings : List ℕ) × HasBlock settings rest bytes × HasConfig settings base warnings)

-- why there is no such configuration: the block is no file of settings, or has no end
abbrev pub IsNotOver : List ℕ → Fault → Type 0
IsNotOver bytes (BadSettings lines) =
    (settings : List ℕ) × (rest : List ℕ) × HasBlock settings rest bytes
    × IsRefusal settings (string_bytes lines)
IsNotOver bytes NoEnd = Opens bytes × ((settings rest : List ℕ) → ¬ HasBlock settings rest bytes)
IsNotOver bytes NoMemory = Unit {0}
IsNotOver bytes other = ⊥

-- the lines that follow those of settings: what the ports exchange, attributes and what an opener
-- requires
abbrev pub after_settings : PatternKind → Form (Exchange × (List Pair × Requirements))
after_settings kind =
    sequence (exchange kind)
    (sequence (line_by_line HasAttributes) (line_by_line HasRequirements))

-- the lines that follow that of a service of this pattern
abbrev pub after_service : Config → PatternKind
    → Form (Config × (Exchange × (List Pair × Requirements)))
after_service base kind =
    sequence (line_by_line (HasConfiguration base kind)) (after_settings kind)

-- the bytes are the lines of the description over a configuration: that of the service, and those
-- that follow it
pub record HasDescription (base : Config) (d : Description) (bytes : List ℕ) : Type 0 where
  pub rest : List ℕ
  pub service : HasService d.kind d.name rest bytes
  pub hash : d.hash ≡ sha1_text (hash_input d.kind d.name)
  pub lines : (after_service base d.kind).Has
      (d.config, (d.exchange, (d.attributes, d.required))) [] rest

-- the bytes are a description over a configuration
abbrev pub IsDescription : Config → List ℕ → Type 0
IsDescription base bytes = (d : Description) × HasDescription base d bytes

-- what is left of the bytes begins with the first line that no description has there, where what is
-- whole is a description, or nothing
abbrev pub StopsReading : Config → List ℕ → List ℕ → Type 0
StopsReading base left bytes =
    Stops (λ b. IsDescription base b ⊎ (b ≡ [])) (IsDescription base) left bytes

-- what stands before the first newline
abbrev pub line_of : List ℕ → List ℕ
line_of bytes = before_first (λ b. b == 10) bytes

-- the line ends in a carriage return
abbrev pub EndsInReturn : List ℕ → Type 0
EndsInReturn line = IsTrue (ends_with nat_eq line (13 ∷ []))

-- the word ends so
abbrev pub ends_so : List ℕ → List ℕ → Bool
ends_so word end = ends_with nat_eq word end

-- how many words follow this one, with which a line begins: a name or a value that may have
-- spaces, and begin with them, is none
abbrev pub words_behind : List ℕ → ℕ
words_behind word =
    cond (ends_so word (codes "payload") || ends_so word (codes "opener")) 3
    (cond (ends_so word (codes "require") || ends_so word (codes "require-key")
    || (ends_so word (codes "attribute") || ends_so word (codes "elements"))) 1
    (cond (ends_so word (codes "header") || ends_so word (codes "key")
    || ends_so word (codes "set")) 2 0))

-- one space follows another, and fewer stand before them than words follow the first one
pub record HasTwoSpaces (line : List ℕ) : Type 0 where
  pub at : ℕ
  pub within : at + 1 < length line
  pub first : slice_index line at ≡ 32
  pub second : slice_index line (at + 1) ≡ 32
  pub among : count_by (λ b. b == 32) (take at line) < words_behind (word_of line)

-- a newline ends the first line
abbrev pub IsEnded : List ℕ → Type 0
IsEnded bytes = length (line_of bytes) < length bytes

-- for this cause no line begins what is left
abbrev pub IsMisspelled : List ℕ → Cause → Type 0
IsMisspelled bytes NoNewline = (bytes ≢ []) × (line_of bytes ≡ bytes)
IsMisspelled bytes CarriageReturn = IsEnded bytes × EndsInReturn (line_of bytes)
IsMisspelled bytes (ForeignByte b) =
    IsEnded bytes × (¬ EndsInReturn (line_of bytes))
    × (find (λ b. not (is_plain b)) (line_of bytes) ≡ Some b)
IsMisspelled bytes other = ⊥

-- a line begins what is left, or nothing is left
abbrev pub IsSpelled : List ℕ → Type 0
IsSpelled bytes =
    (bytes ≡ []) ⊎ (IsEnded bytes × (find (λ b. not (is_plain b)) (line_of bytes) ≡ None))

-- what is left begins with a line that is bad for this cause, where reading found this reason
abbrev pub IsCause : List ℕ → Reason → Cause → Type 0
IsCause bytes reason TwoSpaces =
    IsSpelled bytes × (reason ≢ InternalName) × HasTwoSpaces (line_of bytes)
IsCause bytes reason (Read reported) =
    IsSpelled bytes × (reported ≡ reason) × ((reason ≡ InternalName) ⊎ (¬ HasTwoSpaces (line_of
    bytes)))
IsCause bytes reason cause = IsMisspelled bytes cause

-- the first line names a service as those of the system itself are named
pub record BeginsInternal (bytes : List ℕ) : Type 0 where
  pub text : List ℕ
  pub rest : List ℕ
  pub line : IsLine text rest bytes
  pub internal : IsInternal text

-- this is the reason why the bytes begin with no line of a service
abbrev pub IsServiceReason : Reason → List ℕ → Type 0
IsServiceReason InternalName bytes = BeginsInternal bytes
IsServiceReason OtherForm bytes = ¬ BeginsInternal bytes
IsServiceReason other bytes = ⊥

-- only lines that set settings stand before what is left of the bytes, and that begins with one
-- more such line, in which a space follows the name of the setting
pub record AtSetting (base : Config) (kind : PatternKind) (left bytes : List ℕ) : Type 0 where
  pub sets : List Assignment
  pub before : UpTo (codes "set ") (GivesSetting kind base.defaults) sets left bytes
  pub text : List ℕ
  pub rest : List ℕ
  pub line : IsLine (codes "set " ++ text) rest left
  pub spaced : word_of text ≢ text

-- the line with which what is left begins names none of the settings
pub record IsUnknown (base : Config) (kind : PatternKind) (left bytes : List ℕ) : Type 0 where
  pub at : AtSetting base kind left bytes
  pub none : (index : ℕ) → ¬ HasName (setting_names kind) index (word_of at.text)

-- the line with which what is left begins names a setting that a line before it has set
pub record WasSet (base : Config) (kind : PatternKind) (left bytes : List ℕ) : Type 0 where
  pub at : AtSetting base kind left bytes
  pub index : ℕ
  pub setting : IsSetting (setting_names kind) index (word_of at.text)
  pub before : IsTrue (list_any (nat_eq index) (map (λ set. set.index) at.sets))

-- the bytes begin with the line of a service, and this holds of what follows it, for its pattern
pub record AmongSettings (Holds : PatternKind → List ℕ → List ℕ → Type 0)
    (left bytes : List ℕ) : Type 0 where
  pub kind : PatternKind
  pub name : List ℕ
  pub at_settings : List ℕ
  pub service : HasService kind name at_settings bytes
  pub holds : Holds kind left at_settings

-- this is the reason why no description goes on with the line with which what is left begins:
-- the name of the service, that of a setting, a setting that was set before, and else its form
abbrev pub IsReason : Config → Reason → List ℕ → List ℕ → Type 0
IsReason base InternalName left bytes = BeginsInternal bytes
IsReason base UnknownSetting left bytes = AmongSettings (IsUnknown base) left bytes
IsReason base SetTwice left bytes = AmongSettings (WasSet base) left bytes
IsReason base OtherForm left bytes =
    (¬ BeginsInternal bytes) × (¬ AmongSettings (IsUnknown base) left bytes)
    × (¬ AmongSettings (WasSet base) left bytes)
