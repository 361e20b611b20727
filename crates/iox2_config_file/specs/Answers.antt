-- What the reader of a file answers, also of a text that was written.
use Rattle.std.specs.Prelude.{◌≡◌, ℕ, List, [], ◌∷◌, map, Option, Some, None, ⊤, option_map}
use Rattle.iox2_config.specs.Defaults.{IsDefaultConfig}
use Rattle.iox2_config.specs.declared.config.Config.{Config}
use Rattle.iox2_config_file.specs.declared.read.ConfigFileError.{ConfigFileError}
use Rattle.iox2_config_file.specs.declared.read.ConfigFileError.TheVariants as error
use Rattle.iox2_config_file.specs.declared.fault.SettingFault.{SettingFault}
use Rattle.iox2_config_file.specs.declared.read.FileContents.{FileContents}
use Rattle.iox2_config_file.specs.declared.unknown.UnknownKey.{UnknownKey}
use Rattle.iox2_config_file.specs.Read.{IsSettingsOf, Located, faults_in, fault_view}
use Rattle.iox2_config_file.specs.Unknown.{unknown_view, unknown_in}
use Rattle.toml.specs.Data.{Members}
use Rattle.toml.specs.Parse.{parse_document}
use Rattle.iox2_texts.specs.Text.{IsTextUpTo}
use Rattle.iox2_texts.specs.Name.{IsAllowed}
use Rattle.iox2_texts.specs.Path.{IsPlain}
use Rattle.iox2_config_file.specs.declared.fault.Kind.{Kind}
use Rattle.iox2_config_file.specs.declared.fault.Kind.TheVariants as kind
use Rattle.iox2_config_file.specs.declared.section.Section.{Section}
use Rattle.iox2_config_file.specs.Settings.{Setting, settings_in}
use Rattle.iox2_config_file.specs.Values.{SettingValue, text}
use Rattle.std.specs.Duration.{as_nanos}

-- no value of the file is refused; the configuration given is looked at for the keys alone
abbrev pub HasNoFault : Members → Type 0
HasNoFault file = (c : Config) → faults_in c file ≡ []

-- the first fault of a file
abbrev pub IsFirstFault : Members → Located → Type 0
IsFirstFault file fault =
    (c : Config) → (more : List Located) × (faults_in c file ≡ fault ∷ more)

-- the file has a fault and gives no settings, or it has none, and these are its settings
abbrev pub IsConfigOf : Config → Members → Option Config → Type 0
IsConfigOf default file None = (first : Located) × IsFirstFault file first
IsConfigOf default file (Some config) = HasNoFault file × IsSettingsOf default file config

-- these are all the values of a file that are not allowed
abbrev pub ReportsFaults : Members → List SettingFault → Type 0
ReportsFaults file faults = (c : Config) → map fault_view faults ≡ faults_in c file

-- these are all the keys of a file that no setting has
abbrev pub ReportsUnknown : Members → List UnknownKey → Type 0
ReportsUnknown file unknown = (c : Config) → map unknown_view unknown ≡ unknown_in c file

-- the text is a file, and this is all that it says: its settings, if it has no faults, where an
-- absent key has the default of the middleware; its faults; and its unknown keys
pub record ReadsAll (bytes : List ℕ) (contents : FileContents) : Type 0 where
  pub file : Members
  pub default : Config
  pub parsed : parse_document bytes ≡ Some file
  pub is_default : IsDefaultConfig default
  pub config : IsConfigOf default file contents.config
  pub faults : ReportsFaults file contents.faults.items
  pub unknown : ReportsUnknown file contents.unknown.items

-- why a text is not read: it is no TOML, or memory was refused
abbrev pub IsUnparsed : List ℕ → ConfigFileError → Type 0
IsUnparsed bytes (error.Syntax e) = parse_document bytes ≡ None
IsUnparsed bytes (error.NoMemory e) = ⊤

-- all settings are the same
abbrev pub AreSame : Config → Config → Type 0
AreSame one other = (s : Section) → settings_in s one ≡ settings_in s other

-- the text is a file without faults and unknown keys, and over the defaults of the middleware its
-- settings are this configuration
abbrev pub ReadsBack : Config → List ℕ → Type 0
ReadsBack config bytes =
    (file : Members) × (parse_document bytes ≡ Some file) × HasNoFault file
    × ((default : Config) → IsDefaultConfig default → IsSettingsOf default file config)
    × ((c : Config) → unknown_in c file ≡ [])

-- the contents of a file are this configuration and nothing else
pub record AreConfig (config : Config) (contents : FileContents) : Type 0 where
  pub back : Config
  pub read : contents.config ≡ Some back
  pub same : AreSame back config
  pub allowed : contents.faults.items ≡ []
  pub known : contents.unknown.items ≡ []

-- memory was refused
abbrev pub IsNoMemory : ConfigFileError → Type 0
IsNoMemory (error.NoMemory e) = ⊤
IsNoMemory _ = ⊥

-- a text is a path, or the name of a file
abbrev pub IsLegal : Kind → SettingValue → Type 0
IsLegal kind.Path (text s) = IsTextUpTo 255 s
IsLegal kind.FileName (text s) = IsAllowed IsPlain 255 s
IsLegal _ _ = ⊤

-- all texts among some settings are
abbrev pub AreLegal : List Setting → Type 0
AreLegal [] = ⊤
AreLegal (x ∷ xs) = IsLegal x.kind x.value × AreLegal xs

-- a configuration with the times of another one
abbrev pub with_times_of : Config → Config → Config
with_times_of other c = record c {
  global = record c.global { creation_timeout = other.global.creation_timeout };
  defaults = record c.defaults {
    event = record c.defaults.event { deadline = other.defaults.event.deadline };
  };
}

-- how long one who opens a thing waits, and how long an event may be late, in nanoseconds
abbrev pub timeout_nanos : Config → ℕ
timeout_nanos c = as_nanos c.global.creation_timeout

abbrev pub deadline_nanos : Config → Option ℕ
deadline_nanos c = option_map as_nanos c.defaults.event.deadline

-- all fields are equal, durations by their nanoseconds
pub record HaveEqualFields (one other : Config) : Type 0 where
  pub timeout : timeout_nanos one ≡ timeout_nanos other
  pub deadline : deadline_nanos one ≡ deadline_nanos other
  pub others : with_times_of other one ≡ other

-- what is equal in each row of the table of settings is equal in all fields
abbrev pub TableIsComplete : Type 0
TableIsComplete = (one other : Config) → AreSame one other → HaveEqualFields one other
