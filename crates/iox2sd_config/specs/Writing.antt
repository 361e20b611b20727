-- Settings that a caller filled, as the text of a file.
use Rattle.std.specs.Prelude.{◌≡◌, ◌⊎◌, ⊤, ℕ, Bool, if◌then◌else◌, nat_lt, List, [], ◌∷◌, length, take, replicate, Result, Ok, Err, IfOk, String, string_bytes}
use Rattle.iox2sd_config.specs.Prelude.{GlobalSettings, Config, ReadsBack, Writes, fit_status, code, Status, PlainConfig, PlainText, PlainTexts}
use lib.Chars.{codes}
use Rattle.std.specs.declared.alloc.Global.{Global}
use Rattle.iox2_config.specs.declared.config.defaults.Defaults.{Defaults}
use Rattle.iox2_config.specs.declared.config.global.Node.{Node}
use Rattle.iox2_config.specs.declared.config.global.Service.{Service}
use Rattle.iox2_config_file.specs.Write.{Writes as WritesFile}
use Rattle.iox2_config_file.specs.declared.write.ConfigWriteError.{ConfigWriteError}
use Rattle.iox2_config_file.specs.declared.write.ConfigWriteError.TheVariants.{OutOfRange, NoMemory}
use Rattle.iox2_texts.specs.Name.{IsAllowed}
use Rattle.iox2_texts.specs.Path.{IsPlain}
use Rattle.iox2sd_common.specs.declared.status.Status.TheVariants as status
use Rattle.iox2sd_config.specs.Faults.{key_path, cut_key}
use Rattle.iox2sd_config.specs.declared.write.BadText.{BadText}
use Rattle.iox2sd_config.specs.declared.write.Unfit.{Unfit}
use Rattle.iox2sd_config.specs.declared.write.Unfit.TheVariants as unfit
use Rattle.iox2sd_config.specs.declared.write.WriteAnswer.{WriteAnswer}
use Rattle.iox2sd_common.specs.ReadSettings.{field_status, field_number, ReadsPublishSubscribe, ReadsEvent, ReadsRequestResponse, ReadsBlackboard, ReadsGlobal}
use Rattle.iox2sd_common.specs.declared.read_settings.Field.{Field}
use Rattle.iox2sd_common.specs.declared.settings.GlobalSettings.{GlobalSettings as PlainGlobal}

-- a path: at most 255 bytes from 1 to 127
unfoldable pub IsPath : List ℕ → Type 0
IsPath bytes = IsAllowed (λ b. ⊤) 255 bytes

-- the name of a file: such bytes, at least one and none a `/`, and neither `.` nor `..`
unfoldable pub IsFileName : List ℕ → Type 0
IsFileName bytes = IsAllowed IsPlain 255 bytes

-- the bytes of a text
abbrev pub bytes_of : PlainText → List ℕ
bytes_of text = take text.length text.bytes

-- a text, below the path of its key
abbrev pub Keyed : Type 0
Keyed = List ℕ × List ℕ

-- the status of a text that is refused: that it has too many bytes, or this one
abbrev pub bad_status : Status → List ℕ → Status
bad_status otherwise bytes = if nat_lt 255 (length bytes) then status.TooLong else otherwise

-- what is said of a text that is refused: why, and the path of its key
abbrev pub bad_view : BadText → Status × List ℕ
bad_view bad = (bad.status, bad.key.now)

abbrev pub bad_path : Keyed → Status × List ℕ
bad_path (key, bytes) = (bad_status status.BadPath bytes, key)

abbrev pub bad_name : Keyed → Status × List ℕ
bad_name (key, bytes) = (bad_status status.NoFileName bytes, key)

-- what is said of the first of the texts that is refused
unfoldable pub IsFirstBad : (List ℕ → Type 0) → (Keyed → Status × List ℕ) → List Keyed
    → Status × List ℕ → Type 0
IsFirstBad Is said [] bad = ⊥
IsFirstBad Is said (x ∷ xs) bad =
    ((¬ (Is x.1)) × (bad ≡ said x)) ⊎ (Is x.1 × IsFirstBad Is said xs bad)

-- the paths
abbrev pub paths_of : PlainTexts → List Keyed
paths_of t =
    (codes "global.root-path", bytes_of t.root_path)
    ∷ (codes "global.service.directory", bytes_of t.service_directory)
    ∷ (codes "global.node.directory", bytes_of t.node_directory) ∷ []

-- the ends of the names of services' files
abbrev pub service_names_of : PlainTexts → List Keyed
service_names_of t =
    (codes "global.service.data-segment-suffix", bytes_of t.data_segment_suffix)
    ∷ (codes "global.service.static-config-storage-suffix", bytes_of t.static_config_storage_suffix)
    ∷ (
      codes "global.service.dynamic-config-storage-suffix",
      bytes_of t.dynamic_config_storage_suffix,
    )
    ∷ (codes "global.service.connection-suffix", bytes_of t.connection_suffix)
    ∷ (codes "global.service.event-connection-suffix", bytes_of t.event_connection_suffix)
    ∷ (codes "global.service.blackboard-mgmt-suffix", bytes_of t.blackboard_mgmt_suffix)
    ∷ (codes "global.service.blackboard-data-suffix", bytes_of t.blackboard_data_suffix) ∷ []

-- the same of nodes' files
abbrev pub node_names_of : PlainTexts → List Keyed
node_names_of t =
    (codes "global.node.monitor-suffix", bytes_of t.monitor_suffix)
    ∷ (codes "global.node.static-config-suffix", bytes_of t.node_static_config_suffix)
    ∷ (codes "global.node.service-tag-suffix", bytes_of t.service_tag_suffix)
    ∷ (codes "global.node.port-tag-suffix", bytes_of t.port_tag_suffix)
    ∷ (codes "global.node.global-mgmt-suffix", bytes_of t.global_mgmt_suffix) ∷ []

-- all of the texts are such
abbrev pub AreAll : (List ℕ → Type 0) → List Keyed → Type 0
AreAll Is [] = ⊤
AreAll Is (x ∷ xs) = Is x.1 × AreAll Is xs

-- the paths are paths
abbrev pub HasPaths : PlainTexts → Type 0
HasPaths t = AreAll IsPath (paths_of t)

-- the ends of the names of services' files are names of files
abbrev pub HasServiceNames : PlainTexts → Type 0
HasServiceNames t = AreAll IsFileName (service_names_of t)

-- the same of nodes' files
abbrev pub HasNodeNames : PlainTexts → Type 0
HasNodeNames t = AreAll IsFileName (node_names_of t)

-- the same of all files, beside what their names begin with
abbrev pub HasNames : PlainTexts → Type 0
HasNames t = IsFileName (bytes_of t.prefix) × HasServiceNames t × HasNodeNames t

-- what is said of the first name that is refused: what names begin with is looked at first
abbrev pub IsFirstBadName : PlainTexts → Status × List ℕ → Type 0
IsFirstBadName t bad =
    ((¬ (IsFileName (bytes_of t.prefix)))
    × (bad ≡ bad_name (codes "global.prefix", bytes_of t.prefix)))
    ⊎ (IsFileName (bytes_of t.prefix) × IsFirstBad IsFileName bad_name (service_names_of t) bad)
    ⊎ (IsFileName (bytes_of t.prefix) × HasServiceNames t
    × IsFirstBad IsFileName bad_name (node_names_of t) bad)

-- settings with these ends of the names of services' files
abbrev pub with_service_names : PlainTexts → Service → Service
with_service_names t s = record s {
  data_segment_suffix = bytes_of t.data_segment_suffix;
  static_config_storage_suffix = bytes_of t.static_config_storage_suffix;
  dynamic_config_storage_suffix = bytes_of t.dynamic_config_storage_suffix;
  connection_suffix = bytes_of t.connection_suffix;
  event_connection_suffix = bytes_of t.event_connection_suffix;
  blackboard_mgmt_suffix = bytes_of t.blackboard_mgmt_suffix;
  blackboard_data_suffix = bytes_of t.blackboard_data_suffix;
}

-- the same of nodes' files
abbrev pub with_node_names : PlainTexts → Node → Node
with_node_names t n = record n {
  monitor_suffix = bytes_of t.monitor_suffix;
  static_config_suffix = bytes_of t.node_static_config_suffix;
  service_tag_suffix = bytes_of t.service_tag_suffix;
  port_tag_suffix = bytes_of t.port_tag_suffix;
  global_mgmt_suffix = bytes_of t.global_mgmt_suffix;
}

-- settings with these names
abbrev pub with_names : PlainTexts → GlobalSettings → GlobalSettings
with_names t g = record g {
  prefix = bytes_of t.prefix;
  service = with_service_names t g.service;
  node = with_node_names t g.node;
}

-- settings with these paths
abbrev pub with_paths : PlainTexts → GlobalSettings → GlobalSettings
with_paths t g = record g {
  root_path = bytes_of t.root_path;
  service = record g.service { directory = bytes_of t.service_directory };
  node = record g.node { directory = bytes_of t.node_directory };
}

-- settings with these flags
abbrev pub with_flags : PlainGlobal → GlobalSettings → GlobalSettings
with_flags s g = record g {
  service = record g.service { cleanup_dead_nodes_on_open = s.cleanup_dead_nodes_on_open };
  node = record g.node {
    cleanup_dead_nodes_on_creation = s.cleanup_dead_nodes_on_creation;
    cleanup_dead_nodes_on_destruction = s.cleanup_dead_nodes_on_destruction;
  };
}

-- the settings have these texts and flags
abbrev pub HasGiven : PlainConfig → GlobalSettings → Type 0
HasGiven given made =
    made ≡ with_flags given.global (with_names given.texts (with_paths given.texts made))

-- the settings of a system that were given, or what is not valid: paths are looked at first, then
-- names, and then the timeout
abbrev pub ReadsSystem : PlainConfig → Result GlobalSettings Unfit → Type 0
ReadsSystem given (Ok made) =
    HasPaths given.texts × HasNames given.texts
    × ReadsGlobal given.global (Ok made.creation_timeout) × HasGiven given made
ReadsSystem given (Err (unfit.Text bad)) =
    IsFirstBad IsPath bad_path (paths_of given.texts) (bad_view bad)
    ⊎ (HasPaths given.texts × IsFirstBadName given.texts (bad_view bad))
ReadsSystem given (Err (unfit.Field f)) =
    HasPaths given.texts × HasNames given.texts × ReadsGlobal given.global (Err f)

-- settings can be read
abbrev pub IsValid : {A : Type 0} → (Result A Field → Type 0) → Type 0
IsValid {A} Reads = (made : A) × Reads (Ok made)

-- the settings of services that were given, or the first field that is not valid
abbrev pub ReadsDefaults : PlainConfig → Result Defaults Field → Type 0
ReadsDefaults given (Ok made) =
    ReadsPublishSubscribe given.publish_subscribe (Ok made.publish_subscribe)
    × ReadsEvent given.event (Ok made.event)
    × ReadsRequestResponse given.request_response (Ok made.request_response)
    × ReadsBlackboard given.blackboard (Ok made.blackboard)
ReadsDefaults given (Err f) =
    ReadsPublishSubscribe given.publish_subscribe (Err f)
    ⊎ (IsValid (ReadsPublishSubscribe given.publish_subscribe) × ReadsEvent given.event (Err f))
    ⊎ (IsValid (ReadsPublishSubscribe given.publish_subscribe) × IsValid (ReadsEvent given.event)
    × ReadsRequestResponse given.request_response (Err f))

-- all settings that were given, or what is not valid: those of a system are looked at first
abbrev pub ReadsConfig : PlainConfig → Result Config Unfit → Type 0
ReadsConfig given (Ok made) =
    ReadsSystem given (Ok made.global) × ReadsDefaults given (Ok made.defaults)
ReadsConfig given (Err (unfit.Text bad)) = ReadsSystem given (Err (unfit.Text bad))
ReadsConfig given (Err (unfit.Field f)) =
    ReadsSystem given (Err (unfit.Field f))
    ⊎ ((system : GlobalSettings) × ReadsSystem given (Ok system) × ReadsDefaults given (Err f))

-- the answer of a status, of a text of so many bytes
abbrev pub written_answer : Status → ℕ → WriteAnswer
written_answer s n = record {
  status = code s;
  field = 0;
  length = n;
  key = replicate 80 0;
  key_length = 0;
}

-- the answer of a status on the value of a key
abbrev pub keyed_answer : Status → List ℕ → WriteAnswer
keyed_answer s path = record (written_answer s 0) {
  key = cut_key path;
  key_length = length path;
}

-- the answer on settings that are not valid
abbrev pub unfit_answer : Unfit → WriteAnswer
unfit_answer (unfit.Text bad) = keyed_answer bad.status bad.key.now
unfit_answer (unfit.Field f) =
    record (written_answer (field_status f) 0) { field = field_number f }

-- the text was written, or the answer tells why there is none and the buffer is as it was
abbrev pub ReportsWritten : Result (String Global) ConfigWriteError → List ℕ → WriteAnswer → List ℕ
    → Type 0
ReportsWritten (Ok text) old answer new =
    (fits : Bool) × Writes (string_bytes text) old fits new
    × (answer ≡ written_answer (fit_status fits) (length (string_bytes text)))
ReportsWritten (Err (OutOfRange misfit)) old answer new =
    (answer ≡ keyed_answer status.NoTomlInteger (key_path misfit.section misfit.key.now))
    × (new ≡ old)
ReportsWritten (Err NoMemory) old answer new =
    (answer ≡ written_answer status.NoMemory 0) × (new ≡ old)

-- the text of settings was written, of which these settings are read, or there is none
abbrev pub ReportsText : Config → List ℕ → WriteAnswer → List ℕ → Type 0
ReportsText config old answer new =
    (written : Result (String Global) ConfigWriteError) × WritesFile config written
    × IfOk written (λ text. ReadsBack config (string_bytes text))
    × ReportsWritten written old answer new

-- the same of settings, where they are valid
abbrev pub ReportsConfig : Result Config Unfit → List ℕ → WriteAnswer → List ℕ → Type 0
ReportsConfig (Ok config) old answer new = ReportsText config old answer new
ReportsConfig (Err u) old answer new = (answer ≡ unfit_answer u) × (new ≡ old)

-- of the first struct, where there is one
abbrev pub WritesConfig : List PlainConfig → List ℕ → WriteAnswer → List ℕ → Type 0
WritesConfig [] old answer new = (answer ≡ written_answer status.Null 0) × (new ≡ old)
WritesConfig (given ∷ others) old answer new =
    (read : Result Config Unfit) × ReadsConfig given read × ReportsConfig read old answer new
