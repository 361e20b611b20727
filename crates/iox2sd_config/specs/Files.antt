-- All settings as one plain value, and the text of a file of settings: its settings, or what is
-- wrong with it.
use Rattle.std.specs.Prelude.{ℕ, List, length, ◌≡◌, ◌⊎◌, Bool, [], ◌∷◌, map, Option, Some, None}
use Rattle.iox2sd_config.specs.Prelude.{GlobalSettings, Config, ReadsAll, zero_padded, count_answer, fit_status, Writes, code, Status, PlainConfig, PlainText, PlainTexts, IsInOrder, IsText, IsUnread, Unread, FileContents, fault_view, PlainFault}
use Rattle.iox2sd_common.specs.Settings.{c_global, c_publish_subscribe, c_event, c_request_response, c_blackboard}
use Rattle.iox2_config_file.specs.declared.fault.SettingFault.{SettingFault}
use Rattle.iox2sd_common.specs.declared.answers.CountAnswer.{CountAnswer}
use Rattle.iox2sd_common.specs.declared.status.Status.TheVariants as status
use Rattle.iox2sd_config.specs.Faults.{no_position, worded, c_fault, c_unread, unread_status, sort_key_at}
use Rattle.iox2sd_config.specs.declared.read.ConfigAnswer.{ConfigAnswer}

-- a text with its length
abbrev pub c_text : List ℕ → PlainText
c_text text = record { bytes = zero_padded 256 text; length = length text }

-- the texts of a system's settings
abbrev pub c_texts : GlobalSettings → PlainTexts
c_texts g = record {
  root_path = c_text g.root_path;
  prefix = c_text g.prefix;
  service_directory = c_text g.service.directory;
  data_segment_suffix = c_text g.service.data_segment_suffix;
  static_config_storage_suffix = c_text g.service.static_config_storage_suffix;
  dynamic_config_storage_suffix = c_text g.service.dynamic_config_storage_suffix;
  connection_suffix = c_text g.service.connection_suffix;
  event_connection_suffix = c_text g.service.event_connection_suffix;
  blackboard_mgmt_suffix = c_text g.service.blackboard_mgmt_suffix;
  blackboard_data_suffix = c_text g.service.blackboard_data_suffix;
  node_directory = c_text g.node.directory;
  monitor_suffix = c_text g.node.monitor_suffix;
  node_static_config_suffix = c_text g.node.static_config_suffix;
  service_tag_suffix = c_text g.node.service_tag_suffix;
  port_tag_suffix = c_text g.node.port_tag_suffix;
  global_mgmt_suffix = c_text g.node.global_mgmt_suffix;
}

-- all settings of a configuration
abbrev pub c_config : Config → PlainConfig
c_config c = record {
  global = c_global c.global;
  texts = c_texts c.global;
  publish_subscribe = c_publish_subscribe c.defaults.publish_subscribe;
  event = c_event c.defaults.event;
  request_response = c_request_response c.defaults.request_response;
  blackboard = c_blackboard c.defaults.blackboard;
}

-- where a fault stands among others
abbrev pub fault_sort_key : PlainFault → ℕ × ℕ
fault_sort_key f = sort_key_at f.line f.column

-- these are some faults of a file as plain values, in the order of the file
abbrev pub ListsFaults : List ℕ → List SettingFault → List PlainFault → Type 0
ListsFaults bytes faults listed =
    IsInOrder fault_sort_key (map (c_fault bytes) (map fault_view faults)) listed

-- the settings were read, beside so many unknown keys; nothing is said of a fault
abbrev pub read_answer : ℕ → ConfigAnswer
read_answer n = record { status = code status.Done; unknown = n; fault = worded status.Done [] }

-- no settings were read
abbrev pub refused_answer : PlainFault → ConfigAnswer
refused_answer fault = record { status = fault.status; unknown = 0; fault = fault }

-- no settings were read for this cause, and the struct is as it was
abbrev pub Keeps : PlainFault → PlainConfig → ConfigAnswer → PlainConfig → Type 0
Keeps fault old answer new = (answer ≡ refused_answer fault) × (new ≡ old)

-- the first of some faults of a file, in its order, or that there was no memory to find it
abbrev pub ReportsFirst : List ℕ → List SettingFault → PlainFault → Type 0
ReportsFirst bytes faults first =
    ((more : List PlainFault) × ListsFaults bytes faults (first ∷ more))
    ⊎ (first ≡ no_position status.NoMemory)

-- where a file has settings, they are those of this struct; else its first fault is returned
abbrev pub Settles : List ℕ → FileContents → Option Config → PlainConfig → ConfigAnswer
    → PlainConfig → Type 0
Settles bytes contents (Some config) old answer new =
    (new ≡ c_config config) × (answer ≡ read_answer (length contents.unknown.items))
Settles bytes contents None old answer new =
    (first : PlainFault) × ReportsFirst bytes contents.faults.items first
    × Keeps first old answer new

-- what is said of what a file has, or of why the bytes are none
abbrev pub OfFile : List ℕ → (FileContents → Type 0) → (Unread → Type 0) → Type 0
OfFile bytes Says Refuses =
    (IsText bytes × (contents : FileContents) × ReadsAll bytes contents × Says contents)
    ⊎ ((unread : Unread) × IsUnread bytes unread × Refuses unread)

-- the settings of the file are those of this struct, or it is as it was
abbrev pub ReadsInto : List ℕ → PlainConfig → ConfigAnswer → PlainConfig → Type 0
ReadsInto bytes old answer new =
    OfFile bytes (λ file. Settles bytes file file.config old answer new)
    (λ unread. Keeps (c_unread unread) old answer new)

-- the same of the first struct, where there is one
abbrev pub Answers : List ℕ → List PlainConfig → ConfigAnswer → List PlainConfig → Type 0
Answers bytes [] answer new = (answer ≡ refused_answer (no_position status.Null)) × (new ≡ [])
Answers bytes (old ∷ rest) answer after =
    (new : PlainConfig) × ReadsInto bytes old answer new × (after ≡ new ∷ rest)

-- these faults stand at the front of the array, or they do not fit there and it is as it was
abbrev pub PutsFaults : List PlainFault → List PlainFault → CountAnswer → List PlainFault → Type 0
PutsFaults listed old answer new =
    (fits : Bool) × Writes listed old fits new
    × (answer ≡ count_answer (fit_status fits) (length listed))

-- this status refuses, and the array is as it was
abbrev pub RefusesCount : Status → List PlainFault → CountAnswer → List PlainFault → Type 0
RefusesCount s old answer new = (answer ≡ count_answer s 0) × (new ≡ old)

-- some faults of a text are put in its order, or there was no memory
abbrev pub PutsListed : List ℕ → List SettingFault → List PlainFault → CountAnswer
    → List PlainFault → Type 0
PutsListed bytes faults old answer new =
    ((listed : List PlainFault) × ListsFaults bytes faults listed
    × PutsFaults listed old answer new)
    ⊎ RefusesCount status.NoMemory old answer new

-- all faults of a file are listed, or it is none, or there was no memory
abbrev pub ReportsFile : List ℕ → List PlainFault → CountAnswer → List PlainFault → Type 0
ReportsFile bytes old answer new =
    OfFile bytes (λ file. PutsListed bytes file.faults.items old answer new)
    (λ unread. RefusesCount (unread_status unread) old answer new)
