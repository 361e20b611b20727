-- The text of settings, and of what follows from them.
use Rattle.std.specs.Prelude.{◌≡◌, ℕ, Bool, true, false, not, bytes_eq, nat_eq, List, [], ◌∷◌, ◌++◌, replicate, ◌-◌, ◌^◌, codes, flat_map, if◌then◌else◌, Option, Some, None}
use Rattle.config_report.specs.Prelude.{Config, Section, Setting, prefix_of, settings_in, SettingValue, concat, Defaults, decimal, padded, format_spec, IsDefaultConfig, Service, sections, value_text, value_view}
use Rattle.iox2_config.specs.declared.config.choices.AllocationStrategy.TheVariants.{BestFit, PowerOfTwo, Static}
use Rattle.iox2_config.specs.declared.config.choices.BackpressureStrategy.TheVariants.{RetryUntilDelivered, DiscardData}
use Rattle.iox2_static.specs.PublishSubscribe.{publish_subscribe_of, sample_limits}
use Rattle.iox2_static.specs.RequestResponse.{request_response_of, client_limits, server_limits}
use Rattle.iox2_config.specs.declared.config.global.Node.{Node}
use Rattle.iox2_static.specs.Chunks.{ReportsGreatest}
use Rattle.iox2_texts.specs.Path.{join}
use Rattle.config_report.specs.Contradictions.{is_long_path}
use Rattle.config_report.specs.Printable.{printable_line}
use Rattle.config_report.specs.declared.text.FileKind.{FileKind}
use Rattle.config_report.specs.declared.text.ValuePair.{ValuePair as HeldPair}
use Rattle.iox2_config_file.specs.Values as values

-- the values are equal
abbrev pub is_same : SettingValue → SettingValue → Bool
is_same (values.number n) (values.number m) = nat_eq n m
is_same (values.flag true) (values.flag b) = b
is_same (values.flag false) (values.flag b) = not b
is_same (values.text s) (values.text t) = bytes_eq s t
is_same (values.backpressure RetryUntilDelivered) (values.backpressure RetryUntilDelivered) = true
is_same (values.backpressure DiscardData) (values.backpressure DiscardData) = true
is_same (values.allocation BestFit) (values.allocation BestFit) = true
is_same (values.allocation PowerOfTwo) (values.allocation PowerOfTwo) = true
is_same (values.allocation Static) (values.allocation Static) = true
is_same (values.duration n) (values.duration m) = nat_eq n m
is_same values.absent values.absent = true
is_same values.settings values.settings = true
is_same _ _ = false

-- a setting in two configurations: its key, its value, and that in the other one
pub record ValuePair : Type 0 where
  pub key : List ℕ
  pub value : SettingValue
  pub other : SettingValue

-- the same, as the code holds it
abbrev pub value_pair : HeldPair → ValuePair
value_pair p = record { key = p.key.now; value = value_view p.value; other = value_view p.other }

-- settings beside those of another configuration
abbrev pub paired : List Setting → List Setting → List ValuePair
paired (x ∷ xs) (y ∷ ys) =
    record { key = x.key; value = x.value; other = y.value } ∷ paired xs ys
paired _ _ = []

-- the settings of a table in two configurations
abbrev pub value_pairs : Config → Config → Section → List ValuePair
value_pairs one other s = paired (settings_in s one) (settings_in s other)

-- the limits on the samples of a publisher
abbrev pub sample_limits_of : Defaults → List ℕ
sample_limits_of d =
    sample_limits
    (publish_subscribe_of d.publish_subscribe) d.publish_subscribe.publisher_max_loaned_samples

-- the limits on the requests of a client
abbrev pub request_limits_of : Defaults → List ℕ
request_limits_of d =
    client_limits (request_response_of d.request_response) d.request_response.max_loaned_requests

-- the limits on the responses of a server
abbrev pub response_limits_of : Defaults → List ℕ
response_limits_of d =
    server_limits
    (request_response_of d.request_response)
    d.request_response.server_max_loaned_responses_per_request

-- the limits of all of some ports, of which each has the same ones
abbrev pub all_limits : ℕ → List ℕ → List ℕ
all_limits ports limits = concat (replicate ports limits)

-- what is said of a setting: its path and its value, and exactly where its value differs from the
-- default a mark and the default
unfoldable pub setting_text : Section → ValuePair → List ℕ
setting_text s p =
    if is_same p.value p.other
    then codes "  " ++ (prefix_of s ++ (p.key ++ (codes " = " ++ value_text p.value)))
    else codes "! " ++ (prefix_of s ++ (p.key ++ (codes " = " ++ (value_text p.value
    ++ (codes ", by default " ++ value_text p.other)))))

-- its line
unfoldable pub setting_line : Section → ValuePair → List ℕ
setting_line s p = printable_line (setting_text s p)

-- a name, filled with spaces to 22 characters
abbrev pub padded_name : List ℕ → List ℕ
padded_name name = padded (format_spec 32 1 0 22 (2 ^ 64 - 1)) name

-- the same, and what stands beside it, as a line
abbrev pub named_line : List ℕ → List ℕ → List ℕ
named_line name text =
    printable_line (codes "  " ++ (padded_name name ++ (codes " " ++ text)))

-- the path of an entry of the root path, where a path may be as long
abbrev pub directory_text : List ℕ → List ℕ → List ℕ
directory_text root entry =
    if is_long_path root entry
    then codes "none: its path would have more than 255 bytes"
    else join root entry

-- the directories of a configuration
abbrev pub directories_text : Config → List ℕ
directories_text c =
    let root = c.global.root_path in
    codes "\ndirectories\n"
    ++ (named_line (codes "root") root
    ++ (named_line (codes "services") (directory_text root c.global.service.directory)
    ++ named_line (codes "nodes") (directory_text root c.global.node.directory)))

-- what files are, and how their names end
abbrev pub kind_view : FileKind → List ℕ × List ℕ
kind_view f = (f.name.now, f.suffix.now)

-- the kinds of services' and of nodes' files
abbrev pub kinds_of : Service → Node → List (List ℕ × List ℕ)
kinds_of service node =
    (codes "static configuration", service.static_config_storage_suffix)
    ∷ (codes "dynamic configuration", service.dynamic_config_storage_suffix)
    ∷ (codes "data segments", service.data_segment_suffix)
    ∷ (codes "connections", service.connection_suffix)
    ∷ (codes "event connections", service.event_connection_suffix)
    ∷ (codes "blackboard management", service.blackboard_mgmt_suffix)
    ∷ (codes "blackboard data", service.blackboard_data_suffix)
    ∷ (codes "node monitors", node.monitor_suffix)
    ∷ (codes "node details", node.static_config_suffix)
    ∷ (codes "service tags", node.service_tag_suffix)
    ∷ (codes "port tags", node.port_tag_suffix)
    ∷ (codes "global management", node.global_mgmt_suffix)
    ∷ []

-- the line of a kind of files: how their names begin and end
abbrev pub file_line : List ℕ → List ℕ × List ℕ → List ℕ
file_line prefix file = named_line file.0 (prefix ++ (codes "*" ++ file.1))

-- the files of a configuration, a line for each kind
abbrev pub files_text : Config → List ℕ
files_text c =
    codes "\nfiles, with * for what the configuration does not fix\n"
    ++ flat_map (file_line c.global.prefix) (kinds_of c.global.service c.global.node)

-- how many chunks a port needs, where 64 bits have the number
abbrev pub need_text : Option ℕ → List ℕ
need_text (Some n) = decimal n
need_text None = codes "more than 18446744073709551615"

-- the line of a kind of ports: how many chunks one needs, and so many of them together
abbrev pub need_line : List ℕ → Option ℕ → ℕ → Option ℕ → List ℕ
need_line port one ports all =
    codes "  " ++ (padded_name port ++ (codes " " ++ (need_text one ++ (codes ", all "
    ++ (decimal ports ++ (codes " together " ++ (need_text all ++ codes "\n")))))))

-- the numbers are the greatest that can be in use at once, by the limits of one port
abbrev pub IsNeedLine : List ℕ → List ℕ → ℕ → List ℕ → Type 0
IsNeedLine port limits ports line =
    (one : Option ℕ) × (all : Option ℕ) × ReportsGreatest limits one
    × ReportsGreatest (all_limits ports limits) all × (line ≡ need_line port one ports all)

-- how many chunks the ports of each kind need
abbrev pub IsNeedsText : Defaults → List ℕ → Type 0
IsNeedsText d text =
    (publishers : List ℕ) × (clients : List ℕ) × (servers : List ℕ)
    × IsNeedLine (codes "publisher") (sample_limits_of d) d.publish_subscribe.max_publishers
    publishers
    × IsNeedLine (codes "client") (request_limits_of d) d.request_response.max_clients clients
    × IsNeedLine (codes "server") (response_limits_of d) d.request_response.max_servers servers
    × (text
    ≡ codes "\nchunks that a port needs at these limits, and all ports of its kind\n"
    ++ (publishers ++ (clients ++ (servers
    ++ codes "  event, blackboard      none: their ports send no messages\n"))))

-- the settings of a table, each beside its default where it differs from that
unfoldable pub table_lines : Config → Config → Section → List ℕ
table_lines default config s = flat_map (setting_line s) (value_pairs config default s)

-- all settings
abbrev pub settings_text : Config → Config → List ℕ
settings_text default config =
    codes "settings, with ! where they differ from the defaults\n"
    ++ flat_map (table_lines default config) sections

-- all settings, and the directories, the files and the chunks that follow
abbrev pub IsReportOver : Config → Config → List ℕ → Type 0
IsReportOver default config text =
    (needs : List ℕ) × IsNeedsText config.defaults needs
    × (text
    ≡ settings_text default config ++ (directories_text config ++ (files_text config ++ needs)))

-- the same, beside the defaults of the middleware
abbrev pub IsReportText : Config → List ℕ → Type 0
IsReportText config text =
    (default : Config) × IsDefaultConfig default × IsReportOver default config text
