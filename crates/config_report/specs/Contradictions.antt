-- Which settings of a configuration contradict each other, and what is said of them.
use Rattle.std.specs.Prelude.{ℕ, ◌+◌, Bool, true, false, not, ◌&&◌, ◌||◌, nat_eq, nat_lt, if◌then◌else◌, List, [], ◌∷◌, ◌++◌, codes, length, map, flat_map, Option, Some, None}
use Rattle.config_report.specs.Prelude.{bytes_eq, Config, Defaults, Service, prefix_of, table_path, SettingValue, number, text, value_text, value_view, Section, Warning, Position}
use Rattle.std.specs.List.{list_any}
use Rattle.iox2_config.specs.GlobalSettings.{GlobalSettings}
use Rattle.iox2_config.specs.declared.config.global.Node.{Node}
use Rattle.iox2_config.specs.declared.config.defaults.Event.{Event}
use Rattle.iox2_config.specs.declared.config.defaults.PublishSubscribe.{PublishSubscribe}
use Rattle.config_report.specs.Notes.{Note, note, position_for}
use Rattle.config_report.specs.declared.contradiction.Contradiction.{Contradiction as Held}
use Rattle.config_report.specs.declared.contradiction.Effect.{Effect}
use Rattle.config_report.specs.declared.contradiction.Effect.TheVariants.{UnsentEvent, ManyRoots, SameNames, LongNames, LongPath, SmallBuffer, UselessLimit, ControlCharacter}
use Rattle.config_report.specs.declared.contradiction.Side.{Side as HeldSide}
use Rattle.config_report.specs.declared.contradictions.Candidate.{Candidate}
use Rattle.config_report.specs.declared.contradictions.Suffix.{Suffix}
use Rattle.iox2_config_file.specs.declared.section.Section.TheVariants as section
use Rattle.iox2_texts.specs.Path.{join}

-- a setting: its table, its key and its value
abbrev pub Side : Type 0
Side = Section × List ℕ × SettingValue

-- a setting that contradicts itself or another one, and what that leads to
pub record Contradiction : Type 0 where
  pub one : Side
  pub other : Option Side
  pub effect : Effect

-- the same, as the code holds it
abbrev pub side_view : HeldSide → Side
side_view s = (s.section, s.key.now, value_view s.value)

abbrev pub other_view : Option HeldSide → Option Side
other_view None = None
other_view (Some s) = Some (side_view s)

abbrev pub contradiction_view : Held → Contradiction
contradiction_view c = record {
  one = side_view c.one;
  other = other_view c.other;
  effect = c.effect;
}

-- a contradiction exactly where this holds
abbrev pub where_so : Bool → Side → Option Side → Effect → List Contradiction
where_so holds one other effect =
    if holds then record { one = one; other = other; effect = effect } ∷ [] else []

-- the same of a candidate
abbrev pub candidate_view : Candidate → List Contradiction
candidate_view c =
    where_so c.holds (side_view c.found.one) (other_view c.found.other) c.found.effect

-- the path does not begin with `/`
abbrev pub is_relative : List ℕ → Bool
is_relative [] = true
is_relative (b ∷ bs) = not (nat_eq b 47)

-- the root path is another one in each working directory
abbrev pub root_contradictions : GlobalSettings → List Contradiction
root_contradictions g =
    where_so (is_relative g.root_path) (section.Global, codes "root-path", text g.root_path) None
    ManyRoots

-- how the names of services' files end, by the key that says it
abbrev pub suffixes_of : Service → List (List ℕ × List ℕ)
suffixes_of s =
    (codes "data-segment-suffix", s.data_segment_suffix)
    ∷ (codes "static-config-storage-suffix", s.static_config_storage_suffix)
    ∷ (codes "dynamic-config-storage-suffix", s.dynamic_config_storage_suffix)
    ∷ (codes "connection-suffix", s.connection_suffix)
    ∷ (codes "event-connection-suffix", s.event_connection_suffix)
    ∷ (codes "blackboard-mgmt-suffix", s.blackboard_mgmt_suffix)
    ∷ (codes "blackboard-data-suffix", s.blackboard_data_suffix)
    ∷ []

abbrev pub suffix_view : Suffix → List ℕ × List ℕ
suffix_view s = (s.key.now, s.suffix.now)

abbrev pub suffix_side : List ℕ × List ℕ → Side
suffix_side s = (section.Service, s.0, text s.1)

-- two kinds of services' files have one suffix
abbrev pub same_suffix : List ℕ × List ℕ → List ℕ × List ℕ → List Contradiction
same_suffix a b =
    where_so (bytes_eq a.1 b.1) (suffix_side a) (Some (suffix_side b)) SameNames

-- each two of some kinds, in their order
abbrev pub suffix_contradictions : List (List ℕ × List ℕ) → List Contradiction
suffix_contradictions [] = []
suffix_contradictions (s ∷ ss) = flat_map (same_suffix s) ss ++ suffix_contradictions ss

-- prefix, hash text and suffix have more than 255 bytes: SHA-1 gives a hash text of 27 bytes
-- (`sha1_texts_are_file_names` of `iox2_config`)
abbrev pub is_long : List ℕ → List ℕ → Bool
is_long prefix suffix = nat_lt 255 (length prefix + 27 + length suffix)

abbrev pub long_name : List ℕ → List ℕ × List ℕ → List Contradiction
long_name prefix s =
    where_so (is_long prefix s.1) (suffix_side s)
    (Some (section.Global, codes "prefix", text prefix)) LongNames

-- the path of an entry of the root path has more than 255 bytes
abbrev pub is_long_path : List ℕ → List ℕ → Bool
is_long_path root entry = nat_lt 255 (length (join root entry))

-- a directory below the root path whose path would be too long
abbrev pub long_directory : List ℕ → Section → List ℕ → List Contradiction
long_directory root s entry =
    where_so (is_long_path root entry) (s, codes "directory", text entry)
    (Some (section.Global, codes "root-path", text root)) LongPath

-- the directories of services and of nodes
abbrev pub directory_contradictions : GlobalSettings → List Contradiction
directory_contradictions g =
    long_directory g.root_path section.Service g.service.directory
    ++ long_directory g.root_path section.Node g.node.directory

-- a byte of the text is a control character
abbrev pub has_control : List ℕ → Bool
has_control bytes = list_any (λ b. nat_lt b 32 || nat_eq b 127) bytes

-- the paths and the names of a system, of services and of nodes, by their tables and keys
abbrev pub global_texts : GlobalSettings → List (Section × List ℕ × List ℕ)
global_texts g =
    (section.Global, codes "root-path", g.root_path)
    ∷ (section.Global, codes "prefix", g.prefix)
    ∷ []

abbrev pub service_texts : Service → List (Section × List ℕ × List ℕ)
service_texts s =
    (section.Service, codes "directory", s.directory)
    ∷ map (λ x. (section.Service, x.0, x.1)) (suffixes_of s)

abbrev pub node_texts : Node → List (Section × List ℕ × List ℕ)
node_texts n =
    (section.Node, codes "directory", n.directory)
    ∷ (section.Node, codes "monitor-suffix", n.monitor_suffix)
    ∷ (section.Node, codes "static-config-suffix", n.static_config_suffix)
    ∷ (section.Node, codes "service-tag-suffix", n.service_tag_suffix)
    ∷ (section.Node, codes "port-tag-suffix", n.port_tag_suffix)
    ∷ (section.Node, codes "global-mgmt-suffix", n.global_mgmt_suffix)
    ∷ []

-- the text has a control character
abbrev pub control_text : Section × List ℕ × List ℕ → List Contradiction
control_text (s, key, value) =
    where_so (has_control value) (s, key, text value) None ControlCharacter

-- those of them that have one
abbrev pub control_contradictions : GlobalSettings → List Contradiction
control_contradictions g =
    flat_map control_text (global_texts g)
    ++ (flat_map control_text (service_texts g.service)
    ++ flat_map control_text (node_texts g.node))

-- the history is larger than a subscriber's buffer, which may not overflow
abbrev pub has_small_buffer : PublishSubscribe → Bool
has_small_buffer p =
    not p.enable_safe_overflow && nat_lt p.subscriber_max_buffer_size p.publisher_history_size

abbrev pub history_contradictions : PublishSubscribe → List Contradiction
history_contradictions p =
    where_so (has_small_buffer p)
    (section.PublishSubscribe, codes "publisher-history-size", number p.publisher_history_size)
    (Some (
      section.PublishSubscribe,
      codes "subscriber-max-buffer-size",
      number p.subscriber_max_buffer_size,
    ))
    SmallBuffer

-- the event is set, and is above the greatest one
abbrev pub unsent_event : ℕ → List ℕ × Option ℕ → List Contradiction
unsent_event greatest (key, None) = []
unsent_event greatest (key, Some n) =
    where_so (nat_lt greatest n) (section.Event, key, number n)
    (Some (section.Event, codes "event-id-max-value", number greatest)) UnsentEvent

-- the events that report what happens to a notifier
abbrev pub event_contradictions : Event → List Contradiction
event_contradictions e =
    flat_map (unsent_event e.event_id_max_value) (
    (codes "notifier-created-event", e.notifier_created_event)
    ∷ (codes "notifier-dropped-event", e.notifier_dropped_event)
    ∷ (codes "notifier-dead-event", e.notifier_dead_event)
    ∷ []
    )

-- the limits that must not be 0, by their tables and keys
abbrev pub limits_of : Defaults → List (Section × List ℕ × ℕ)
limits_of d =
    (section.PublishSubscribe, codes "max-subscribers", d.publish_subscribe.max_subscribers)
    ∷ (section.PublishSubscribe, codes "max-publishers", d.publish_subscribe.max_publishers)
    ∷ (section.PublishSubscribe, codes "max-nodes", d.publish_subscribe.max_nodes)
    ∷ (
      section.PublishSubscribe,
      codes "subscriber-max-buffer-size",
      d.publish_subscribe.subscriber_max_buffer_size,
    )
    ∷ (
      section.PublishSubscribe,
      codes "subscriber-max-borrowed-samples",
      d.publish_subscribe.subscriber_max_borrowed_samples,
    )
    ∷ (
      section.PublishSubscribe,
      codes "publisher-max-loaned-samples",
      d.publish_subscribe.publisher_max_loaned_samples,
    )
    ∷ (section.Event, codes "max-listeners", d.event.max_listeners)
    ∷ (section.Event, codes "max-notifiers", d.event.max_notifiers)
    ∷ (section.Event, codes "max-nodes", d.event.max_nodes)
    ∷ (
      section.RequestResponse,
      codes "max-active-requests-per-client",
      d.request_response.max_active_requests_per_client,
    )
    ∷ (section.RequestResponse, codes "max-servers", d.request_response.max_servers)
    ∷ (section.RequestResponse, codes "max-clients", d.request_response.max_clients)
    ∷ (section.RequestResponse, codes "max-nodes", d.request_response.max_nodes)
    ∷ (section.RequestResponse, codes "max-loaned-requests", d.request_response.max_loaned_requests)
    ∷ (section.Blackboard, codes "max-readers", d.blackboard.max_readers)
    ∷ (section.Blackboard, codes "max-nodes", d.blackboard.max_nodes)
    ∷ []

-- the limit is 0
abbrev pub useless_limit : Section × List ℕ × ℕ → List Contradiction
useless_limit (s, key, value) = where_so (nat_eq value 0) (s, key, number value) None UselessLimit

-- the settings of a system that contradict each other
abbrev pub global_contradictions : GlobalSettings → List Contradiction
global_contradictions g =
    root_contradictions g
    ++ (suffix_contradictions (suffixes_of g.service)
    ++ (flat_map (long_name g.prefix) (suffixes_of g.service)
    ++ (directory_contradictions g ++ control_contradictions g)))

-- the settings of services that contradict each other
abbrev pub default_contradictions : Defaults → List Contradiction
default_contradictions d =
    history_contradictions d.publish_subscribe
    ++ (event_contradictions d.event ++ flat_map useless_limit (limits_of d))

-- all settings of a configuration that contradict each other; a file with faults has none
abbrev pub contradictions_in : Option Config → List Contradiction
contradictions_in None = []
contradictions_in (Some c) = global_contradictions c.global ++ default_contradictions c.defaults

-- what it leads to, in words
abbrev pub effect_text : Effect → List ℕ
effect_text UnsentEvent = codes "an event above the greatest one is never sent"
effect_text ManyRoots =
    codes "a path that does not begin with / is another one in each working directory"
effect_text SameNames = codes "files of both kinds cannot be distinguished by their names"
effect_text LongNames =
    codes "with a hash text of 27 bytes between them, names of files have more than 255 bytes"
effect_text LongPath =
    codes "joined they have more than 255 bytes, and the middleware panics as it joins them"
effect_text SmallBuffer =
    codes "without safe overflow a buffer must hold the whole history"
effect_text UselessLimit = codes "a limit of 0 allows none"
effect_text ControlCharacter = codes "it has a control character"

-- what is said of one setting beside the other, if there is one
abbrev pub beside_text : Side → Option Side → Effect → List ℕ
beside_text one None effect =
    codes "is " ++ (value_text one.2 ++ (codes ": " ++ effect_text effect))
beside_text one (Some other) effect =
    codes "is " ++ (value_text one.2 ++ (codes ", and " ++ (prefix_of other.0 ++ (other.1
    ++ (codes " is " ++ (value_text other.2 ++ (codes ": " ++ effect_text effect)))))))

-- the same at a position
abbrev pub side_note : Option Position → Side → Option Side → Effect → Note
side_note at one other effect =
    note at Warning (Some (prefix_of one.0 ++ one.1)) (beside_text one other effect)

-- the second position is in the file, and the first is not, or stands before it
abbrev pub is_later : Option Position → Option Position → Bool
is_later p None = false
is_later None (Some q) = true
is_later (Some p) (Some q) =
    nat_lt p.line q.line || (nat_eq p.line q.line && nat_lt p.column q.column)

-- of two settings, it is said of the one that stands later in the file
abbrev pub later_note : Option Position → Option Position → Side → Side → Effect → Note
later_note p q one other effect =
    if is_later p q then side_note q other (Some one) effect
    else side_note p one (Some other) effect

-- the position of a setting's key
abbrev pub side_position : List ℕ → Side → Option Position
side_position bytes s = position_for bytes (table_path s.0 ++ s.1 ∷ [])

-- what is said of a contradiction in a file
abbrev pub positioned_note : List ℕ → Side → Option Side → Effect → Note
positioned_note bytes one None effect = side_note (side_position bytes one) one None effect
positioned_note bytes one (Some other) effect =
    later_note (side_position bytes one) (side_position bytes other) one other effect

abbrev pub contradiction_note : List ℕ → Contradiction → Note
contradiction_note bytes c = positioned_note bytes c.one c.other c.effect
