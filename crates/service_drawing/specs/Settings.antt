-- The settings of services, by their numbers.
use Rattle.std.specs.Prelude.{◌≡◌, ◌≢◌, ◌==◌, ◌⊎◌, ℕ, List, [], ◌∷◌, ◌++◌, Bool, codes, cond, map, nat_eq, ◌<◌, ◌^◌, length, Some, None, IfSome, true, false, slice_get, slice_index, slice_set}
use Rattle.std.specs.List.{before_first, IsDistinct}
use Rattle.std.specs.Fmt.{decimal}
use Rattle.std.specs.Duration.{as_nanos}
use Rattle.iox2_config.specs.Defaults.{default_publish_subscribe, default_event, default_request_response, default_blackboard}
use Rattle.iox2_config.specs.declared.config.Config.{Config}
use Rattle.iox2_config.specs.declared.config.defaults.Defaults.{Defaults}
use Rattle.iox2_config.specs.declared.config.choices.BackpressureStrategy.TheVariants.{RetryUntilDelivered, DiscardData}
use Rattle.iox2_config.specs.declared.config.choices.AllocationStrategy.TheVariants.{BestFit, PowerOfTwo, Static}
use Rattle.iox2_config.specs.declared.config.defaults.Event.{Event}
use Rattle.iox2_config.specs.declared.config.defaults.PublishSubscribe.{PublishSubscribe}
use Rattle.iox2_config.specs.declared.config.defaults.RequestResonse.{RequestResonse}
use Rattle.iox2_config.specs.declared.hash.input.PatternKind.{PatternKind}
use Rattle.iox2_config.specs.declared.hash.input.PatternKind.TheVariants as kind
use Rattle.iox2_config_file.specs.Settings.{Setting, publish_subscribe_settings, event_settings, request_response_settings, blackboard_settings}
use Rattle.service_drawing.specs.Lines.{HasMany}
use Rattle.service_drawing.specs.declared.reading.cause.Reason.{Reason}
use Rattle.service_drawing.specs.declared.reading.cause.Reason.TheVariants.{InternalName, UnknownSetting, SetTwice, OtherForm}
use Rattle.service_drawing.specs.declared.settings.Value.{Value}
use Rattle.service_drawing.specs.declared.settings.Value.TheVariants.{Number, Switch, Perhaps, Deadline, Backpressure, Allocation}

-- how a value is spelled
abbrev pub value_text : Value → List ℕ
value_text (Number n) = decimal n
value_text (Switch true) = codes "true"
value_text (Switch false) = codes "false"
value_text (Perhaps (Some n)) = decimal n
value_text (Perhaps None) = codes "none"
value_text (Deadline (Some time)) = decimal (as_nanos time)
value_text (Deadline None) = codes "none"
value_text (Backpressure RetryUntilDelivered) = codes "RetryUntilDelivered"
value_text (Backpressure DiscardData) = codes "DiscardData"
value_text (Allocation BestFit) = codes "BestFit"
value_text (Allocation PowerOfTwo) = codes "PowerOfTwo"
value_text (Allocation Static) = codes "Static"

-- a setting that has the first value may have the second: one of the same kind, whose numbers are
-- of 64 bits
abbrev pub MayBecome : Value → Value → Type 0
MayBecome (Number old) (Number n) = n < 2 ^ 64
MayBecome (Switch old) (Switch on) = Unit {0}
MayBecome (Perhaps old) (Perhaps n) = IfSome n (λ n. n < 2 ^ 64)
MayBecome (Deadline old) (Deadline time) = IfSome time (λ time. as_nanos time < 2 ^ 64)
MayBecome (Backpressure old) (Backpressure strategy) = Unit {0}
MayBecome (Allocation old) (Allocation strategy) = Unit {0}
MayBecome old value = ⊥

-- the byte, or an underscore in the place of a dash
abbrev pub underscore_for : ℕ → ℕ
underscore_for b = cond (nat_eq b 45) 95 b

-- the settings of a pattern, as they stand in a file of settings
abbrev pub settings_of : PatternKind → List Setting
settings_of kind.PublishSubscribe = publish_subscribe_settings default_publish_subscribe
settings_of kind.Event = event_settings default_event
settings_of kind.RequestResponse = request_response_settings default_request_response
settings_of kind.Blackboard = blackboard_settings default_blackboard

-- the names of the settings of a pattern: their keys in such a file, with underscores
abbrev pub setting_names : PatternKind → List (List ℕ)
setting_names k = map (λ x. map underscore_for x.key) (settings_of k)

-- the values of the settings of a pattern
abbrev pub setting_values : PatternKind → Defaults → List Value
setting_values kind.PublishSubscribe d =
    let s : PublishSubscribe = d.publish_subscribe in
    Number s.max_subscribers ∷ Number s.max_publishers ∷ Number s.max_nodes
    ∷ Number s.subscriber_max_buffer_size
    ∷ Number s.subscriber_max_borrowed_samples ∷ Number s.publisher_max_loaned_samples
    ∷ Number s.publisher_history_size
    ∷ Switch s.enable_safe_overflow ∷ Backpressure s.backpressure_strategy
    ∷ Number s.subscriber_expired_connection_buffer
    ∷ Allocation s.publisher_allocation_strategy ∷ []
setting_values kind.Event d =
    let s : Event = d.event in
    Number s.max_listeners ∷ Number s.max_notifiers ∷ Number s.max_nodes
    ∷ Number s.event_id_max_value
    ∷ Deadline s.deadline ∷ Perhaps s.notifier_created_event ∷ Perhaps s.notifier_dropped_event
    ∷ Perhaps s.notifier_dead_event ∷ []
setting_values kind.RequestResponse d =
    let s : RequestResonse = d.request_response in
    Switch s.enable_safe_overflow_for_requests ∷ Switch s.enable_safe_overflow_for_responses
    ∷ Number s.max_active_requests_per_client ∷ Number s.max_response_buffer_size
    ∷ Number s.max_servers
    ∷ Number s.max_clients ∷ Number s.max_nodes
    ∷ Number s.max_borrowed_responses_per_pending_response
    ∷ Number s.max_loaned_requests ∷ Number s.server_max_loaned_responses_per_request
    ∷ Backpressure s.client_backpressure_strategy ∷ Backpressure s.server_backpressure_strategy
    ∷ Number s.client_expired_connection_buffer ∷ Number s.server_expired_connection_buffer
    ∷ Switch s.enable_fire_and_forget_requests ∷ Allocation s.client_allocation_strategy
    ∷ Allocation s.server_allocation_strategy ∷ []
setting_values kind.Blackboard d =
    Number d.blackboard.max_readers ∷ Number d.blackboard.max_nodes ∷ []

-- the second settings, but for those of this pattern, which are as in the first ones
abbrev pub restored : PatternKind → Defaults → Defaults → Defaults
restored kind.PublishSubscribe base d = record d { publish_subscribe = base.publish_subscribe }
restored kind.Event base d = record d { event = base.event }
restored kind.RequestResponse base d = record d { request_response = base.request_response }
restored kind.Blackboard base d = record d { blackboard = base.blackboard }

-- names one after the other, with a comma and a space between two of them
abbrev pub listed : List (List ℕ) → List ℕ
listed [] = []
listed (name ∷ []) = name
listed (name ∷ other ∷ names) = name ++ codes ", " ++ listed (other ∷ names)

-- the byte, or a dash in the place of an underscore
abbrev pub dash_for : ℕ → ℕ
dash_for b = cond (nat_eq b 95) 45 b

-- the word is the name as configuration files have it: with dashes in the place of underscores
abbrev pub IsDashed : List ℕ → List ℕ → Type 0
IsDashed word name =
    (length word ≡ length name)
    × ((k : ℕ) → k < length name → slice_index word k ≡ dash_for (slice_index name k))

-- the word is the name, in either spelling
abbrev pub IsNamed : List ℕ → List ℕ → Type 0
IsNamed word name = (word ≡ name) ⊎ IsDashed word name

-- the setting of this number has the name
pub record HasName (names : List (List ℕ)) (index : ℕ) (word : List ℕ) : Type 0 where
  pub name : List ℕ
  pub stands : slice_get names index ≡ Some name
  pub named : IsNamed word name

-- what stands before the first space
abbrev pub word_of : List ℕ → List ℕ
word_of text = before_first (λ b. b == 32) text

-- the first setting with the name has this number
pub record IsSetting (names : List (List ℕ)) (index : ℕ) (word : List ℕ) : Type 0 where
  pub named : HasName names index word
  pub first : (k : ℕ) → k < index → ¬ HasName names k word

-- a setting, by its number, with a value
pub record Assignment : Type 0 where
  pub index : ℕ
  pub value : Value

-- the text names one of the settings of a pattern and spells a value that it may have
pub record GivesSetting (kind : PatternKind) (d : Defaults) (set : Assignment)
    (text : List ℕ) : Type 0 where
  pub old : Value
  pub setting : IsSetting (setting_names kind) set.index (word_of text)
  pub spelled : text ≡ word_of text ++ 32 ∷ value_text set.value
  pub stands : slice_get (setting_values kind d) set.index ≡ Some old
  pub legal : MayBecome old set.value

-- the values after each of these settings in turn has got its value
abbrev pub assigned : List Value → List Assignment → List Value
assigned values [] = values
assigned values (set ∷ sets) = assigned (slice_set values set.index set.value) sets

-- each setting is set once at most, and the configuration is the one below it but for the settings
-- of this pattern that are set
abbrev pub AreSettings : Config → PatternKind → List Assignment → Config → Type 0
AreSettings base kind sets c =
    IsDistinct nat_eq (map (λ set. set.index) sets)
    × (setting_values kind c.defaults ≡ assigned (setting_values kind base.defaults) sets)
    × (record c { defaults = restored kind base.defaults c.defaults } ≡ base)

-- the text gives one of the settings, which no line before has set,
-- and that alone has got the value and is marked as set
pub record Sets (kind : PatternKind) (old : Defaults) (given : List Bool) (text : List ℕ)
    (new : Defaults) (marked : List Bool) : Type 0 where
  pub set : Assignment
  pub gives : GivesSetting kind old set text
  pub first : slice_get given set.index ≡ Some false
  pub changed : setting_values kind new ≡ slice_set (setting_values kind old) set.index set.value
  pub noted : marked ≡ slice_set given set.index true

-- the text names a setting that is marked so
pub record NamesMarked (kind : PatternKind) (given : List Bool) (text : List ℕ)
    (mark : Bool) : Type 0 where
  pub index : ℕ
  pub setting : IsSetting (setting_names kind) index (word_of text)
  pub marked : slice_get given index ≡ Some mark

-- for this reason no setting is set: the name, behind which a space stands, is looked at first,
-- then whether it was set before
abbrev pub IsNotSet : PatternKind → Defaults → List Bool → List ℕ → Reason → Type 0
IsNotSet kind d given text UnknownSetting =
    (word_of text ≢ text) × ((index : ℕ) → ¬ HasName (setting_names kind) index (word_of text))
IsNotSet kind d given text SetTwice = (word_of text ≢ text) × NamesMarked kind given text true
IsNotSet kind d given text OtherForm =
    ((word_of text ≡ text) ⊎ NamesMarked kind given text false)
    × ((set : Assignment) → ¬ GivesSetting kind d set text)
IsNotSet kind d given text InternalName = ⊥

-- the bytes begin with the lines of the settings of this pattern, with which the configuration is
-- the one below it but for those settings
abbrev pub HasConfiguration : Config → PatternKind → Config → List ℕ → List ℕ → Type 0
HasConfiguration base kind =
    HasMany (codes "set ") (GivesSetting kind base.defaults) (AreSettings base kind)
