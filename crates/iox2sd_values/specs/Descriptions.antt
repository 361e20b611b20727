-- What is fixed of a service, as plain values, from its name and settings.
use Rattle.std.specs.Prelude.{◌≡◌, ◌↔◌, ℕ, IsTrue, Option, Some, None, Err, length, Bool, List, [], ◌∷◌, Result, Ok}
use Rattle.iox2sd_values.specs.Prelude.{BlackboardConfig, BlackboardSettings, EventConfig, EventSettings, Field, FieldAnswer, IllegalText, PatternKind, PublishSubscribeConfig, PublishSubscribeSettings, ReadsBlackboard, ReadsEvent, ReadsPattern, ReadsPublishSubscribe, ReadsRequestResponse, RequestResponseConfig, RequestResponseSettings, blackboard_of, code, duration_of, event_of, field_answer, no_field, pattern_number, sha1_text, flag_answer, zero_padded, c_duration, c_event_id, PublishSubscribe, RequestResponse, Refusal, Blackboard}
use Rattle.iox2_static.specs.Description.{Description, Describes}
use Rattle.iox2_static.specs.MessagingPattern.{kind_of}
use Rattle.iox2_static.specs.declared.static_config.messaging_pattern.MessagingPattern.{MessagingPattern}
use Rattle.iox2_static.specs.declared.static_config.messaging_pattern.MessagingPattern.TheVariants as pattern
use Rattle.iox2sd_common.specs.declared.answers.FlagAnswer.{FlagAnswer}
use Rattle.iox2sd_common.specs.declared.id.Id.{Id}
use Rattle.iox2sd_values.specs.declared.descriptions.ServiceDescription.{ServiceDescription}
use Rattle.iox2sd_common.specs.declared.status.Status.TheVariants as status
use Rattle.iox2_config.specs.declared.hash.service_hash.ServiceHashError.{ServiceHashError}
use Rattle.iox2_static.specs.PublishSubscribe.{publish_subscribe_of}
use Rattle.iox2_static.specs.RequestResponse.{request_response_of}
use Rattle.iox2sd_common.specs.Ids.{number_of}
use Rattle.iox2sd_values.specs.Settings.{publish_subscribe, request_response}
use Rattle.iox2sd_values.specs.Texts.{ReadsAnyName}
use Rattle.iox2sd_values.specs.Refusals.{refused_field}

-- what is fixed of a publish-subscribe service, beside the types of its messages
abbrev pub c_publish_subscribe : PublishSubscribe → PublishSubscribeConfig
c_publish_subscribe c = record {
  max_subscribers = c.max_subscribers;
  max_publishers = c.max_publishers;
  max_nodes = c.max_nodes;
  history_size = c.history_size;
  subscriber_max_buffer_size = c.subscriber_max_buffer_size;
  subscriber_max_borrowed_samples = c.subscriber_max_borrowed_samples;
  enable_safe_overflow = c.enable_safe_overflow;
}

-- the same of a pattern, or zeros where it is another
abbrev pub publish_subscribe_config : MessagingPattern → PublishSubscribeConfig
publish_subscribe_config (pattern.PublishSubscribe c) = c_publish_subscribe c
publish_subscribe_config _ = c_publish_subscribe (publish_subscribe 0 0 0 0)

-- what is fixed of an event service, or zeros
abbrev pub event_config : MessagingPattern → EventConfig
event_config (pattern.Event c) = record {
  max_notifiers = c.max_notifiers;
  max_listeners = c.max_listeners;
  max_nodes = c.max_nodes;
  event_id_max_value = c.event_id_max_value;
  deadline = c_duration (duration_of c.deadline);
  notifier_created_event = c_event_id c.notifier_created_event;
  notifier_dropped_event = c_event_id c.notifier_dropped_event;
  notifier_dead_event = c_event_id c.notifier_dead_event;
}
event_config _ = record {
  max_notifiers = 0;
  max_listeners = 0;
  max_nodes = 0;
  event_id_max_value = 0;
  deadline = c_duration None;
  notifier_created_event = c_event_id None;
  notifier_dropped_event = c_event_id None;
  notifier_dead_event = c_event_id None;
}

-- what is fixed of a request-response service, beside the types of its messages
abbrev pub c_request_response : RequestResponse → RequestResponseConfig
c_request_response c = record {
  max_active_requests_per_client = c.max_active_requests_per_client;
  max_loaned_requests = c.max_loaned_requests;
  max_response_buffer_size = c.max_response_buffer_size;
  max_servers = c.max_servers;
  max_clients = c.max_clients;
  max_nodes = c.max_nodes;
  max_borrowed_responses_per_pending_response = c.max_borrowed_responses_per_pending_response;
  enable_safe_overflow_for_requests = c.enable_safe_overflow_for_requests;
  enable_safe_overflow_for_responses = c.enable_safe_overflow_for_responses;
  enable_fire_and_forget_requests = c.enable_fire_and_forget_requests;
}

-- the same of a pattern, or zeros where it is another
abbrev pub request_response_config : MessagingPattern → RequestResponseConfig
request_response_config (pattern.RequestResponse c) = c_request_response c
request_response_config _ = c_request_response (request_response 0 0 0 0 0)

-- what is fixed of a blackboard service, beside the type of its keys
abbrev pub c_blackboard : Blackboard → BlackboardConfig
c_blackboard c =
    record { max_readers = c.max_readers; max_writers = c.max_writers; max_nodes = c.max_nodes }

-- the same of a pattern, or zeros where it is another
abbrev pub blackboard_config : MessagingPattern → BlackboardConfig
blackboard_config (pattern.Blackboard c) = c_blackboard c
blackboard_config _ = record { max_readers = 0; max_writers = 0; max_nodes = 0 }

-- the description of the service that has this id
abbrev pub c_description : Description → Id → ServiceDescription
c_description d id = record {
  name = zero_padded 256 d.name;
  name_length = length d.name;
  id = id;
  hash = zero_padded 64 d.hash;
  hash_length = length d.hash;
  pattern = pattern_number (kind_of d.pattern);
  publish_subscribe = publish_subscribe_config d.pattern;
  event = event_config d.pattern;
  request_response = request_response_config d.pattern;
  blackboard = blackboard_config d.pattern;
}

-- whether two patterns are one, where both are known
abbrev pub ComparesKinds : Option PatternKind → Option PatternKind → FlagAnswer → Type 0
ComparesKinds (Some left) (Some right) answer =
    (answer.status ≡ code status.Done) × (IsTrue answer.yes ↔ (left ≡ right))
ComparesKinds (Some left) None answer = answer ≡ flag_answer (Err status.UnknownPattern)
ComparesKinds None right answer = answer ≡ flag_answer (Err status.UnknownPattern)

-- whether two numbers are those of one pattern
abbrev pub ComparesPatterns : ℕ → ℕ → FlagAnswer → Type 0
ComparesPatterns left right answer =
    (l r : Option PatternKind) × ReadsPattern left l × ReadsPattern right r
    × ComparesKinds l r answer

-- the layer's description of a service without attributes, by SHA-1, which refuses no input
abbrev pub DescribesBySha1 : List ℕ → ℕ → MessagingPattern
    → Result Description ServiceHashError → Type 0
DescribesBySha1 name id p made = Describes sha1_text (λ input. ⊥) name id p made

-- the description of a service with this name and this pattern, as C sees it: the name is looked at
-- first, then the pattern, and then the hash text
abbrev pub DescribesAs : Result (List ℕ) Refusal → Result MessagingPattern Field → Id
    → Result ServiceDescription FieldAnswer → Type 0
DescribesAs (Err refusal) read id made = made ≡ Err (refused_field refusal)
DescribesAs (Ok name) (Err field) id made = made ≡ Err (field_answer field)
DescribesAs (Ok name) (Ok p) id (Ok made) =
    (d : Description) × DescribesBySha1 name (number_of id) p (Ok d) × (made ≡ c_description d id)
DescribesAs (Ok name) (Ok p) id (Err answer) =
    (answer ≡ no_field status.IllegalHash)
    × DescribesBySha1 name (number_of id) p (Err IllegalText)

-- the first place holds what was made, or is as it was
abbrev pub Fills : List ServiceDescription → Result ServiceDescription FieldAnswer → FieldAnswer
    → List ServiceDescription → Type 0
Fills [] made answer new = (answer ≡ no_field status.Null) × (new ≡ [])
Fills (position ∷ rest) (Ok made) answer new =
    (answer ≡ no_field status.Done) × (new ≡ made ∷ rest)
Fills (position ∷ rest) (Err why) answer new = (answer ≡ why) × (new ≡ position ∷ rest)

-- the same with the description of a service with this pattern. Its name may be one of the system's
-- own where the flag says so
abbrev pub FillsOf : Result MessagingPattern Field → Bool → List ℕ → Id → List ServiceDescription
    → FieldAnswer → List ServiceDescription → Type 0
FillsOf read internal bytes id old answer new =
    (name : Result (List ℕ) Refusal) × ReadsAnyName internal bytes name
    × (made : Result ServiceDescription FieldAnswer) × DescribesAs name read id made
    × Fills old made answer new

-- the same where there are settings, of which the pattern is made so
abbrev pub FillsNamed : {S : Type 0} → (S → Result MessagingPattern Field → Type 0) → List S → Bool
    → List ℕ → Id → List ServiceDescription → FieldAnswer → List ServiceDescription → Type 0
FillsNamed Makes [] internal bytes id old answer new =
    (answer ≡ no_field status.Null) × (new ≡ old)
FillsNamed Makes (s ∷ others) internal bytes id old answer new =
    (read : Result MessagingPattern Field) × Makes s read
    × FillsOf read internal bytes id old answer new

-- what is made so of settings that are read so, or the field that is invalid
abbrev pub ReadsAs : {A B : Type 0} → (Result A Field → Type 0) → (A → B) → Result B Field → Type 0
ReadsAs {A} Reads make (Ok made) = (settings : A) × Reads (Ok settings) × (made ≡ make settings)
ReadsAs Reads make (Err f) = Reads (Err f)

-- of settings of each pattern
unfoldable pub MakesPublishSubscribe : PublishSubscribeSettings → Result MessagingPattern Field
    → Type 0
MakesPublishSubscribe s made =
    ReadsAs (ReadsPublishSubscribe s) (λ c. pattern.PublishSubscribe (publish_subscribe_of c)) made

unfoldable pub MakesEvent : EventSettings → Result MessagingPattern Field → Type 0
MakesEvent s made = ReadsAs (ReadsEvent s) (λ c. pattern.Event (event_of c)) made

unfoldable pub MakesRequestResponse : RequestResponseSettings → Result MessagingPattern Field
    → Type 0
MakesRequestResponse s made =
    ReadsAs (ReadsRequestResponse s) (λ c. pattern.RequestResponse (request_response_of c)) made

unfoldable pub MakesBlackboard : BlackboardSettings → Result MessagingPattern Field → Type 0
MakesBlackboard s made =
    ReadsAs (ReadsBlackboard s) (λ c. pattern.Blackboard (blackboard_of c)) made
