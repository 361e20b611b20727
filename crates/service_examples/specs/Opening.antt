-- The opening of a service.
use Rattle.std.specs.Prelude.{◌≡◌, ◌≢◌, ℕ, ◌+◌, ◌<◌, ◌≤◌, ◌^◌, Some, Result, Ok, Err}
use Rattle.std.specs.Int.{◌∣◌}
use Rattle.iox2_texts.specs.Verify.{IsSatisfied}
use Rattle.iox2_texts.specs.VerifyErrors.{Verifies}
use Rattle.iox2_config.specs.declared.hash.input.PatternKind.TheVariants as kind
use Rattle.iox2_config.specs.declared.types.message_details.MessageTypeDetails.{MessageTypeDetails}
use Rattle.iox2_config.specs.Blocks.{MayOpen}
use Rattle.iox2_config.specs.Layout.{sample_size, parts}
use Rattle.iox2_config.specs.Parts.{Holds}
use Rattle.iox2_config.specs.SampleLayoutParts.{SampleLayoutParts}
use Rattle.iox2_static.specs.declared.static_config.messaging_pattern.MessagingPattern.TheVariants as pattern
use Rattle.iox2_static.specs.declared.static_config.publish_subscribe.StaticConfig.{StaticConfig}
use Rattle.iox2_static.specs.Description.{Description}
use Rattle.iox2_static.specs.MessagingPattern.{kind_of}
use Rattle.iox2_static.specs.Requirements.{AreMet, first_unmet}
use Rattle.iox2_static.specs.Satisfies.{publish_subscribe_requirements}
use Rattle.iox2_dynamic.specs.Service.{Service}
use Rattle.iox2_dynamic.specs.Steps.{RegisterStep}
use Rattle.service_examples.specs.Described.{IsAsDescribed}
use Rattle.service_examples.specs.declared.builder.Opener.{Opener}
use Rattle.service_examples.specs.declared.builder.OpenedService.{OpenedService}
use Rattle.service_examples.specs.declared.builder.OpenError.{OpenError}
use Rattle.service_examples.specs.declared.builder.OpenError.TheVariants.{IncompatibleMessagingPattern, NotAsDescribed, IncompatibleAttributes, IncompatibleTypes, UnmetSetting, MessageTooLarge, NodeRefused}

-- wherever a block of this size begins at a multiple of the header's alignment, the parts of a
-- message of n elements lie inside, apart and aligned, for the service and for the opener
pub record MessagesFit (service opener : MessageTypeDetails) (n size : ℕ) : Type 0 where
  pub for_service : (header : ℕ) → service.header.alignment ∣ header → header + size < 2 ^ 64
      → Holds header size (parts service service header n)
  pub for_opener : (header : ℕ) → service.header.alignment ∣ header → header + size < 2 ^ 64
      → Holds header size (parts service opener header n)

-- the service is described as one with these settings, and is so
abbrev pub IsDescribed : Description → Service → StaticConfig → Type 0
IsDescribed d s settings =
    (d.pattern ≡ pattern.PublishSubscribe settings) × IsAsDescribed settings s

-- and it has the attributes that the opener requires
abbrev pub IsVerified : Description → Opener → Service → StaticConfig → Type 0
IsVerified d o s settings = IsDescribed d s settings × IsSatisfied o.verifier d.attributes

-- and the opener may use its messages
abbrev pub IsCompatible : Description → Opener → Service → StaticConfig → Type 0
IsCompatible d o s settings = IsVerified d o s settings
    × MayOpen o.required.message_type_details settings.message_type_details

-- and each of its settings meets what the opener requires
abbrev pub Suits : Description → Opener → Service → StaticConfig → Type 0
Suits d o s settings = IsCompatible d o s settings
    × AreMet (publish_subscribe_requirements settings o.required)

-- the opener's messages fit the layout, one of just the size and alignment that they have for the
-- service
pub record IsRoom (settings : StaticConfig) (o : Opener) (room : SampleLayoutParts) : Type 0 where
  pub messages : MessagesFit settings.message_type_details o.required.message_type_details
      o.elements room.size
  pub size : room.size ≡ sample_size settings.message_type_details o.elements
  pub alignment : room.alignment ≡ settings.message_type_details.header.alignment
  pub limit : sample_size settings.message_type_details o.elements < 2 ^ 63

-- the layout of a message, or the first cause for which there is none
abbrev pub LaysOut : Description → Opener → Service → Result SampleLayoutParts OpenError → Type 0
LaysOut d o s (Ok room) = (settings : StaticConfig) × Suits d o s settings × IsRoom settings o room
LaysOut d o s (Err IncompatibleMessagingPattern) = kind_of d.pattern ≢ kind.PublishSubscribe
LaysOut d o s (Err NotAsDescribed) =
    (settings : StaticConfig) × (d.pattern ≡ pattern.PublishSubscribe settings)
    × (¬ IsAsDescribed settings s)
LaysOut d o s (Err (IncompatibleAttributes missing)) =
    (settings : StaticConfig) × IsDescribed d s settings
    × Verifies o.verifier d.attributes (Err missing)
LaysOut d o s (Err IncompatibleTypes) =
    (settings : StaticConfig) × IsVerified d o s settings
    × (¬ MayOpen o.required.message_type_details settings.message_type_details)
LaysOut d o s (Err (UnmetSetting setting)) =
    (settings : StaticConfig) × IsCompatible d o s settings
    × (first_unmet (publish_subscribe_requirements settings o.required) ≡ Some setting)
LaysOut d o s (Err MessageTooLarge) =
    (settings : StaticConfig) × Suits d o s settings
    × (2 ^ 63 ≤ sample_size settings.message_type_details o.elements)
LaysOut d o s (Err (NodeRefused why)) = ⊥

-- the service suits the opener, whose messages fit the layout, and its node is registered
abbrev pub Opens : Description → Opener → Service → OpenedService → Service → Type 0
Opens d o old opened new =
    LaysOut d o old (Ok opened.message) × RegisterStep old o.node (Ok opened.node) new

-- the first cause for which the service is not opened
abbrev pub Refuses : Description → Opener → Service → OpenError → Type 0
Refuses d o s (NodeRefused why) =
    ((message : SampleLayoutParts) × LaysOut d o s (Ok message))
    × ((left : Service) × RegisterStep s o.node (Err why) left)
Refuses d o s why = LaysOut d o s (Err why)
