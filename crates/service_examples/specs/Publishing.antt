-- The attaching of publishers, and their memory.
use Rattle.std.specs.Prelude.{◌≡◌, ℕ, ◌+◌, ◌*◌, ◌<◌, ◌≤◌, ◌^◌, Result, Ok, Err}
use Rattle.std.specs.Int.{◌∣◌}
use Rattle.iox2_config.specs.declared.config.choices.DataSegmentType.TheVariants.{Static}
use Rattle.iox2_config.specs.Blocks.{HoldsMessage, block}
use Rattle.iox2_config.specs.Layout.{HaveAlignments, sample_size}
use Rattle.iox2_config.specs.Parts.{Apart}
use Rattle.iox2_static.specs.declared.static_config.publish_subscribe.StaticConfig.{StaticConfig}
use Rattle.iox2_static.specs.Chunks.{IsGreatest}
use Rattle.iox2_static.specs.PublishSubscribe.{sample_limits}
use Rattle.iox2_dynamic.specs.declared.dynamic_config.port_details.PortDetails.{PortDetails}
use Rattle.iox2_dynamic.specs.declared.dynamic_config.port_details.PortDetails.TheVariants as of
use Rattle.iox2_dynamic.specs.Service.{Service}
use Rattle.iox2_dynamic.specs.Steps.{AttachStep}
use Rattle.service_examples.specs.Described.{IsAsDescribed}
use Rattle.service_examples.specs.declared.factory.DataSegment.{DataSegment}
use Rattle.service_examples.specs.declared.factory.Publisher.{Publisher}
use Rattle.service_examples.specs.declared.factory.PublisherError.{PublisherError}
use Rattle.service_examples.specs.declared.factory.PublisherError.TheVariants.{NotAsDescribed, TypesNotGiven, TooManyChunks, MessageTooLarge, SegmentTooLarge, NotAttached}
use Rattle.service_examples.specs.declared.factory.PublisherSettings.{PublisherSettings}

-- as many blocks as the greatest number of chunks that can be in use,
-- which lie end to end and apart; wherever the first begins at a
-- multiple of the header's alignment, each holds a message of n elements
pub record IsSegment (s : StaticConfig) (loans n : ℕ) (segment : DataSegment) : Type 0 where
  pub blocks_are : IsGreatest (sample_limits s loans) segment.blocks
  pub block_size_is : segment.block.size ≡ sample_size s.message_type_details n
  pub size_is : segment.size ≡ segment.blocks * segment.block.size
  pub size_fits : segment.size < 2 ^ 63
  pub alignment_is : segment.block.alignment ≡ s.message_type_details.header.alignment
  pub each_holds : (start : ℕ) → segment.block.alignment ∣ start → start + segment.size < 2 ^ 64 →
      (i : ℕ) → i < segment.blocks
      → HoldsMessage s.message_type_details n segment.block.size
      (start + i * segment.block.size)
  pub apart : (start i j : ℕ) → i < j →
      Apart (block s.message_type_details segment.block.size start i)
      (block s.message_type_details segment.block.size start j)

-- the types of messages are given, and the number of chunks fits 64 bits
abbrev pub IsCounted : StaticConfig → ℕ → ℕ → Type 0
IsCounted s loans chunks =
    HaveAlignments s.message_type_details × IsGreatest (sample_limits s loans) chunks

-- the segment, or the first cause for which there is none
abbrev pub GivesSegment : StaticConfig → ℕ → ℕ → Result DataSegment PublisherError → Type 0
GivesSegment s loans n (Ok segment) = HaveAlignments s.message_type_details
    × IsSegment s loans n segment
GivesSegment s loans n (Err TypesNotGiven) = ¬ HaveAlignments s.message_type_details
GivesSegment s loans n (Err TooManyChunks) = (chunks : ℕ) × IsCounted s loans chunks
    × (2 ^ 64 ≤ chunks)
GivesSegment s loans n (Err MessageTooLarge) =
    (chunks : ℕ) × IsCounted s loans chunks × (chunks < 2 ^ 64)
    × (2 ^ 63 ≤ sample_size s.message_type_details n)
GivesSegment s loans n (Err SegmentTooLarge) =
    (chunks : ℕ) × IsCounted s loans chunks × (chunks < 2 ^ 64)
    × (sample_size s.message_type_details n < 2 ^ 63)
    × (2 ^ 63 ≤ chunks * sample_size s.message_type_details n)
GivesSegment s loans n (Err NotAsDescribed) = ⊥
GivesSegment s loans n (Err (NotAttached why)) = ⊥

-- the details of a publisher with this many samples
abbrev pub publisher_of : PublisherSettings → ℕ → PortDetails
publisher_of p samples = of.Publisher (record {
  publisher_id = p.publisher;
  node_id = p.node;
  number_of_samples = samples;
  max_slice_len = p.max_elements;
  data_segment_type = Static;
  max_number_of_segments = 1;
})

-- the settings are those of the service, the publisher was attached, and it has its segment
abbrev pub AttachesPublisher : StaticConfig → PublisherSettings → Service → Publisher → Service
    → Type 0
AttachesPublisher s p old made new =
    IsAsDescribed s old × IsSegment s p.max_loaned_samples p.max_elements made.segment
    × AttachStep old (publisher_of p made.segment.blocks) (Ok made.handle) new

-- the first cause for which the publisher is not attached
abbrev pub RefusesPublisher : StaticConfig → PublisherSettings → Service → PublisherError → Type 0
RefusesPublisher s p service NotAsDescribed = ¬ IsAsDescribed s service
RefusesPublisher s p service (NotAttached why) =
    IsAsDescribed s service × (segment : DataSegment)
    × IsSegment s p.max_loaned_samples p.max_elements segment
    × ((left : Service) × AttachStep service (publisher_of p segment.blocks) (Err why) left)
RefusesPublisher s p service why =
    IsAsDescribed s service × GivesSegment s p.max_loaned_samples p.max_elements (Err why)
