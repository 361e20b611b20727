-- Handles and ports as C sees them.
use Rattle.std.specs.Prelude.{◌≡◌, ℕ, Option, Some, None, Bool, true, false, Result, Ok, Err, ◌⊎◌}
use Rattle.iox2sd.specs.Prelude.{Role, Handle, port_value, PortDetails, role_of, node_of, port_of, HasRole, AttachStep, number_of, id_of, ReadsNode, Port, Status}
use Rattle.iox2_container.specs.State.{Handle as Named}
use Rattle.iox2_container.specs.declared.container.handle.Role.TheVariants as role
use Rattle.iox2_config.specs.declared.config.choices.DataSegmentType.{DataSegmentType}
use Rattle.iox2_config.specs.declared.config.choices.DataSegmentType.TheVariants.{Dynamic, Static}
use Rattle.iox2_dynamic.specs.declared.dynamic_config.answers.AttachError.TheVariants as attach
use Rattle.iox2_dynamic.specs.declared.dynamic_config.port_details.PortDetails.TheVariants as of
use Rattle.iox2_dynamic.specs.Service.{Service as Held}
use Rattle.iox2sd_common.specs.Status.{OfNumber}
use Rattle.iox2sd_common.specs.declared.status.Status.TheVariants as status

-- the number of a role
abbrev pub role_number : Role → ℕ
role_number role.Node = 0
role_number role.Publisher = 1
role_number role.Subscriber = 2
role_number role.Notifier = 3
role_number role.Listener = 4
role_number role.Client = 5
role_number role.Server = 6
role_number role.Reader = 7
role_number role.Writer = 8

-- the role of a number
abbrev pub ReadsRole : ℕ → Option Role → Type 0
ReadsRole number read = OfNumber role_number number read

-- the handle as C sees it
abbrev pub c_handle : Named → Handle
c_handle h = record {
  service = h.service;
  role = role_number h.role;
  slot = h.slot;
  ticket = h.ticket;
}

-- the number of no role
abbrev pub no_role : ℕ
no_role = 18446744073709551615

-- the handle that stands for nothing, as its role is none
abbrev pub no_handle : Handle
no_handle = record { service = 0; role = no_role; slot = 0; ticket = 0 }

-- the handle that C's handle stands for, or that its role is none
abbrev pub ReadsHandle : Handle → Option Named → Type 0
ReadsHandle h (Some read) = h ≡ c_handle read
ReadsHandle h None = ReadsRole h.role None

-- the number of a kind of data segment
abbrev pub segment_number : DataSegmentType → ℕ
segment_number Dynamic = 0
segment_number Static = 1

-- the kind of data segment of a number
abbrev pub ReadsSegment : ℕ → Option DataSegmentType → Type 0
ReadsSegment number read = OfNumber segment_number number read

-- each field that its kind alone has is the one that the caller gave
abbrev pub ShowsFields : Port → PortDetails → Type 0
ShowsFields p (of.Publisher d) =
    (d.number_of_samples ≡ p.number_of_samples) × (d.max_slice_len ≡ p.max_slice_len)
    × ReadsSegment p.data_segment (Some d.data_segment_type)
    × (d.max_number_of_segments ≡ p.max_number_of_segments)
ShowsFields p (of.Subscriber d) = d.buffer_size ≡ p.buffer_size
ShowsFields p (of.Server d) =
    (d.request_buffer_size ≡ p.request_buffer_size)
    × (d.number_of_responses ≡ p.number_of_responses)
    × (d.max_slice_len ≡ p.max_slice_len)
    × ReadsSegment p.data_segment (Some d.data_segment_type)
    × (d.max_number_of_segments ≡ p.max_number_of_segments)
ShowsFields p (of.Client d) =
    (d.number_of_requests ≡ p.number_of_requests)
    × (d.response_buffer_size ≡ p.response_buffer_size)
    × (d.max_slice_len ≡ p.max_slice_len)
    × ReadsSegment p.data_segment (Some d.data_segment_type)
    × (d.max_number_of_segments ≡ p.max_number_of_segments)
ShowsFields p _ = Unit {0}

-- the port's kind, its ids and each field of its kind are those that the caller gave
abbrev pub ShowsDetails : Port → PortDetails → Type 0
ShowsDetails p d =
    ReadsRole p.role (Some (role_of d)) × (port_value (port_of d) ≡ number_of p.port)
    × ReadsNode p.node (Some (node_of d)) × ShowsFields p d

-- the role is that of no port
abbrev pub IsNoPortRole : ℕ → Type 0
IsNoPortRole number = ReadsRole number None ⊎ ReadsRole number (Some role.Node)

-- whether the ports of a role have a data segment
abbrev pub has_segment : Role → Bool
has_segment role.Publisher = true
has_segment role.Server = true
has_segment role.Client = true
has_segment _ = false

-- the parts of the node's id are those of a node
abbrev pub HasNode : Port → Type 0
HasNode p = (node : ℕ) × ReadsNode p.node (Some node)

-- the details that a port has, or why there are none
abbrev pub ReadsPort : Port → Result PortDetails Status → Type 0
ReadsPort p (Ok details) = ShowsDetails p details
ReadsPort p (Err status.NoNode) = ReadsNode p.node None
ReadsPort p (Err status.UnknownRole) = HasNode p × IsNoPortRole p.role
ReadsPort p (Err status.UnknownSegment) =
    HasNode p × (role : Role) × ReadsRole p.role (Some role) × (has_segment role ≡ true)
    × ReadsSegment p.data_segment None
ReadsPort p (Err _) = ⊥

-- the port whose fields are all 0
abbrev pub no_port : Port
no_port = record {
  role = 0;
  port = id_of 0;
  node = id_of 0;
  number_of_samples = 0;
  buffer_size = 0;
  request_buffer_size = 0;
  number_of_responses = 0;
  number_of_requests = 0;
  response_buffer_size = 0;
  max_slice_len = 0;
  data_segment = 0;
  max_number_of_segments = 0;
}

-- what the details of every kind have; all other fields are 0
abbrev pub blank : PortDetails → Port
blank d =
    record no_port {
      role = role_number (role_of d);
      port = id_of (port_value (port_of d));
      node = id_of (node_of d);
    }

-- the port with these details
abbrev pub c_port : PortDetails → Port
c_port (of.Publisher d) = record (blank (of.Publisher d)) {
  number_of_samples = d.number_of_samples;
  max_slice_len = d.max_slice_len;
  data_segment = segment_number d.data_segment_type;
  max_number_of_segments = d.max_number_of_segments;
}
c_port (of.Subscriber d) = record (blank (of.Subscriber d)) { buffer_size = d.buffer_size }
c_port (of.Server d) = record (blank (of.Server d)) {
  request_buffer_size = d.request_buffer_size;
  number_of_responses = d.number_of_responses;
  max_slice_len = d.max_slice_len;
  data_segment = segment_number d.data_segment_type;
  max_number_of_segments = d.max_number_of_segments;
}
c_port (of.Client d) = record (blank (of.Client d)) {
  number_of_requests = d.number_of_requests;
  response_buffer_size = d.response_buffer_size;
  max_slice_len = d.max_slice_len;
  data_segment = segment_number d.data_segment_type;
  max_number_of_segments = d.max_number_of_segments;
}
c_port other = blank other

-- attaching a port to a service: the handle that C sees, or the refusal
abbrev pub AttachesPort : Port → Held → Result Handle Status → Held → Type 0
AttachesPort p old (Ok handle) new =
    (d : PortDetails) × ShowsDetails p d × HasRole old.pattern (role_of d)
    × (named : Named) × AttachStep old d (Ok named) new × (handle ≡ c_handle named)
AttachesPort p old (Err status.NoNode) new = ReadsPort p (Err status.NoNode) × (new ≡ old)
AttachesPort p old (Err status.UnknownRole) new = ReadsPort p (Err status.UnknownRole) × (new ≡ old)
AttachesPort p old (Err status.UnknownSegment) new = ReadsPort p (Err status.UnknownSegment)
    × (new ≡ old)
AttachesPort p old (Err status.RoleNotInPattern) new =
    (d : PortDetails) × ShowsDetails p d × (¬ (HasRole old.pattern (role_of d))) × (new ≡ old)
AttachesPort p old (Err status.IsLocked) new =
    (d : PortDetails) × ShowsDetails p d × HasRole old.pattern (role_of d)
    × AttachStep old d (Err attach.ServiceIsLocked) new
AttachesPort p old (Err status.NodeNotRegistered) new =
    (d : PortDetails) × ShowsDetails p d × HasRole old.pattern (role_of d)
    × AttachStep old d (Err attach.NodeNotRegistered) new
AttachesPort p old (Err status.OutOfSpace) new =
    (d : PortDetails) × ShowsDetails p d × HasRole old.pattern (role_of d)
    × AttachStep old d (Err attach.OutOfSpace) new
AttachesPort p old (Err _) new = ⊥
