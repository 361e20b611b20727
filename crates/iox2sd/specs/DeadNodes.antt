-- Removals of dead nodes, and the ports of a dead node that stay.
use Rattle.std.specs.Prelude.{ℕ, ◌≤◌, ◌==◌, ◌&&◌, if◌then◌else◌, Bool, List, ◌≡◌, ◌+◌, All, length, Some, None}
use Rattle.std.specs.List.{list_any}
use Rattle.std.specs.List.Sorted.{IsNonDecreasingBy}
use Rattle.std.specs.Ordering.{is_le, nat_cmp, ordering_index}
use Rattle.std.specs.declared.cmp.Ordering.{Ordering}
use Rattle.iox2_ids.specs.declared.identifiers.port_id.UniquePortId.{UniquePortId}
use Rattle.iox2_ids.specs.declared.identifiers.port_id.UniquePortId.TheVariants as of
use Rattle.iox2sd_common.specs.Ids.{number_of}
use Rattle.iox2sd.specs.declared.values.PortId.{PortId}
use Rattle.iox2sd.specs.Prelude.{port_value, HasOwners, NoMoreOwners, DeadStep, ReadsNode, Id, Counts, NodeRemoval, Open, Locked, Refused}
use Rattle.iox2_dynamic.specs.declared.dynamic_config.answers.DeregisterNodeState.{DeregisterNodeState}
use Rattle.iox2_dynamic.specs.declared.dynamic_config.answers.PortCleanupAction.{PortCleanupAction}
use Rattle.iox2_dynamic.specs.declared.dynamic_config.answers.PortCleanupAction.TheVariants.{RemovePort, SkipPort}
use Rattle.iox2_dynamic.specs.Service.{Service as Held}
use Rattle.iox2sd_common.specs.declared.status.Status.TheVariants as status

-- the role is that of a port
abbrev pub IsPort : PortId → Type 0
IsPort p = (1 ≤ p.role) × (p.role ≤ 8)

-- whether the port of this role with this number is one of these
abbrev pub is_kept : List PortId → ℕ → ℕ → Bool
is_kept kept role value = list_any (λ p. p.role == role && number_of p.port == value) kept

-- how a port stands to that of this role with this number: numbers are compared first
abbrev pub order_at : PortId → ℕ → ℕ → Ordering
order_at p role value =
    if number_of p.port == value then nat_cmp p.role role else nat_cmp (number_of p.port) value

-- a port stands before another, or is the same
abbrev pub is_at_most : PortId → PortId → Bool
is_at_most p other = is_le (order_at p other.role (number_of other.port))

-- those that stand before any port come first, and those behind it last
unfoldable pub AreSorted : List PortId → Type 0
AreSorted ports =
    (role value : ℕ) → IsNonDecreasingBy (λ p. ordering_index (order_at p role value)) ports

-- the number of the role of a port's id
abbrev pub port_role : UniquePortId → ℕ
port_role (of.Publisher id) = 1
port_role (of.Subscriber id) = 2
port_role (of.Notifier id) = 3
port_role (of.Listener id) = 4
port_role (of.Client id) = 5
port_role (of.Server id) = 6
port_role (of.Reader id) = 7
port_role (of.Writer id) = 8

-- the answer on a port, where these ports stay
abbrev pub action_for : List PortId → UniquePortId → PortCleanupAction
action_for kept port =
    if is_kept kept (port_role port) (port_value port) then SkipPort else RemovePort

-- the callback that keeps these ports
abbrev pub Keeps : List PortId → Unit {0} → UniquePortId → PortCleanupAction → Unit {0} → Type 0
Keeps kept before port action after = action ≡ action_for kept port

-- how many ports of each kind there are
abbrev pub counted : Held → Counts
counted s =
    record {
      first = length s.ports.first.registry.entries;
      second = length s.ports.second.registry.entries;
    }

-- so many ports of each kind went
pub record Went (old : Counts) (gone new : Counts) : Type 0 where
  pub first : gone.first + new.first ≡ old.first
  pub second : gone.second + new.second ≡ old.second

-- the removal of a dead node, of whose ports these are kept, and how many went
abbrev pub RemovesCounted : Held → ℕ → List PortId → DeregisterNodeState → Counts → Held → Type 0
RemovesCounted old node kept state gone new =
    DeadStep (Keeps kept) old tt node state new tt × Went (counted old) gone (counted new)

-- the same for a node's id as C sees it
abbrev pub RemovesNode : Id → List PortId → Held → NodeRemoval → Held → Type 0
RemovesNode dead kept old (Open gone) new =
    (node : ℕ) × ReadsNode dead (Some node) × All IsPort kept
    × RemovesCounted old node kept HasOwners gone new
RemovesNode dead kept old (Locked gone) new =
    (node : ℕ) × ReadsNode dead (Some node) × All IsPort kept
    × RemovesCounted old node kept NoMoreOwners gone new
RemovesNode dead kept old (Refused status.NoNode) new = ReadsNode dead None × (new ≡ old)
RemovesNode dead kept old (Refused status.UnknownRole) new =
    (node : ℕ) × ReadsNode dead (Some node) × (¬ (All IsPort kept)) × (new ≡ old)
RemovesNode dead kept old (Refused _) new = ⊥
