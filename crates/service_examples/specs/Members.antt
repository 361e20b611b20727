-- Who is attached to a service.
use Rattle.std.specs.Prelude.{◌≡◌, ℕ, ◌+◌, List, ◌++◌, length, map, vec_capacity, vec_len, IsPermutation}
use Rattle.std.specs.Global.{Vec}
use Rattle.std.specs.List.Sorted.{IsNonDecreasingBy, IsStableByKey}
use Rattle.std.specs.Ordering.{nat_cmp}
use Rattle.iox2_dynamic.specs.Prelude.{ContainerState, listed}
use Rattle.iox2_dynamic.specs.declared.dynamic_config.port_details.PortDetails.{PortDetails}
use Rattle.iox2_dynamic.specs.Details.{node_of}
use Rattle.iox2_dynamic.specs.Service.{Service}
use Rattle.service_examples.specs.declared.discovery.Member.{Member}
use Rattle.service_examples.specs.declared.discovery.Member.TheVariants.{Node, Port}

-- the node, or that of the port
abbrev pub node_of_member : Member → ℕ
node_of_member (Node id) = id
node_of_member (Port details) = node_of details

-- each entry of a node
abbrev pub nodes_in : Service → List Member
nodes_in s = map Node (listed s.nodes.registry)

-- each port of one kind
abbrev pub ports_in : ContainerState PortDetails → List Member
ports_in ports = map Port (listed ports.registry)

-- each entry of a node, and each port of both kinds
abbrev pub members_of : Service → List Member
members_of s = nodes_in s ++ ports_in s.ports.first ++ ports_in s.ports.second

-- every entry of a node and every port once, and nobody else, by rising node; a node comes before
-- its ports
pub record IsRoster (s : Service) (members : List Member) : Type 0 where
  pub each_once : IsPermutation (members_of s) members
  pub by_node : IsNonDecreasingBy node_of_member members
  pub in_turn : IsStableByKey node_of_member nat_cmp (members_of s) members

-- these were put at the end of a list, and no memory was taken for them
abbrev pub Appends : {A : Type 0} → List A → Vec A → Vec A → Type 0
Appends added old new =
    (new.items ≡ old.items ++ added)
    × (vec_len new ≡ vec_len old + length added)
    × (vec_capacity new ≡ vec_capacity old)
