-- Listings into a caller's array, of all nodes or ports and of a node's ports.
use Rattle.std.specs.Prelude.{◌≡◌, Bool, true, false, ℕ, ◌+◌, ◌<◌, ◌≤◌, List, ◌++◌, Some, None, map, drop, length, slice_set, ◌⊎◌, ◌^◌, Option, [], ◌∷◌}
use Rattle.iox2_texts.specs.declared.bounded.CallbackProgression.{CallbackProgression}
use Rattle.iox2_texts.specs.declared.bounded.CallbackProgression.TheVariants.{Continue, Stop}
use Rattle.iox2sd.specs.Prelude.{ContainerState, listed, Role, PortDetails, Ports, IsNeither, first_role, second_role, count_answer, id_of, Id, Port, Listed, All, TooShort, details_where, is_of, node_of, ports_of_node, ReadsNode}
use Rattle.iox2_dynamic.specs.Service.{Service as Held}
use Rattle.iox2sd.specs.Ports.{ReadsRole, c_port}
use Rattle.iox2sd_common.specs.declared.answers.CountAnswer.{CountAnswer}
use Rattle.iox2sd.specs.declared.service.listings.Listed.TheVariants.{Refused}
use Rattle.iox2sd_common.specs.declared.status.Status.TheVariants as status

-- what became of a listing, as C sees it
abbrev pub listed_answer : Listed → CountAnswer
listed_answer (All n) = count_answer status.Done n
listed_answer (TooShort n) = count_answer status.BufferTooShort n
listed_answer (Refused s) = count_answer s 0

-- an item was put into the next element, or there is none
abbrev pub Puts : {A : Type 0} → List A × ℕ → A → CallbackProgression → List A × ℕ → Type 0
Puts before item Continue after =
    (before.1 < length before.0) × (after.0 ≡ slice_set before.0 before.1 item)
    × (after.1 ≡ before.1 + 1)
Puts before item Stop after = length before.0 ≤ before.1

-- where they fit behind the elements in use, all these items were put there, and the others are as
-- they were
abbrev pub PutsAll : {A : Type 0} → List A → List A × ℕ → List A × ℕ → Type 0
PutsAll {A} items before after =
    (done left : List A) → before.0 ≡ done ++ left → length done ≡ before.1
    → length items ≤ length left
    → after.0 ≡ done ++ items ++ drop (length items) left

-- all these items stand at the front of the array, and its other elements are as they were
abbrev pub ListsAll : {A : Type 0} → List A → List A → ℕ → List A → Type 0
ListsAll items before n after =
    (length items ≤ length before) × (after ≡ items ++ drop (length items) before)
    × (n ≡ length items)

-- the array is as it was, since it is too short for all these items
abbrev pub NeedsMore : {A : Type 0} → List A → List A → ℕ → List A → Type 0
NeedsMore items before n after = (length before < length items) × (after ≡ before)
    × (n ≡ length items)

-- these ports, by rising slot
abbrev pub ports_in : ContainerState PortDetails → List Port
ports_in ports = map c_port (listed ports.registry)

-- the ports of the first kind, or those of the second
abbrev pub ports_of_kind : Bool → Ports → List Port
ports_of_kind true ports = ports_in ports.first
ports_of_kind false ports = ports_in ports.second

-- these are the ports of a role of the service
abbrev pub PortsOf : Held → Role → List Port → Type 0
PortsOf service role ports =
    ((role ≡ first_role service.pattern) × (ports ≡ ports_in service.ports.first))
    ⊎ ((role ≡ second_role service.pattern) × (ports ≡ ports_in service.ports.second))

-- a listing of the ports of a role: the array before and after
abbrev pub ListsPorts : ℕ → List Port → Held → Listed → List Port → Type 0
ListsPorts number before service (All n) after =
    (role : Role) × ReadsRole number (Some role) × (ports : List Port) × PortsOf service role ports
    × ListsAll ports before n after
ListsPorts number before service (TooShort n) after =
    (role : Role) × ReadsRole number (Some role) × (ports : List Port) × PortsOf service role ports
    × NeedsMore ports before n after
ListsPorts number before service (Refused status.UnknownRole) after = ReadsRole number None
    × (after ≡ before)
ListsPorts number before service (Refused status.RoleNotInPattern) after =
    (role : Role) × ReadsRole number (Some role)
    × IsNeither (first_role service.pattern) (second_role service.pattern) role × (after ≡ before)
ListsPorts number before service (Refused _) after = ⊥

-- the ids of these nodes, by rising slot, one for each handle
abbrev pub nodes_in : ContainerState ℕ → List Id
nodes_in nodes = map id_of (listed nodes.registry)

-- a listing of the nodes: the array before and after
abbrev pub ListsNodes : List Id → Held → Listed → List Id → Type 0
ListsNodes before service (All n) after = ListsAll (nodes_in service.nodes) before n after
ListsNodes before service (TooShort n) after = NeedsMore (nodes_in service.nodes) before n after
ListsNodes before service (Refused _) after = ⊥

-- so many were counted, or too many
abbrev pub Counts : ℕ → Option ℕ → Type 0
Counts n (Some count) = count ≡ n
Counts n None = 2 ^ 64 ≤ n

-- an item was put at this index, where there is one
abbrev pub PutsAt : {A : Type 0} → Option ℕ → A → List A → List A → Type 0
PutsAt (Some index) item old new =
    ((index < length old) × (new ≡ slice_set old index item))
    ⊎ ((length old ≤ index) × (new ≡ old))
PutsAt None item old new = new ≡ old

-- these items were counted, and stand at the front of an array that has room for them, whose other
-- elements are as they were; or they are too many to be counted
abbrev pub Stand : {A : Type 0} → List A → List A → List A → Option ℕ → Type 0
Stand before items after (Some count) =
    (count ≡ length items) × (length after ≡ length before)
    × (length items ≤ length before → after ≡ items ++ drop (length items) before)
Stand before items after None = (2 ^ 64 ≤ length items) × (length after ≡ length before)

-- all these items came behind those that stood in the array, whatever it was before them
abbrev pub NotesAll : {A : Type 0} → List A → List A × Option ℕ → List A × Option ℕ → Type 0
NotesAll {A} items old new =
    (before done : List A)
    → Stand before done old.0 old.1 → Stand before (done ++ items) new.0 new.1

-- an item that is to be listed came behind those that stood in the array
abbrev pub Notes : {A : Type 0} → Bool → List A × Option ℕ → A → List A × Option ℕ → Type 0
Notes true old item new = NotesAll (item ∷ []) old new
Notes false old item new = (new.0 ≡ old.0) × (new.1 ≡ old.1)

-- an array of this length has room for all ports of the service
abbrev pub AllFit : Held → ℕ → Type 0
AllFit service room =
    length service.ports.first.registry.entries + length service.ports.second.registry.entries
    ≤ room

-- the ports of a registry that have the node, by rising slot
abbrev pub ports_of_in : ℕ → ContainerState PortDetails → List Port
ports_of_in node ports = map c_port (details_where (is_of node_of node) ports.registry)

-- the ports of the role that have the node came behind those that stood in the array
abbrev pub NotesOfRole : Held → Role → ℕ → List Port × Option ℕ → List Port × Option ℕ → Type 0
NotesOfRole service role node old new =
    (role ≡ first_role service.pattern → NotesAll (ports_of_in node service.ports.first) old new)
    × (role ≡ second_role service.pattern
    → NotesAll (ports_of_in node service.ports.second) old new)

-- a listing of the ports of a node: the array before and after
abbrev pub ListsPortsOf : Id → List Port → Held → Listed → List Port → Type 0
ListsPortsOf id before service (All n) after =
    (node : ℕ) × ReadsNode id (Some node)
    × ListsAll (map c_port (ports_of_node node service.ports)) before n after
ListsPortsOf id before service (TooShort n) after =
    (node : ℕ) × ReadsNode id (Some node)
    × NeedsMore (map c_port (ports_of_node node service.ports)) before n after
ListsPortsOf id before service (Refused status.NoNode) after = ReadsNode id None × (after ≡ before)
ListsPortsOf id before service (Refused status.TooLarge) after =
    (node : ℕ) × ReadsNode id (Some node)
    × (2 ^ 64 ≤ length (map c_port (ports_of_node node service.ports))) × (after ≡ before)
ListsPortsOf id before service (Refused _) after = ⊥
