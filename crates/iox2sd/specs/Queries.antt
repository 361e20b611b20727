-- Questions to a service, about ids and about what a handle stands for, and what they answer.
use Rattle.std.specs.Prelude.{◌≡◌, ◌↔◌, ℕ, Bool, IsTrue, Some, None, Result, Ok, Err, ◌+◌, nat_lt, List}
use Rattle.iox2_container.specs.State.{RegistryState, Handle as Named}
use Rattle.iox2sd.specs.Prelude.{TakesEntry, Role, PortDetails, OfRole, HasRole, TakesPort, first_role, second_role, Roles, Status, IsUnknownHandle, HasEntry, IsNoPort, StandsAmong, id_of, number_of, ReadsText, Handle, Id, Port, IdAnswer}
use Rattle.iox2_dynamic.specs.Service.{Service as Held}
use Rattle.iox2sd.specs.Ports.{role_number, ReadsRole, ReadsHandle, c_port}
use Rattle.iox2sd_common.specs.declared.status.Status.TheVariants as status
use Rattle.iox2sd.specs.Answers.{id_answer}
use Rattle.iox2sd_common.specs.Answers.{Returns}

-- a question that is never refused: the answer is this of the service
abbrev pub Gives : {A : Type 0} → (Held → A) → Held → Result A Status → Type 0
Gives f service made = made ≡ Ok (f service)

-- the roles of the pattern's ports
abbrev pub roles_in : Held → Roles
roles_in s =
    record {
      first = role_number (first_role s.pattern);
      second = role_number (second_role s.pattern);
    }

-- whether the pattern has ports of a role
abbrev pub RoleAnswer : ℕ → Held → Result Bool Status → Type 0
RoleAnswer number s (Ok has_it) = (role : Role) × ReadsRole number (Some role)
    × (IsTrue has_it ↔ HasRole s.pattern role)
RoleAnswer number s (Err status.UnknownRole) = ReadsRole number None
RoleAnswer number s (Err _) = ⊥

-- whether there is room for a node
abbrev pub NodeRoomAnswer : Held → Result Bool Status → Type 0
NodeRoomAnswer s (Ok is_so) = IsTrue is_so ↔ TakesEntry s.nodes.registry
NodeRoomAnswer s (Err _) = ⊥

-- what is said of the ports of a role: a number, or why there is none
abbrev pub PortsAnswer : (RegistryState PortDetails → ℕ → Type 0) → ℕ → Held → Result ℕ Status
    → Type 0
PortsAnswer says number s (Ok n) =
    (role : Role) × ReadsRole number (Some role)
    × OfRole says (first_role s.pattern) (second_role s.pattern) s.ports role (Some n)
PortsAnswer says number s (Err status.UnknownRole) = ReadsRole number None
PortsAnswer says number s (Err status.RoleNotInPattern) =
    (role : Role) × ReadsRole number (Some role)
    × OfRole says (first_role s.pattern) (second_role s.pattern) s.ports role None
PortsAnswer says number s (Err _) = ⊥

-- whether there is room for a port of a role
abbrev pub RoomAnswer : ℕ → Held → Result Bool Status → Type 0
RoomAnswer number s (Ok is_so) =
    (role : Role) × ReadsRole number (Some role) × HasRole s.pattern role
    × (IsTrue is_so ↔ TakesPort s role)
RoomAnswer number s (Err status.UnknownRole) = ReadsRole number None
RoomAnswer number s (Err status.RoleNotInPattern) =
    (role : Role) × ReadsRole number (Some role) × (¬ (HasRole s.pattern role))
RoomAnswer number s (Err _) = ⊥

-- the parts are those of a node
abbrev pub is_node : Id → Bool
is_node id = nat_lt 0 (id.process + id.counter)

-- the number of the first is below that of the second
abbrev pub is_before : Id → Id → Bool
is_before id other = nat_lt (number_of id) (number_of other)

-- the id whose text this is
abbrev pub ReportsId : List ℕ → IdAnswer → Type 0
ReportsId text answer = Returns id_answer (ReadsText text) answer

-- the node of a handle
abbrev pub FindsNode : Handle → Held → Result Id Status → Type 0
FindsNode handle s (Ok id) =
    (named : Named) × ReadsHandle handle (Some named)
    × (node : ℕ) × HasEntry s.nodes.registry named node × (id ≡ id_of node)
FindsNode handle s (Err status.UnknownRole) = ReadsHandle handle None
FindsNode handle s (Err status.ForeignHandle) =
    (named : Named) × ReadsHandle handle (Some named) × IsUnknownHandle s.nodes.registry named
FindsNode handle s (Err _) = ⊥

-- the port of a handle
abbrev pub FindsPort : Handle → Held → Result Port Status → Type 0
FindsPort handle s (Ok port) =
    (named : Named) × ReadsHandle handle (Some named)
    × (d : PortDetails) × StandsAmong s.ports named d × (port ≡ c_port d)
FindsPort handle s (Err status.UnknownRole) = ReadsHandle handle None
FindsPort handle s (Err status.ForeignHandle) =
    (named : Named) × ReadsHandle handle (Some named) × IsNoPort s.ports named
FindsPort handle s (Err _) = ⊥
