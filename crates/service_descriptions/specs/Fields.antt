-- What the fields of a session say, and the handles that a service has given.
use Rattle.std.specs.Prelude.{◌≡◌, ℕ, ◌<◌, List, Option, Some, None, All, AllPairs, map}
use Rattle.service_descriptions.specs.Prelude.{Role, Handle, Service, IsService, Description}
use Rattle.iox2_container.specs.declared.container.handle.Role.TheVariants as role
use Rattle.service_descriptions.specs.declared.replay.machine.session.Earlier.{Earlier}
use Rattle.service_descriptions.specs.declared.replay.machine.session.Earlier.TheVariants as earlier
use Rattle.service_descriptions.specs.declared.replay.machine.session.Session.TheInside.{Inside}
use Rattle.service_descriptions.specs.Steps.{Differ, State}

-- how many tickets a service has given for nodes, or for ports of a role
abbrev pub tickets_of : Service → Role → ℕ
tickets_of s role.Node = s.nodes.registry.used
tickets_of s role.Publisher = s.ports.first.registry.used
tickets_of s role.Listener = s.ports.first.registry.used
tickets_of s role.Server = s.ports.first.registry.used
tickets_of s role.Reader = s.ports.first.registry.used
tickets_of s _ = s.ports.second.registry.used

-- the service has given the ticket of the handle, if there is one
abbrev pub IsGiven : Service → Option Handle → Type 0
IsGiven s None = Unit {0}
IsGiven s (Some h) = h.ticket < tickets_of s h.role

-- the service has given these handles, and no two of them are equal
pub record KeepsHandles (s : Service) (handles : List (Option Handle)) : Type 0 where
  pub given : All (IsGiven s) handles
  pub differ : AllPairs Differ handles

-- the handle that is kept without the number of its service
abbrev pub handle_at : ℕ → Earlier → Option Handle
handle_at number earlier.Nothing = None
handle_at number (earlier.Given role slot ticket) =
    Some (record { service = number; role = role; slot = slot; ticket = ticket })

-- the handles that are kept without the number of their service
abbrev pub handles_in : ℕ → List Earlier → List (Option Handle)
handles_in number kept = map (handle_at number) kept

-- the state that the fields of a session stand for: nothing describes its service
abbrev pub session_of : Inside → State
session_of s =
    record {
      service = s.service;
      description = None;
      handles = handles_in s.number s.earlier.items;
    }

-- what is true of them: the service is one of this
-- number, and its registries have given the handles
pub record IsSound (s : Inside) : Type 0 where
  pub is_service : IsService s.service
  pub number_is : s.service.nodes.registry.service ≡ s.number
  pub keeps : KeepsHandles s.service (handles_in s.number s.earlier.items)

-- a state whose service is described so
abbrev pub described : State → Option Description → State
described s about = record s { description = about }
