-- Calls that overlap nothing, and runs.
use Rattle.std.specs.Prelude.{◌++◌, ◌<◌, ◌^◌, ◌↔◌, ◌∷◌, ◌≡◌, ◌≢◌, List, None, Option, Some, [], length, map, ℕ}
use Rattle.service_conformance.specs.Prelude.{AllByRecursion, Command, Handle, IsExplained, IsService, KeepsHandles, RegistryState, Reply, Role, Run, Service, State, calls_alone, named, role_of, text_of}
use Rattle.iox2_container.specs.declared.container.handle.Role.TheVariants as role
use Rattle.service_descriptions.specs.declared.replay.machine.command.Command.TheVariants as command
use Rattle.service_conformance.specs.Calls.{Call, answered, call_of}
use Rattle.service_conformance.specs.Judged.{Judged, WindowStep}
use Rattle.service_conformance.specs.Judged.Judged.{call}
use Rattle.service_conformance.specs.Looks.{unwatched}
use Rattle.service_conformance.specs.Quiet.{quiet}
use Rattle.service_conformance.specs.Words.{handle_words}

-- the role of what the command adds
abbrev pub added_role : Command → Role
added_role (command.Add d) = role_of d
added_role _ = role.Node

-- the handle that the command names, where earlier ones gave these
abbrev pub handle_named : List (Option Handle) → Command → Option Handle
handle_named handles (command.Deregister k) = named handles k
handle_named handles (command.Release k) = named handles k
handle_named handles _ = None

-- the handle that a reply with these words to the command gives, on the service of this number; or
-- that it gives none
abbrev pub Gives : ℕ → Command → List ℕ → Option Handle → Type 0
Gives number c words (Some h) =
    (words ≡ handle_words h.slot h.ticket) × (h.slot < 2 ^ 64) × (h.ticket < 2 ^ 64)
    × (h.service ≡ number) × (h.role ≡ added_role c)
Gives number c words None =
    (slot ticket : ℕ) → slot < 2 ^ 64 → ticket < 2 ^ 64 → handle_words slot ticket ≢ words

-- a command, the words of its reply, and the handle that they give, or none
pub record Answered : Type 0 where
  pub command : Command
  pub words : List ℕ
  pub given : Option Handle

-- the calls of these commands, where earlier ones gave these handles
abbrev pub calls_of : List (Option Handle) → List Answered → List Call
calls_of handles [] = []
calls_of handles (a ∷ others) =
    answered (call_of a.command (handle_named handles a.command)) a.words
    ∷ calls_of (handles ++ a.given ∷ []) others

-- slots and tickets are numbers of 64 bits
pub record IsBoundedRegistry {T : Type 0} (r : RegistryState T) : Type 0 where
  pub slots : r.capacity < 2 ^ 64
  pub tickets : r.budget < 2 ^ 64

pub record IsBounded (s : Service) : Type 0 where
  pub nodes : IsBoundedRegistry s.nodes.registry
  pub first : IsBoundedRegistry s.ports.first.registry
  pub second : IsBoundedRegistry s.ports.second.registry

-- a service without a description, of which no touch is counted, and which has given the handles
pub record IsBare (s : State) : Type 0 where
  pub is_service : IsService s.service
  pub keeps : KeepsHandles s.service s.handles
  pub bounded : IsBounded s.service
  pub bare : s.description ≡ None
  pub rest : quiet s.service ≡ s.service

-- the same, as calls that are judged
abbrev pub judged_of : List (Option Handle) → List Answered → List Judged
judged_of handles reported = map (λ (c : Call). call c) (calls_of handles reported)

-- Calls that overlap nothing are a run as scripts have it: some order explains them exactly where
-- there are replies with these words which are a run of the commands.
abbrev pub CallsAloneAreRuns : Type 0
CallsAloneAreRuns =
    (old : State) (reported : List Answered) → IsBare old
    → AllByRecursion (λ a. Gives old.service.nodes.registry.service a.command a.words a.given)
    reported
    → IsExplained (WindowStep 0 (judged_of old.handles reported)) (calls_alone (length reported))
    (unwatched old.service ∷ [])
    ↔ ((replies : List Reply) × (map text_of replies ≡ map (λ (a : Answered). a.words) reported)
    × ((new : State) × Run old (map (λ (a : Answered). a.command) reported) replies new))
