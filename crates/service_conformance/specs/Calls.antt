-- Commands as they were called, calls as they were seen, and what they do.
use Rattle.std.specs.Prelude.{◌+◌, ◌<◌, ◌↔◌, ◌∷◌, ◌≡◌, ◌≢◌, AllPairs, Bool, List, None, Option, Some, [], false, slice_get, true, ℕ}
use Rattle.service_conformance.specs.Prelude.{ByPort, Command, Handle, IsService, Reply, Serves, Service, option_map, plain_of, text_of}
use Rattle.histories.specs.Histories.{AreAll}
use Rattle.iox2_container.specs.declared.container.handle.Role.{Role}
use Rattle.iox2_container.specs.declared.container.handle.Role.TheVariants as role
use Rattle.iox2_dynamic.specs.Details.{role_of}
use Rattle.service_descriptions.specs.declared.replay.machine.command.Command.TheVariants as command
use Rattle.service_descriptions.specs.declared.replay.machine.reply.Reply.TheVariants as reply
use Rattle.service_conformance.specs.declared.conformance.possible.Part.{Part}
use Rattle.service_conformance.specs.declared.conformance.possible.PossibleReplies.{PossibleReplies}
use Rattle.service_conformance.specs.declared.conformance.possible.PossibleReplies.TheVariants as replies
use Rattle.service_conformance.specs.Possible.{MayGiveIn}
use Rattle.service_conformance.specs.Quiet.{quiet}
use Rattle.service_conformance.specs.Words.{AllowsWords, AreSlotsRising}
use Rattle.service_conformance.specs.declared.conformance.seen_call.SeenCall.TheInside.{Inside}
use Rattle.service_conformance.specs.declared.conformance.request.Request.{Request}
use Rattle.service_conformance.specs.declared.conformance.request.Request.TheVariants as request
use Rattle.service_conformance.specs.Seen.{seen_text}

-- the command, which names its handle as command 0
abbrev pub request_command : Request → Command
request_command (request.Register id) = command.Register id
request_command (request.Deregister handle) = command.Deregister 0
request_command request.Nodes = command.Nodes
request_command (request.Add port) = command.Add (plain_of port)
request_command (request.Release handle) = command.Release 0
request_command (request.List role) = command.List role
request_command (request.Count role) = command.Count role
request_command (request.Dead node kept) = command.Dead node (ByPort kept)

-- the handle that it names, or none
abbrev pub request_handle : Request → Option Handle
request_handle (request.Deregister handle) = handle
request_handle (request.Release handle) = handle
request_handle _ = None

-- with this reply it leads from one service to another
abbrev pub ServesRequest : Request → Service → Reply → Service → Type 0
ServesRequest a old r new = Serves old None (request_handle a ∷ []) (request_command a) r new

-- A call: its command, the handle that the command names, if it names one, and the words of the
-- reply that was seen, or none. The command names it as command 0.
pub record Call : Type 0 where
  pub command : Command
  pub handle : Option Handle
  pub words : Option (List ℕ)

-- the command, where it names command 0
abbrev pub at_first : Command → Command
at_first (command.Deregister k) = command.Deregister 0
at_first (command.Release k) = command.Release 0
at_first c = c

-- the handle, where the command is a removal
abbrev pub handle_for : Command → Option Handle → Option Handle
handle_for (command.Deregister k) handle = handle
handle_for (command.Release k) handle = handle
handle_for c handle = None

-- the role of the entry that a command adds, if it adds one
abbrev pub command_adds : Command → Option Role
command_adds (command.Register id) = Some role.Node
command_adds (command.Add details) = Some (role_of details)
command_adds c = None

-- whether a command is a query of nodes or ports, which changes nothing
abbrev pub is_query : Command → Bool
is_query command.Nodes = true
is_query (command.List role) = true
is_query (command.Count role) = true
is_query _ = false

-- a call whose reply was not seen
abbrev pub call_of : Command → Option Handle → Call
call_of c handle = record { command = at_first c; handle = handle_for c handle; words = None }

-- the same call, where the reply that was seen has these words
abbrev pub answered : Call → List ℕ → Call
answered call words = record call { words = Some words }

-- the reply has the words that were seen; where none were seen, it may be any
abbrev pub HasWords : Option (List ℕ) → Reply → Type 0
HasWords None r = Unit {0}
HasWords (Some words) r = text_of r ≡ words

-- with this reply the command of the call leads from one service to another
abbrev pub ServesCall : Call → Service → Reply → Service → Type 0
ServesCall call old r new = Serves old None (call.handle ∷ []) call.command r new

-- with this reply the call leads to a service that is seen as the new one
abbrev pub LeadsOn : Call → Service → Reply → Service → Type 0
LeadsOn call s r new =
    (mid : Service) × ServesCall call s r mid × IsService mid × (quiet mid ≡ new)

-- the call leads to it with a handle of a slot below this one, which the registry may give
abbrev pub GivesBelow : Call → Service → Part → ℕ → Service → Type 0
GivesBelow call s p limit new =
    (h : Handle) × MayGiveIn s p h × (h.slot < limit) × LeadsOn call s (reply.Handle h) new

-- these are the services that it leads to so, each once
abbrev pub AreGivenBelow : Call → Service → Part → ℕ → List Service → Type 0
AreGivenBelow call s p limit found =
    AreAll (GivesBelow call s p limit) found × AllPairs (λ a b. a ≢ b) found

-- From a service of which no touch is counted, the call leads with a reply of its words to one that
-- is seen as the new one.
abbrev pub CallStep : Call → Service → Service → Type 0
CallStep call old new =
    IsService old × (quiet old ≡ old)
    × ((r : Reply) × HasWords call.words r × LeadsOn call old r new)

-- the call changes nothing, in whatever state it is made
abbrev pub ChangesNothing : Call → Type 0
ChangesNothing call = (old new : Service) → CallStep call old new → new ≡ old

-- the call can be made in this state, and changes nothing in whatever state it is made
abbrev pub IsIdleCall : Call → Service → Type 0
IsIdleCall call state = CallStep call state state × ChangesNothing call

-- the call has this number among these, the first of which has the first number
abbrev pub HasNumber : {C : Type 0} → ℕ → List C → ℕ → C → Type 0
HasNumber first calls number call =
    (at : ℕ) × (number ≡ first + at) × (slice_get calls at ≡ Some call)

-- none of them has this number
abbrev pub LacksNumber : {C : Type 0} → ℕ → List C → ℕ → Type 0
LacksNumber {C} first calls number = (call : C) → ¬ (HasNumber first calls number call)

-- the command can be asked: it has a reply, and leaves the service as it is
abbrev pub CanAsk : Service → List (Option Handle) → Command → Type 0
CanAsk s handles c = (r : Reply) × Serves s None handles c r s

-- These are the replies, by their words, with which the call leads from the service to another.
-- Where it is one alone, the call leads on with that reply itself.
pub record AreRepliesOf (s : Service) (call : Call) (p : PossibleReplies) : Type 0 where
  pub by_words : (words : List ℕ)
      → AllowsWords p words ↔ ((new : Service) × CallStep (answered call words) s new)
  pub itself : (r : Reply) → p ≡ replies.One r → (new : Service) × LeadsOn call s r new
  pub rising : AreSlotsRising p

-- the call that the fields tell
abbrev pub seen_as : Inside → Call
seen_as c = record {
  command = request_command c.request;
  handle = request_handle c.request;
  words = option_map seen_text c.seen;
}
