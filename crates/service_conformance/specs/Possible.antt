-- The replies that a run could give.
use Rattle.std.specs.Prelude.{◌≡◌, Bool, None, Option, Some, false, true}
use Rattle.service_conformance.specs.Prelude.{ContainerAddFailure, Handle, IsLocked, IsSameReply, IsService, OutOfSpace, Reply, Service}
use Rattle.service_descriptions.specs.declared.replay.machine.reply.Reply.TheVariants as reply
use Rattle.service_conformance.specs.declared.conformance.line_reply.LineReply.{LineReply}
use Rattle.service_conformance.specs.declared.conformance.line_reply.LineReply.TheVariants as line
use Rattle.service_conformance.specs.declared.conformance.possible.Part.{Part}
use Rattle.service_conformance.specs.declared.conformance.possible.Part.TheVariants as part
use Rattle.service_conformance.specs.declared.conformance.possible.Possible.{Possible}
use Rattle.service_conformance.specs.declared.conformance.possible.Possible.TheVariants as possible
use Rattle.service_conformance.specs.declared.conformance.seen_reply.ReplyWord.{ReplyWord}
use Rattle.service_conformance.specs.declared.conformance.seen_reply.ReplyWord.TheVariants as word
use Rattle.service_conformance.specs.Entries.{MayGive}

-- the registry of this part may give the handle next
abbrev pub MayGiveIn : Service → Part → Handle → Type 0
MayGiveIn s part.Nodes handle = MayGive s.nodes.registry handle
MayGiveIn s part.First handle = MayGive s.ports.first.registry handle
MayGiveIn s part.Second handle = MayGive s.ports.second.registry handle

-- the reply without numbers that has this name
abbrev pub reply_named : ReplyWord → Reply
reply_named word.Locked = reply.Locked
reply_named word.Full = reply.Full
reply_named word.NotRegistered = reply.NotRegistered
reply_named word.HasOwners = reply.HasOwners
reply_named word.NoMoreOwners = reply.NoMoreOwners
reply_named word.PortsAttached = reply.PortsAttached
reply_named word.Released = reply.Released
reply_named word.NotOwned = reply.NotOwned
reply_named word.NoHandle = reply.NoHandle
reply_named word.WrongPattern = reply.WrongPattern

-- the reply itself
abbrev pub reply_in : LineReply → Reply
reply_in (line.Handle h) = reply.Handle h
reply_in (line.Word w) = reply_named w
reply_in (line.Nodes ids) = reply.Nodes ids
reply_in (line.Ports ports) = reply.Ports ports
reply_in (line.Count n) = reply.Count n

-- the reply is one of these
abbrev pub Allows : Service → Possible → Reply → Type 0
Allows s (possible.One one) r = IsSameReply (reply_in one) r
Allows s (possible.Given in_part) r =
    (handle : Handle) × (r ≡ reply.Handle handle) × MayGiveIn s in_part handle

-- these are the replies with which a command, whose steps these are, leads to a service
pub record ArePossible (s : Service) (Step : Reply → Service → Type 0) (p : Possible) : Type 0 where
  pub can : (r : Reply) → Allows s p r → (new : Service) × Step r new × IsService new
  pub only : (r : Reply) (new : Service) → Step r new → IsService new → Allows s p r

-- the replies to an add in this part, by why it is refused
abbrev pub possible_add : Option ContainerAddFailure → Part → Possible
possible_add None in_part = possible.Given in_part
possible_add (Some IsLocked) in_part = possible.One (line.Word word.Locked)
possible_add (Some OutOfSpace) in_part = possible.One (line.Word word.Full)

-- how a service answers whether it is locked, when entries were removed
abbrev pub reply_of_owners : Bool → LineReply
reply_of_owners true = line.Word word.NoMoreOwners
reply_of_owners false = line.Word word.HasOwners
