-- The text of a reply.
use Rattle.std.specs.Prelude.{◌≡◌, ℕ, true, false, List, [], ◌∷◌, ◌++◌, codes}
use Rattle.service_descriptions.specs.Prelude.{decimal, flat_map, hexadecimal, port_value, verification_error_text, PortDetails, port_of, Reply}
use Rattle.service_descriptions.specs.declared.replay.machine.reply.LineReply.{LineReply}
use Rattle.service_descriptions.specs.declared.replay.machine.reply.LineReply.TheVariants as line
use Rattle.service_descriptions.specs.declared.replay.machine.reply.Reply.TheVariants as reply

-- a space and an id, as it prints
abbrev pub id_word : ℕ → List ℕ
id_word id = 32 ∷ hexadecimal id

-- a space and the id of a port
abbrev pub port_word : PortDetails → List ℕ
port_word details = id_word (port_value (port_of details))

-- the words of a reply
abbrev pub text_of : Reply → List ℕ
text_of (reply.Handle handle) = codes "handle " ++ decimal handle.slot ++ codes " "
    ++ decimal handle.ticket
text_of reply.Locked = codes "locked"
text_of reply.Full = codes "full"
text_of reply.NotRegistered = codes "not-registered"
text_of reply.HasOwners = codes "has-owners"
text_of reply.NoMoreOwners = codes "no-owners"
text_of reply.PortsAttached = codes "ports-attached"
text_of reply.Released = codes "released"
text_of reply.NotOwned = codes "not-owned"
text_of reply.NoHandle = codes "no-handle"
text_of (reply.Nodes ids) = codes "list" ++ flat_map id_word ids.items
text_of (reply.Ports ports) = codes "list" ++ flat_map port_word ports.items
text_of (reply.Count n) = codes "count " ++ decimal n
text_of reply.Verified = codes "verified"
text_of (reply.Refused fault) = codes "refused " ++ verification_error_text fault
text_of (reply.Layout room) = codes "layout " ++ decimal room.size ++ codes " "
    ++ decimal room.alignment
text_of reply.NoLayout = codes "no-layout"
text_of (reply.Places user_header payload) = codes "places " ++ decimal user_header ++ codes " "
    ++ decimal payload
text_of reply.NoPlaces = codes "no-places"
text_of (reply.Compatible true) = codes "compatible"
text_of (reply.Compatible false) = codes "incompatible"
text_of reply.NoAlignments = codes "no-alignments"
text_of reply.WrongPattern = codes "wrong-pattern"
text_of reply.NoDescription = codes "no-description"

-- the line of a reply, with its newline
abbrev pub reply_line : Reply → List ℕ
reply_line r = text_of r ++ 10 ∷ []

-- the reply without a list to a command that has a line
abbrev pub reply_of : LineReply → Reply
reply_of (line.Handle handle) = reply.Handle handle
reply_of line.Locked = reply.Locked
reply_of line.Full = reply.Full
reply_of line.NotRegistered = reply.NotRegistered
reply_of line.HasOwners = reply.HasOwners
reply_of line.NoMoreOwners = reply.NoMoreOwners
reply_of line.PortsAttached = reply.PortsAttached
reply_of line.Released = reply.Released
reply_of line.NotOwned = reply.NotOwned
reply_of line.NoHandle = reply.NoHandle
reply_of (line.Count n) = reply.Count n
reply_of line.WrongPattern = reply.WrongPattern

-- the same reply, with the same items in its list
abbrev pub IsSameReply : Reply → Reply → Type 0
IsSameReply (reply.Nodes one) (reply.Nodes other) = one.items ≡ other.items
IsSameReply (reply.Ports one) (reply.Ports other) = one.items ≡ other.items
IsSameReply one other = one ≡ other
