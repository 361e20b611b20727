-- Calls that can be made before others, wherever they can be made right after them.
use Rattle.std.specs.Prelude.{◌≡◌, ◌≢◌, List, Option, Some, ℕ}
use Rattle.service_conformance.specs.Prelude.{Handle, PortDetails, node_of, role_of}
use Rattle.service_descriptions.specs.declared.replay.machine.command.Command.TheVariants as command
use Rattle.service_conformance.specs.declared.conformance.mover.Change.{Change}
use Rattle.service_conformance.specs.declared.conformance.mover.Change.TheVariants as change
use Rattle.service_conformance.specs.declared.conformance.seen_reply.ReplyWord.TheVariants as word
use Rattle.service_conformance.specs.Calls.{Call, HasNumber}
use Rattle.service_conformance.specs.Judged.{CallLeaves, Judged}
use Rattle.service_conformance.specs.Judged.Judged.{call}
use Rattle.service_conformance.specs.Looks.{Watched}
use Rattle.service_conformance.specs.Seen.{word_text}
use Rattle.service_conformance.specs.Words.{handle_words}

-- the words are those of a handle
abbrev pub GaveHandle : Option (List ℕ) → Type 0
GaveHandle words = (slot : ℕ) × (ticket : ℕ) × (words ≡ Some (handle_words slot ticket))

-- the call, by its command and the words of its reply, makes the change
abbrev pub IsChange : Change → Call → Type 0
IsChange change.NodeRemoved c =
    ((k : ℕ) × (c.command ≡ command.Deregister k)) × (c.words ≡ Some (word_text word.HasOwners))
IsChange (change.PortRemoved role) c =
    ((k : ℕ) × (c.command ≡ command.Release k))
    × ((h : Handle) × (c.handle ≡ Some h) × (h.role ≡ role))
    × (c.words ≡ Some (word_text word.Released))
IsChange (change.NodeRegistered id) c = (c.command ≡ command.Register id) × GaveHandle c.words
IsChange (change.PortAdded role node) c =
    ((d : PortDetails) × (c.command ≡ command.Add d) × (role_of d ≡ role) × (node_of d ≡ node))
    × GaveHandle c.words

-- the call, wherever it can be made right after the other, can be made right before it, and both
-- leave the same
abbrev pub MovesBeforeCall : Call → Call → Type 0
MovesBeforeCall c other =
    (old mid new : Watched) → CallLeaves other old mid → CallLeaves c mid new
    → (m : Watched) × CallLeaves c old m × CallLeaves other m new

-- a call with the first change moves before one with the second
abbrev pub CanPrecede : Change → Change → Type 0
CanPrecede change.NodeRemoved change.NodeRemoved = Unit {0}
CanPrecede (change.PortRemoved role) change.NodeRemoved = Unit {0}
CanPrecede (change.PortRemoved role) (change.PortRemoved to) = Unit {0}
CanPrecede (change.PortRemoved role) (change.NodeRegistered id) = Unit {0}
CanPrecede (change.PortRemoved role) (change.PortAdded to node) = role ≢ to
CanPrecede (change.NodeRegistered id) (change.PortRemoved role) = Unit {0}
CanPrecede (change.NodeRegistered id) (change.PortAdded role node) = Unit {0}
CanPrecede (change.PortAdded role node) change.NodeRemoved = Unit {0}
CanPrecede (change.PortAdded role node) (change.NodeRegistered id) = node ≢ id
CanPrecede (change.PortAdded role node) (change.PortRemoved to) = role ≢ to
CanPrecede (change.PortAdded role node) (change.PortAdded to other) = role ≢ to
CanPrecede _ _ = ⊥

-- it is a call that makes the change
abbrev pub MakesChange : Change → Judged → Type 0
MakesChange change j = (c : Call) × (j ≡ call c) × IsChange change c

-- what has the number is a call that makes the change
abbrev pub ChangesAt : ℕ → List Judged → ℕ → Change → Type 0
ChangesAt first calls number change =
    (j : Judged) × HasNumber first calls number j × MakesChange change j
