-- What the words of a reply tell.
use Rattle.std.specs.Prelude.{◌++◌, ◌<◌, ◌↔◌, ◌≡◌, ◌≢◌, All, AllPairs, List, None, Option, Some, codes, map, ℕ}
use Rattle.service_conformance.specs.Prelude.{Entry, Handle, IsSameReply, RegistryState, Reply, Service, decimal, text_of}
use Rattle.service_descriptions.specs.declared.replay.machine.reply.Reply.TheVariants as reply
use Rattle.service_conformance.specs.declared.conformance.possible.NextHandle.{NextHandle}
use Rattle.service_conformance.specs.declared.conformance.possible.Part.{Part}
use Rattle.service_conformance.specs.declared.conformance.possible.Part.TheVariants as part
use Rattle.service_conformance.specs.declared.conformance.possible.Possible.{Possible}
use Rattle.service_conformance.specs.declared.conformance.possible.PossibleReplies.{PossibleReplies}
use Rattle.service_conformance.specs.declared.conformance.possible.PossibleReplies.TheVariants as replies
use Rattle.service_conformance.specs.Possible.{Allows}
use Rattle.service_conformance.specs.Quiet.{CanServe}

-- the words of a handle
abbrev pub handle_words : ℕ → ℕ → List ℕ
handle_words slot ticket = codes "handle " ++ decimal slot ++ codes " " ++ decimal ticket

-- of the handles that may be given, the one with these words; none where none has them
abbrev pub ReadsReplyHandle : (Handle → Type 0) → List ℕ → Option Handle → Type 0
ReadsReplyHandle May words (Some h) =
    May h × (text_of (reply.Handle h) ≡ words)
    × ((other : Handle) → May other → text_of (reply.Handle other) ≡ words → h ≡ other)
ReadsReplyHandle May words None = (h : Handle) → May h → text_of (reply.Handle h) ≢ words

-- of the possible replies, the one with these words; none where none has them
abbrev pub ReadsReply : Service → Possible → List ℕ → Option Reply → Type 0
ReadsReply s p words (Some r) =
    Allows s p r × (text_of r ≡ words)
    × ((other : Reply) → Allows s p other → text_of other ≡ words → IsSameReply r other)
ReadsReply s p words None = (r : Reply) → Allows s p r → text_of r ≢ words

-- these are the handles that the next add may give
pub record IsNextHandle {T : Type 0} (r : RegistryState T) (next : NextHandle) : Type 0 where
  pub ticket : next.ticket ≡ r.used
  pub capacity : next.capacity ≡ r.capacity
  pub taken : next.taken.items ≡ map (λ (e : Entry T). e.slot) r.entries

-- these are the handles that the registry of the part may give next
abbrev pub IsNextIn : Service → Part → NextHandle → Type 0
IsNextIn s part.Nodes next = IsNextHandle s.nodes.registry next
IsNextIn s part.First next = IsNextHandle s.ports.first.registry next
IsNextIn s part.Second next = IsNextHandle s.ports.second.registry next

-- one of these replies has the words
abbrev pub AllowsWords : PossibleReplies → List ℕ → Type 0
AllowsWords (replies.One r) words = text_of r ≡ words
AllowsWords (replies.Handle next) words =
    (slot : ℕ) × (slot < next.capacity) × All (λ t. t ≢ slot) next.taken.items
    × (handle_words slot next.ticket ≡ words)
AllowsWords (replies.List lists) words = ⊥

-- the slots that are not free rise, and each is one of the registry
abbrev pub AreSlotsRising : PossibleReplies → Type 0
AreSlotsRising (replies.Handle next) =
    AllPairs (λ a b. a < b) next.taken.items × All (λ t. t < next.capacity) next.taken.items
AreSlotsRising _ = Unit {0}

-- These are the replies, by their words, with which the steps lead to a service. Where it is one
-- alone, it is that reply itself: two of other commands may have the same words.
pub record ArePossibleWords (Step : Reply → Service → Type 0) (p : PossibleReplies) : Type 0 where
  pub by_words : (words : List ℕ)
      → AllowsWords p words ↔ ((r : Reply) × (text_of r ≡ words) × CanServe Step r)
  pub itself : (r : Reply) → p ≡ replies.One r → CanServe Step r
  pub rising : AreSlotsRising p
