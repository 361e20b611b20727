-- What is judged of a service: calls, and weak listings that start and stop.
use Rattle.std.specs.Prelude.{if◌then◌else◌, ◌++◌, ◌+◌, ◌<◌, ◌==◌, ◌↔◌, ◌∷◌, ◌≡◌, List, None, Option, Some, [], length, slice_get, ℕ}
use Rattle.service_conformance.specs.Prelude.{option_map}
use Rattle.iox2_container.specs.declared.container.handle.Role.{Role}
use Rattle.service_conformance.specs.declared.conformance.possible.Part.{Part}
use Rattle.service_conformance.specs.declared.conformance.possible.PossibleReplies.{PossibleReplies}
use Rattle.service_conformance.specs.declared.conformance.possible.PossibleReplies.TheVariants as replies
use Rattle.service_conformance.specs.declared.conformance.possible.PossibleList.{PossibleList}
use Rattle.service_conformance.specs.declared.conformance.seen_reply.SeenReply.{SeenReply}
use Rattle.service_conformance.specs.declared.conformance.seen_reply.SeenReply.TheVariants as seen
use Rattle.service_conformance.specs.Calls.{AreRepliesOf, Call, CallStep, HasNumber, answered, command_adds}
use Rattle.service_conformance.specs.Looks.{IsWatched, LacksNothing, Look, Watched, look_of, looks_after, watched}
use Rattle.service_conformance.specs.declared.conformance.judged_call.JudgedCall.TheInside.{Inside}
use Rattle.service_conformance.specs.declared.conformance.judged_call.What.{What}
use Rattle.service_conformance.specs.declared.conformance.judged_call.What.TheVariants as what
use Rattle.service_conformance.specs.Seen.{seen_text}

-- What is judged: a call; a weak listing of a part that starts to look, with the ids of its reply,
-- if one was seen; or one that stops, by the number with which it began, with the reply.
pub data Judged : Type 0 where
  call : Call → Judged
  starts : Part → Option (List ℕ) → Judged
  stops : (start : ℕ) → Option SeenReply → Judged

-- the words of the reply that was seen, if it has one
abbrev pub words_of : Judged → Option (List ℕ)
words_of (call c) = c.words
words_of (starts p reply) = None
words_of (stops start reply) = option_map seen_text reply

-- the ids in a reply, if it is a list
abbrev pub ids_seen : SeenReply → List ℕ
ids_seen (seen.List ids) = ids.items
ids_seen _ = []

-- the reply is a list
abbrev pub IsList : SeenReply → Type 0
IsList (seen.List ids) = Unit {0}
IsList _ = ⊥

-- the same, where this reply was seen
abbrev pub judged_answered : Judged → SeenReply → Judged
judged_answered (call c) r = call (answered c (seen_text r))
judged_answered (starts p reply) r = starts p reply
judged_answered (stops start reply) r = stops start (Some r)

-- the same, where this is the reply to the weak listing that starts
abbrev pub shown : Judged → SeenReply → Judged
shown (starts p reply) r = starts p (Some (ids_seen r))
shown c r = c

-- the number of the weak listing that stops
abbrev pub stopped : Judged → Option ℕ
stopped (stops start reply) = Some start
stopped _ = None

-- the role of the entry that it adds, if it is a call that adds one
abbrev pub role_added : Judged → Option Role
role_added (call c) = command_adds c.command
role_added _ = None

-- a weak listing with this number starts to look at the service
abbrev pub StartsLook : ℕ → Part → Option (List ℕ) → Watched → Watched → Type 0
StartsLook number p None old new = new ≡ old
StartsLook number p (Some reply) old new =
    new ≡ record old {
      looks = old.looks
          ++ looks_after old.service (look_of number p reply old.service ∷ []);
    }

-- the weak listing that began with this number may stop: where it has a reply, this is a list, and
-- lacks nothing
abbrev pub MayStop : ℕ → Option SeenReply → Watched → Type 0
MayStop start None w = Unit {0}
MayStop start (Some r) w = IsList r × LacksNothing w.looks start

-- the call leads from one to another, and the weak listings look at what it leaves
abbrev pub CallLeaves : Call → Watched → Watched → Type 0
CallLeaves c old new =
    IsWatched old × CallStep c old.service new.service × (new ≡ watched new.service old.looks)

-- What has this number leads from one to another. A weak listing looks at the service where it
-- starts, and after each call until it stops.
abbrev pub JudgedStep : ℕ → Judged → Watched → Watched → Type 0
JudgedStep number (call c) old new = CallLeaves c old new
JudgedStep number (starts p reply) old new = StartsLook number p reply old new
JudgedStep number (stops start reply) old new = MayStop start reply old × (new ≡ old)

-- it changes nothing, in whatever state it is made
abbrev pub IsIdleJudged : ℕ → Judged → Type 0
IsIdleJudged number c = (old new : Watched) → JudgedStep number c old new → new ≡ old

-- what has this number is one of these, and leads from one to another
abbrev pub WindowStep : ℕ → List Judged → Watched → ℕ → Watched → Type 0
WindowStep first calls old number new =
    (c : Judged) × HasNumber first calls number c × JudgedStep number c old new

-- what the weak listing with this number lacks: ids of which none was there, and ids that were
-- there all the while
abbrev pub ids_lacking : List Look → ℕ → List ℕ × List ℕ
ids_lacking [] start = ([], [])
ids_lacking (l ∷ looks) start =
    if l.number == start then (l.unseen, l.lasting) else ids_lacking looks start

-- this is returned of the replies that it may have: of a call they are listed; of a weak listing
-- that stops, the ids that its reply must not have, and those that it has to have
abbrev pub AreJudgedReplies : Watched → Judged → PossibleReplies → Type 0
AreJudgedReplies w (call c) p = AreRepliesOf w.service c p
AreJudgedReplies w (starts p reply) reported = Unit {0}
AreJudgedReplies w (stops start reply) reported =
    (lists : PossibleList) × (reported ≡ replies.List lists)
    × ((lists.unseen.items, lists.missing.items) ≡ ids_lacking w.looks start)

-- the number is that of one of so many calls from the first one on
abbrev pub IsWithin : ℕ → ℕ → ℕ → Type 0
IsWithin first count number = (at : ℕ) × (at < count) × (number ≡ first + at)

-- A window of calls makes those that it has as all calls do.
abbrev pub WindowsAgree : Type 0
WindowsAgree =
    (first : ℕ) (calls all : List Judged)
    → ((at : ℕ) → at < length calls → slice_get calls at ≡ slice_get all (first + at))
    → (number : ℕ) → IsWithin first (length calls) number → (old new : Watched)
    → WindowStep first calls old number new ↔ WindowStep 0 all old number new

-- what the fields tell
abbrev pub what_of : What → Judged
what_of (what.Call c) = call c
what_of (what.Starts p None) = starts p None
what_of (what.Starts p (Some ids)) = starts p (Some ids.items)
what_of (what.Stops start reply) = stops start reply

-- what is judged, by its fields
abbrev pub judged_of : Inside → Judged
judged_of c = what_of c.what
