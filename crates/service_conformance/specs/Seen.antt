-- What the words of replies say.
use Rattle.std.specs.Prelude.{◌++◌, ◌<◌, ◌^◌, ◌≡◌, All, Bool, List, codes, false, get_or, true, ℕ}
use Rattle.service_conformance.specs.Prelude.{IsId, Reply, Spelling, decimal, flat_map, hexadecimal, id_word, port_of, port_value, text_of}
use Rattle.service_descriptions.specs.declared.replay.machine.reply.Reply.TheVariants as reply
use Rattle.service_conformance.specs.declared.conformance.seen_reply.ReplyWord.{ReplyWord}
use Rattle.service_conformance.specs.declared.conformance.seen_reply.ReplyWord.TheVariants as word
use Rattle.service_conformance.specs.declared.conformance.seen_reply.SeenReply.{SeenReply}
use Rattle.service_conformance.specs.declared.conformance.seen_reply.SeenReply.TheVariants as seen
use Rattle.service_conformance.specs.Possible.{reply_named}
use Rattle.service_conformance.specs.Words.{handle_words}

-- the words of a reply without numbers
abbrev pub word_text : ReplyWord → List ℕ
word_text w = text_of (reply_named w)

-- the words of a list of ids
abbrev pub list_words : List ℕ → List ℕ
list_words ids = codes "list" ++ flat_map id_word ids

-- the words of a count
abbrev pub count_words : ℕ → List ℕ
count_words n = codes "count " ++ decimal n

-- the words that say so
abbrev pub seen_text : SeenReply → List ℕ
seen_text (seen.Handle slot ticket) = handle_words slot ticket
seen_text (seen.Word w) = word_text w
seen_text (seen.List ids) = list_words ids.items
seen_text (seen.Count n) = count_words n

-- its numbers are of 64 bits, and its ids of 128
abbrev pub IsSeen : SeenReply → Type 0
IsSeen (seen.Handle slot ticket) = (slot < 2 ^ 64) × (ticket < 2 ^ 64)
IsSeen (seen.Word w) = Unit {0}
IsSeen (seen.List ids) = All IsId ids.items
IsSeen (seen.Count n) = n < 2 ^ 64

-- The reply is one to a command that has a line, with numbers of 64 bits and ids of 128.
abbrev pub IsToLine : Reply → Type 0
IsToLine (reply.Handle handle) = (handle.slot < 2 ^ 64) × (handle.ticket < 2 ^ 64)
IsToLine (reply.Nodes ids) = All IsId ids.items
IsToLine (reply.Ports ports) = All (λ d. IsId (port_value (port_of d))) ports.items
IsToLine (reply.Count n) = n < 2 ^ 64
IsToLine reply.Verified = ⊥
IsToLine (reply.Refused fault) = ⊥
IsToLine (reply.Layout room) = ⊥
IsToLine reply.NoLayout = ⊥
IsToLine (reply.Places user_header payload) = ⊥
IsToLine reply.NoPlaces = ⊥
IsToLine (reply.Compatible can) = ⊥
IsToLine reply.NoAlignments = ⊥
IsToLine reply.NoDescription = ⊥
IsToLine _ = Unit {0}

-- whether a reply that says so says that nothing changed
abbrev pub changes_nothing : SeenReply → Bool
changes_nothing (seen.Handle slot ticket) = false
changes_nothing (seen.Word word.HasOwners) = false
changes_nothing (seen.Word word.NoMoreOwners) = false
changes_nothing (seen.Word word.Released) = false
changes_nothing (seen.Word _) = true
changes_nothing (seen.List ids) = true
changes_nothing (seen.Count n) = true

-- the text ends, or a space is next
abbrev pub EndsWord : List ℕ → Type 0
EndsWord rest = get_or rest 0 32 ≡ 32

-- an id, as it prints, up to a space or the end
abbrev pub printed_id : Spelling ℕ
printed_id = record {
  Fits = λ front. IsId front.0 × EndsWord front.1;
  text = λ front. hexadecimal front.0 ++ front.1;
}
