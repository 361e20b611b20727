-- Replies with one text are the same, but for the memory of a list.
use Rattle.history_logs.proofs.Words.{List, None, Says, SeenReply, [], ap, arith, codes, decimal, get_or, refl, sym, ℕ, ◌∙◌, ◌≡◌, ◌≢◌}
use Rattle.std.specs.Global.{Vec}
use Rattle.std.proofs.lemmas.List.{append_assoc, append_cancel_left}
use Rattle.line_streams.specs.OneWay.{listed_one}
use Rattle.log_lines.proofs.OneLine.{handle_same}
use Rattle.service_conformance.proofs.Seen.{is_named, listed_fit, listed_is, no_handle_text, same_count}
use Rattle.service_conformance.specs.declared.conformance.seen_reply.ReplyWord.{ReplyWord}
use Rattle.service_conformance.specs.declared.conformance.seen_reply.ReplyWord.TheVariants as word
use Rattle.service_conformance.specs.declared.conformance.seen_reply.SeenReply.TheVariants as seen
use Rattle.service_conformance.specs.IdWords.{printed_one}
use Rattle.service_conformance.specs.Possible.{reply_named}
use Rattle.service_conformance.specs.Seen.{IsSeen, seen_text, word_text}
use Rattle.service_conformance.specs.Words.{handle_words}
use Rattle.service_descriptions.specs.Steps.{handle_in}
use Rattle.service_descriptions.specs.declared.replay.machine.reply.Reply.{Reply}
use Rattle.service_descriptions.specs.declared.replay.machine.reply.Reply.TheVariants as replied
use Rattle.history_logs.specs.SameLogs.{IsSameReply}
use Rattle.history_logs.specs.SameLogs.IsSameReply.{other_ids, own_reply}

-- the reply without numbers
abbrev word_in : Reply → ReplyWord
word_in replied.Locked = word.Locked
word_in replied.Full = word.Full
word_in replied.NotRegistered = word.NotRegistered
word_in replied.HasOwners = word.HasOwners
word_in replied.NoMoreOwners = word.NoMoreOwners
word_in replied.PortsAttached = word.PortsAttached
word_in replied.Released = word.Released
word_in replied.NotOwned = word.NotOwned
word_in replied.NoHandle = word.NoHandle
word_in _ = word.WrongPattern

its_word : (w : ReplyWord) → word_in (reply_named w) ≡ w
its_word word.Locked = refl
its_word _ = refl

one_word : (v w : ReplyWord) → word_text v ≡ word_text w → v ≡ w
one_word v w e = sym (its_word v) ∙ (ap word_in (is_named (reply_named v) w e) ∙ its_word w)

no_handle : (w : ReplyWord) (slot ticket : ℕ) → word_text w ≢ handle_words slot ticket
no_handle w = no_handle_text (reply_named w) (none w)
  where
    none : (v : ReplyWord) → handle_in (reply_named v) ≡ None
    none word.Locked = refl
    none _ = refl

no_count : (w : ReplyWord) (n : ℕ) → replied.Count n ≢ reply_named w
no_count word.Locked n e = absurd (cc)
no_count _ n e = absurd (cc)

no_list : (w : ReplyWord) (ids : Vec ℕ) → replied.Nodes ids ≢ reply_named w
no_list word.Locked ids e = absurd (cc)
no_list _ ids e = absurd (cc)

same_seen : (r s : SeenReply) → IsSeen r → IsSeen s → seen_text r ≡ seen_text s → IsSameReply r s
same_seen (seen.Handle a b) (seen.Handle c d) p q e =
    let is =
    handle_same a b c d p q (sym (append_assoc (decimal a) (codes " ") (decimal b))
    ∙ (append_cancel_left (codes "handle ") _ _ e
    ∙ append_assoc (decimal c) (codes " ") (decimal d))) in
    rw (is.0, is.1) (own_reply (seen.Handle c d))
same_seen (seen.Word v) (seen.Word w) p q e = rw (one_word v w e) (own_reply (seen.Word w))
same_seen (seen.Count m) (seen.Count n) p q e =
    rw ((same_count m n p q).1 e) (own_reply (seen.Count n))
same_seen (seen.List ids) (seen.List others) p q e =
    other_ids ids others ((listed_one (codes " ") 32 printed_one).same (ids.items, [])
    (others.items, []) (listed_fit ids.items p) (listed_fit others.items q)
    (listed_is ids.items ∙ (append_cancel_left (codes "list") _ _ e ∙ sym (listed_is
    others.items)))).0
same_seen (seen.Word w) (seen.Handle a b) p q e = absurd (no_handle w a b e)
same_seen (seen.Handle a b) (seen.Word w) p q e = absurd (no_handle w a b (sym e))
same_seen (seen.Count n) (seen.Handle a b) p q e =
    absurd (no_handle_text (replied.Count n) refl a b e)
same_seen (seen.Handle a b) (seen.Count n) p q e =
    absurd (no_handle_text (replied.Count n) refl a b (sym e))
same_seen (seen.List ids) (seen.Handle a b) p q e =
    absurd (no_handle_text (replied.Nodes ids) refl a b e)
same_seen (seen.Handle a b) (seen.List ids) p q e =
    absurd (no_handle_text (replied.Nodes ids) refl a b (sym e))
same_seen (seen.Count n) (seen.Word w) p q e =
    absurd (no_count w n (is_named (replied.Count n) w e))
same_seen (seen.Word w) (seen.Count n) p q e =
    absurd (no_count w n (is_named (replied.Count n) w (sym e)))
same_seen (seen.List ids) (seen.Word w) p q e =
    absurd (no_list w ids (is_named (replied.Nodes ids) w e))
same_seen (seen.Word w) (seen.List ids) p q e =
    absurd (no_list w ids (is_named (replied.Nodes ids) w (sym e)))
same_seen (seen.Count n) (seen.List ids) p q e =
    absurd (omega (arith, ap (λ (l : List ℕ). get_or l 0 0) e))
same_seen (seen.List ids) (seen.Count n) p q e =
    absurd (omega (arith, ap (λ (l : List ℕ). get_or l 0 0) e))

pub same_says : (words : List ℕ) (r s : SeenReply) → Says words r → Says words s
    → IsSameReply r s
same_says words r s a b = same_seen r s a.is b.is (a.text ∙ sym b.text)
