-- What words tell.
use Rattle.service_conformance.proofs.Names.{All-map, List, None, Option, Some, [], ap, append-nil, append_assoc, append_cancel_left, arith, codes, decimal, decimal_injective, map, refl, subst, sym, ℕ, ◌++◌, ◌+◌, ◌<◌, ◌^◌, ◌∙◌, ◌∷◌, ◌≡◌, ◌≢◌, get_or-map, length-map, false, inl, inr, ◌⊎◌, AllPairs, AllowsWords, ArePossible, ArePossibleWords, AreSlotsRising, IsRegistry, IsService, length, Bytes, EndsNumber, Entry, Handle, IsNextHandle, IsNextIn, IsSameReply, MayGive, MayGiveIn, NextHandle, Part, RegistryState, Reply, Service, Spelling, ReadsReplyHandle, after, handle_words, line_end, number_one, sequence, text_of, handle_in, is_removal, All, CanServe, LineReply, PortDetails, PossibleReplies, flat_map, id_word, port_word, reply_in}
use Rattle.service_descriptions.specs.declared.replay.machine.reply.Reply.TheVariants as reply
use Rattle.service_descriptions.proofs.Lines.{any_fits, any_number}
use Rattle.service_conformance.specs.declared.conformance.possible.Part.TheVariants as part
use Rattle.service_conformance.specs.declared.conformance.possible.Possible.TheVariants as possible
use Rattle.service_conformance.specs.declared.conformance.possible.PossibleReplies.TheVariants as replies

-- the text of a handle: its slot, a space, and the rest
spaced : (slot ticket : ℕ) → codes "handle " ++ decimal slot ++ codes " " ++ decimal ticket
    ≡ codes "handle " ++ (decimal slot ++ 32 ∷ decimal ticket)
spaced slot ticket = grind (arith, append_assoc)

-- handles with the same parts are the same
pub one_handle : (h k : Handle) → h.service ≡ k.service → h.role ≡ k.role → h.slot ≡ k.slot
    → h.ticket ≡ k.ticket → h ≡ k
one_handle h k a b c d = grind arith

-- handles of one slot that may be given are the same
pub same_handle : {T : Type 0} (r : RegistryState T) (h k : Handle) → MayGive r h → MayGive r k
    → h.slot ≡ k.slot → h ≡ k
same_handle r h k m n e =
    one_handle h k (m.service ∙ sym n.service) (m.role ∙ sym n.role) e (m.ticket ∙ sym n.ticket)

pub same_reply : (r : Reply) → IsSameReply r r
same_reply (reply.Nodes ids) = refl
same_reply (reply.Ports ports) = refl
same_reply _ = refl

-- the reply gives no handle, and is of no removal
abbrev pub IsPlain : Reply → Type 0
IsPlain r = (handle_in r ≡ None) × (is_removal r ≡ false)

-- replies that are the same are equal, or lists
pub same_or_plain : (r q : Reply) → IsSameReply r q → (r ≡ q) ⊎ (IsPlain r × IsPlain q)
same_or_plain (reply.Nodes ids) (reply.Nodes other) e = inr ((refl, refl), (refl, refl))
same_or_plain (reply.Ports ports) (reply.Ports other) e = inr ((refl, refl), (refl, refl))
same_or_plain _ _ e = inl e

-- the slots, and what follows them, in one text are the same
slot_and_rest : (s t u v : ℕ) → s < 2 ^ 64 → u < 2 ^ 64 → handle_words s t ≡ handle_words u v
    → (s ≡ u) × (32 ∷ decimal t ≡ 32 ∷ decimal v)
slot_and_rest s t u v p p' e =
    let ends : (t : ℕ) → EndsNumber (32 ∷ decimal t) = λ t digit. omega arith in
    let most = s + u in
    (number_one most).same (s, 32 ∷ decimal t) (u, 32 ∷ decimal v) (omega arith, p, ends t)
    (omega arith, p', ends v)
    (append_cancel_left (codes "handle ") (decimal s ++ 32 ∷ decimal t)
    (decimal u ++ 32 ∷ decimal v)
    (sym (spaced s t) ∙ (e ∙ spaced u v)))

pub slots_same : (s t u v : ℕ) → s < 2 ^ 64 → u < 2 ^ 64 → handle_words s t ≡ handle_words u v
    → s ≡ u
slots_same s t u v p p' e = (slot_and_rest s t u v p p' e).0

-- slots and tickets with one text are the same
pub parts_same : (s t u v : ℕ) → s < 2 ^ 64 → t < 2 ^ 64 → u < 2 ^ 64 → v < 2 ^ 64
    → handle_words s t ≡ handle_words u v → (s ≡ u) × (t ≡ v)
parts_same s t u v p q p' q' e = grind (arith, slot_and_rest, decimal_injective)

abbrev pub handle_phrase : Spelling (ℕ × (ℕ × Unit {0}))
handle_phrase =
    after (codes "handle ")
    (sequence any_number (after (codes " ") (sequence any_number (line_end Bytes))))

-- where the phrase of a handle is not read, no slot and ticket have the words
pub unread : (words : List ℕ) → ((a : (ℕ × (ℕ × Unit {0})) × List ℕ) → handle_phrase.Fits a
    → words ≢ handle_phrase.text a) → (slot ticket : ℕ) → slot < 2 ^ 64 → ticket < 2 ^ 64
    → handle_words slot ticket ≢ words
unread words never slot ticket s t e =
    let space : EndsNumber (32 ∷ (decimal ticket ++ [])) = λ digit. omega arith in
    let nothing : EndsNumber [] = λ digit. omega arith in
    never ((slot, (ticket, tt)), [])
    (any_fits slot (32 ∷ (decimal ticket ++ [])) s space, (any_fits ticket [] t nothing, refl))
    (sym e ∙ (spaced slot ticket
    ∙ ap (λ (l : List ℕ). codes "handle " ++ (decimal slot ++ 32 ∷ l))
    (sym (append-nil (decimal ticket)))))

module _ {T : Type 0} (r : RegistryState T) (words : List ℕ) (fits : r.capacity < 2 ^ 64)
    (counts : r.used < 2 ^ 64) where
  module _ (slot ticket : ℕ) (s : slot < 2 ^ 64) (t : ticket < 2 ^ 64)
      (reported : handle_words slot ticket ≡ words) where
    parts_reported : (h : Handle) → MayGive r h → text_of (reply.Handle h) ≡ words
        → (h.slot ≡ slot) × (h.ticket ≡ ticket)
    parts_reported h may e = grind (arith, parts_same)

    -- the slot is not free
    pub none_free : ((h : Handle) → h.slot ≡ slot → ¬ (MayGive r h))
        → ReadsReplyHandle (MayGive r) words None
    none_free never h may e = never h (parts_reported h may e).0 may

    -- the ticket is not the next one
    pub none_next : (next : Handle) → MayGive r next → next.ticket ≢ ticket
        → ReadsReplyHandle (MayGive r) words None
    none_next next may never h so e = never (may.ticket ∙ sym so.ticket ∙ (parts_reported h so e).1)

    pub one_next : (next : Handle) → next.slot ≡ slot → MayGive r next → next.ticket ≡ ticket
        → ReadsReplyHandle (MayGive r) words (Some next)
    one_next next is may same = grind (arith, same_handle, parts_reported)

from_map : {X Y : Type 0} (P : X → Type 0) (f : Y → X) (ys : List Y) → All P (map f ys)
    → All (λ y. P (f y)) ys
from_map P f ys a = λ k d h.
    subst P (get_or-map f ys k d (f d) h) (a k (f d) (rw (length-map ys f) h))

-- the slots of entries rise
slots_rise : {T : Type 0} (es : List (Entry T)) → AllPairs (λ a b. a.slot < b.slot) es
    → AllPairs (λ a b. a < b) (map (λ (e : Entry T). e.slot) es)
slots_rise [] rise i j d less within = absurd (omega (arith, within))
slots_rise {T} (x ∷ es) rise i j d less within =
    let slot : Entry T → ℕ = λ e. e.slot in
    let all : List (Entry T) = x ∷ es in
    let there : j < length all = omega (arith, within, length-map all slot) in
    rw (get_or-map slot all i x d (omega (arith, less, there)), get_or-map slot all j x d there)
    (rise i j x less there)

are_rising : {T : Type 0} (r : RegistryState T) (next : NextHandle) → IsRegistry r
    → IsNextHandle r next → AreSlotsRising (replies.Handle next)
are_rising {T} r next k is =
    rw (is.taken, is.capacity) (
      slots_rise r.entries k.slots_rise,
      All-map (λ t. t < r.capacity) (λ (e : Entry T). e.slot) r.entries k.slots_below,
    )

module _ {T : Type 0} (r : RegistryState T) (next : NextHandle) (is : IsNextHandle r next)
    (words : List ℕ) where
  next_may : AllowsWords (replies.Handle next) words
      → (h : Handle) × MayGive r h × (text_of (reply.Handle h) ≡ words)
  next_may a = (
    record { service = r.service; role = r.role; slot = a.0; ticket = r.used },
    record {
      service = refl;
      role = refl;
      ticket = refl;
      fits = subst (λ n. a.0 < n) is.capacity a.1;
      free = from_map (λ t. t ≢ a.0) (λ (e : Entry T). e.slot) r.entries
          (subst (All (λ t. t ≢ a.0)) is.taken a.2);
    },
    ap (handle_words a.0) (sym is.ticket) ∙ a.3,
  )

  may_next : (h : Handle) → MayGive r h → text_of (reply.Handle h) ≡ words
      → AllowsWords (replies.Handle next) words
  may_next h may e = (
    h.slot,
    subst (λ n. h.slot < n) (sym is.capacity) may.fits,
    subst (All (λ t. t ≢ h.slot)) (sym is.taken)
        (All-map (λ t. t ≢ h.slot) (λ (e : Entry T). e.slot) r.entries may.free),
    ap (handle_words h.slot) (is.ticket ∙ sym may.ticket) ∙ e,
  )

same_text : (r q : Reply) → IsSameReply r q → text_of r ≡ text_of q
same_text (reply.Nodes ids) (reply.Nodes other) e =
    ap (λ (l : List ℕ). codes "list" ++ flat_map id_word l) e
same_text (reply.Ports ports) (reply.Ports other) e =
    ap (λ (l : List PortDetails). codes "list" ++ flat_map port_word l) e
same_text _ _ e = ap text_of e

-- the reply where it is one alone
abbrev reply_alone : Reply → PossibleReplies → Reply
reply_alone other (replies.One r) = r
reply_alone other _ = other

module _ (s : Service) (Step : Reply → Service → Type 0) where
  pub one_words : (one : LineReply) → ArePossible s Step (possible.One one)
      → ArePossibleWords Step (replies.One (reply_in one))
  one_words one all =
      let r = reply_in one in
      let can = all.can r (same_reply r) in
      record {
        by_words = λ words. (
          λ e. (r, e, can),
          λ a. same_text r a.0 (all.only a.0 a.2.0 a.2.1 a.2.2) ∙ a.1,
        );
        itself = λ q e. subst (CanServe Step) (ap (reply_alone r) e) can;
        rising = tt;
      }

  module _ (part : Part) (next : NextHandle)
      (all : ArePossible s Step (possible.Given part)) where
    -- where the handles that may be given are those of a registry
    by_registry : {T : Type 0} (r : RegistryState T) → IsRegistry r → IsNextHandle r next
        → ((h : Handle) → MayGive r h → MayGiveIn s part h)
        → ((h : Handle) → MayGiveIn s part h → MayGive r h)
        → ArePossibleWords Step (replies.Handle next)
    by_registry r k is here there = record {
      by_words = λ words. (
        λ a.
            let h = next_may r next is words a in
            (reply.Handle h.0, h.2, all.can (reply.Handle h.0) (h.0, refl, here h.0 h.1)),
        λ a.
            let h = all.only a.0 a.2.0 a.2.1 a.2.2 in
            may_next r next is words h.0 (there h.0 h.2) (ap text_of (sym h.1) ∙ a.1),
      );
      itself = λ one e. absurd (cc);
      rising = are_rising r next k is;
    }

  pub given_words : (part : Part) (next : NextHandle) → IsService s
      → ArePossible s Step (possible.Given part) → IsNextIn s part next
      → ArePossibleWords Step (replies.Handle next)
  given_words part.Nodes next k all is =
      by_registry part.Nodes next all s.nodes.registry k.nodes_are is (λ h m. m) (λ h m. m)
  given_words part.First next k all is =
      by_registry part.First next all s.ports.first.registry k.ports_are.first.is_registry
      is (λ h m. m) (λ h m. m)
  given_words part.Second next k all is =
      by_registry part.Second next all s.ports.second.registry k.ports_are.second.is_registry
      is (λ h m. m) (λ h m. m)

-- what no handle has, given or not
pub neither : (Has : Option Handle → Type 0) → ¬ (Has None) → ((h : Handle) → ¬ (Has (Some h)))
    → (h : Option Handle) → ¬ (Has h)
neither Has none some None = none
neither Has none some (Some h) = some h
