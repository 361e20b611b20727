-- What the words of replies say.
use Rattle.service_conformance.proofs.Names.{All-cons, All-head, All-map, All-nil, All-tail, Bool, List, None, Some, [], ap, append-nil, append_cancel_left, arith, codes, cond, decimal, decimal_injective, false, flat_map, get_or, get_or-map, length, length-map, map, refl, sym, true, ℕ, ◌++◌, ◌+◌, ◌<◌, ◌^◌, ◌↔◌, ◌∙◌, ◌∷◌, ◌≡◌, ◌≢◌, ◌≤◌, nil_from_length, same_Some, drop, length-drop, Bytes, EndsNumber, EndsWord, Handle, IsId, IsToLine, OthersFit, PortDetails, Reads, Reply, ReplyWord, SeenReply, Spelling, after, apart, changes_nothing, cons_same, count_words, handle_in, handle_words, has_no_space, hexadecimal, id_word, is_removal, line_end, list_words, listed_one, number, others_text, port_of, port_value, port_word, printed_id, printed_one, reply_named, same_id, seen_text, sequence, text_of, word_text}
use Rattle.std.proofs.Common.{drop-cons, All, ◌==◌}
use Rattle.line_streams.specs.Spelling.{listed}
use Rattle.service_descriptions.specs.declared.replay.machine.reply.Reply.TheVariants as reply
use Rattle.service_conformance.specs.declared.conformance.seen_reply.ReplyWord.TheVariants as word

-- the ids of a list, each after a space
abbrev pub ids_phrase : Spelling (List ℕ)
ids_phrase = listed (codes " ") 32 printed_id

others_is : (ids : List ℕ) → others_text 32 printed_id ids [] ≡ flat_map id_word ids
others_is [] = refl
others_is (id ∷ ids) = ap (λ (l : List ℕ). 32 ∷ (hexadecimal id ++ l)) (others_is ids)

pub listed_is : (ids : List ℕ) → ids_phrase.text (ids, []) ≡ flat_map id_word ids
listed_is [] = refl
listed_is (id ∷ ids) = ap (λ (l : List ℕ). 32 ∷ (hexadecimal id ++ l)) (others_is ids)

space_next : (ids : List ℕ) → EndsWord (others_text 32 printed_id ids [])
space_next [] = refl
space_next (id ∷ ids) = refl

others_fit : (ids : List ℕ) → All IsId ids → OthersFit 32 printed_id ids []
others_fit [] a = λ rest e. cc
others_fit (id ∷ ids) a = (
  (All-head IsId id ids a, space_next ids),
  others_fit ids (All-tail IsId id ids a),
)

pub listed_fit : (ids : List ℕ) → All IsId ids → ids_phrase.Fits (ids, [])
listed_fit [] a = λ rest e. cc
listed_fit (id ∷ ids) a = others_fit (id ∷ ids) a

others_small : (ids rest : List ℕ) → OthersFit 32 printed_id ids rest → All IsId ids
others_small [] rest f = All-nil IsId
others_small (id ∷ ids) rest f =
    All-cons IsId id ids f.0.0 (others_small ids rest f.1)

pub listed_small : (ids rest : List ℕ) → ids_phrase.Fits (ids, rest) → All IsId ids
listed_small [] rest f = All-nil IsId
listed_small (id ∷ ids) rest f = others_small (id ∷ ids) rest f

module _ (words rest : List ℕ) (follows : words ≡ codes "list" ++ rest) where
  -- no ids follow the word
  pub no_ids : ((a : List ℕ × List ℕ) → ids_phrase.Fits a → rest ≢ ids_phrase.text a)
      → (ids : List ℕ) → All IsId ids → list_words ids ≢ words
  no_ids never ids small e =
      never (ids, []) (listed_fit ids small)
      (sym (append_cancel_left (codes "list") (flat_map id_word ids) rest (e ∙ follows))
      ∙ sym (listed_is ids))

  module _ (found ids left : List ℕ) (same : found ≡ ids)
      (read : Reads ids_phrase.Fits ids_phrase.text (Some (found, left)) rest) where
    -- ids follow it, and then something else
    pub more_than_ids : (left ≡ [] → ⊥) → (others : List ℕ) → All IsId others
        → list_words others ≢ words
    more_than_ids some others small e =
        some ((listed_one (codes " ") 32 printed_one).same (found, left) (others, []) read.0
        (listed_fit others small)
        (sym read.1
        ∙ (sym (append_cancel_left (codes "list") (flat_map id_word others) rest (e ∙ follows))
        ∙ sym (listed_is others)))).1

    pub ids_found : length left ≡ 0 → (list_words ids ≡ words) × All IsId ids
    ids_found none = grind (arith, nil_from_length, listed_is, listed_small)

-- where the phrase of a count is not read, no number has the words
abbrev pub count_phrase : Spelling (ℕ × Unit {0})
count_phrase =
    after (codes "count ") (sequence (number 18446744073709551615) (line_end Bytes))

pub uncounted : (words : List ℕ)
    → ((a : (ℕ × Unit {0}) × List ℕ) → count_phrase.Fits a → words ≢ count_phrase.text a)
    → (n : ℕ) → n < 2 ^ 64 → count_words n ≢ words
uncounted words never n small e =
    let nothing : EndsNumber [] = λ digit. omega arith in
    never ((n, tt), []) ((omega (arith, small), small, nothing), refl)
    (sym e ∙ ap (λ (l : List ℕ). codes "count " ++ l) (sym (append-nil (decimal n))))

-- the number of the id of a port
abbrev pub value_of : PortDetails → ℕ
value_of d = port_value (port_of d)

port_words : (ds : List PortDetails) → flat_map port_word ds ≡ flat_map id_word (map value_of ds)
port_words [] = refl
port_words (d ∷ ds) = ap (λ (l : List ℕ). port_word d ++ l) (port_words ds)

-- a list of ports has the text of their ids
pub ports_list : (ds : List PortDetails) (ids : List ℕ)
    → (flat_map id_word (map value_of ds) ≡ flat_map id_word ids)
    ↔ (codes "list" ++ flat_map port_word ds ≡ list_words ids)
ports_list ds ids = grind (arith, port_words, append_cancel_left)

-- words that are none of these are those of no reply
module _ (words : List ℕ)
    (handles : (slot ticket : ℕ) → slot < 2 ^ 64 → ticket < 2 ^ 64
    → handle_words slot ticket ≢ words)
    (plain : (w : ReplyWord) → word_text w ≢ words)
    (counts : (n : ℕ) → n < 2 ^ 64 → count_words n ≢ words)
    (lists : (ids : List ℕ) → All IsId ids → list_words ids ≢ words) where
  pub none_replied : (r : Reply) → IsToLine r → text_of r ≢ words
  none_replied (reply.Handle h) i = handles h.slot h.ticket i.0 i.1
  none_replied reply.Locked i = plain word.Locked
  none_replied reply.Full i = plain word.Full
  none_replied reply.NotRegistered i = plain word.NotRegistered
  none_replied reply.HasOwners i = plain word.HasOwners
  none_replied reply.NoMoreOwners i = plain word.NoMoreOwners
  none_replied reply.PortsAttached i = plain word.PortsAttached
  none_replied reply.Released i = plain word.Released
  none_replied reply.NotOwned i = plain word.NotOwned
  none_replied reply.NoHandle i = plain word.NoHandle
  none_replied reply.WrongPattern i = plain word.WrongPattern
  none_replied (reply.Nodes ids) i = lists ids.items i
  none_replied (reply.Ports ports) i =
      let never =
      lists (map value_of ports.items) (All-map IsId value_of ports.items i) in
      λ e. never (ap (λ (l : List ℕ). codes "list" ++ l) (sym (port_words ports.items)) ∙ e)
  none_replied (reply.Count n) i = counts n i
  none_replied _ i = absurd i

-- what a reply is: it gives a handle, is one without numbers, or is another
data Kind : Type 0 where
  handle_kind : Kind
  word_kind : ReplyWord → Kind
  other_kind : Kind

-- what a reply is whose words begin so
abbrev by_letters : ℕ → ℕ → ℕ → Kind
by_letters first fourth fifth =
    cond (first == 108) (cond (fourth == 107) (word_kind word.Locked) other_kind)
    (cond (first == 102) (word_kind word.Full)
    (cond (first == 104)
    (cond (fifth == 111) (word_kind word.HasOwners) (cond (fifth == 108) handle_kind other_kind))
    (cond (first == 112) (cond (fifth == 115) (word_kind word.PortsAttached) other_kind)
    (cond (first == 114) (cond (fifth == 97) (word_kind word.Released) other_kind)
    (cond (first == 119) (word_kind word.WrongPattern)
    (cond (first == 110) (cond (fourth == 111) (word_kind word.NoMoreOwners)
    (cond (fourth == 104) (word_kind word.NoHandle)
    (cond (fifth == 114) (word_kind word.NotRegistered)
    (cond (fifth == 111) (word_kind word.NotOwned) other_kind))))
    other_kind))))))

abbrev by_text : List ℕ → Kind
by_text text = by_letters (get_or text 0 0) (get_or text 3 0) (get_or text 4 0)

abbrev kind_of : Reply → Kind
kind_of (reply.Handle h) = handle_kind
kind_of reply.Locked = word_kind word.Locked
kind_of reply.Full = word_kind word.Full
kind_of reply.NotRegistered = word_kind word.NotRegistered
kind_of reply.HasOwners = word_kind word.HasOwners
kind_of reply.NoMoreOwners = word_kind word.NoMoreOwners
kind_of reply.PortsAttached = word_kind word.PortsAttached
kind_of reply.Released = word_kind word.Released
kind_of reply.NotOwned = word_kind word.NotOwned
kind_of reply.NoHandle = word_kind word.NoHandle
kind_of reply.WrongPattern = word_kind word.WrongPattern
kind_of _ = other_kind

of_reply : (r : Reply) → by_text (text_of r) ≡ kind_of r
of_reply (reply.Compatible true) = refl
of_reply (reply.Compatible false) = refl
of_reply _ = refl

of_word : (w : ReplyWord) → by_text (word_text w) ≡ word_kind w
of_word word.Locked = refl
of_word _ = refl

-- the reply, by its name if it has one
abbrev by_kind : Reply → Kind → Reply
by_kind r (word_kind w) = reply_named w
by_kind r _ = r

by_its_kind : (r : Reply) → by_kind r (kind_of r) ≡ r
by_its_kind reply.Locked = refl
by_its_kind _ = refl

-- a reply has the words of one without numbers only where it is that one
pub is_named : (r : Reply) (w : ReplyWord) → text_of r ≡ word_text w → r ≡ reply_named w
is_named r w e =
    sym (by_its_kind r) ∙ ap (by_kind r) (sym (of_reply r) ∙ (ap by_text e ∙ of_word w))

gives_none : (r : Reply) → handle_in r ≡ None → kind_of r ≡ handle_kind → ⊥
gives_none _ e k = grind arith

pub no_handle_text : (r : Reply) → handle_in r ≡ None → (slot ticket : ℕ)
    → text_of r ≢ handle_words slot ticket
no_handle_text r none slot ticket e = gives_none r none (sym (of_reply r) ∙ ap by_text e)

pub is_handle : (r : Reply) (h : Handle) → handle_in r ≡ Some h → r ≡ reply.Handle h
is_handle _ h e = grind (arith, same_Some)

pub same_count : (m n : ℕ) → m < 2 ^ 64 → n < 2 ^ 64 → (m ≡ n) ↔ (count_words m ≡ count_words n)
same_count m n p q = grind (arith, decimal_injective, append_cancel_left)

space_first : (ids : List ℕ) → EndsWord (flat_map id_word ids)
space_first [] = refl
space_first (id ∷ ids) = refl

-- two lists, not both of which go on, have one text exactly where they have one length
both_end : (xs ys : List ℕ) → (0 < length xs → 0 < length ys → ⊥)
    → (length xs ≡ length ys) ↔ (flat_map id_word xs ≡ flat_map id_word ys)
both_end [] [] end = (λ e. refl, λ e. refl)
both_end [] (y ∷ ys) end = (λ e. absurd (omega (arith, e)), λ e. absurd (cc))
both_end (x ∷ xs) [] end = (λ e. absurd (omega (arith, e)), λ e. absurd (cc))
both_end (x ∷ xs) (y ∷ ys) end = absurd (end (omega arith) (omega arith))

next_at : (ids : List ℕ) (i : ℕ) → i < length ids
    → drop i ids ≡ get_or ids i 0 ∷ drop (i + 1) ids
next_at ids i h = grind (arith, drop-cons)

-- the ids of items, and others, from an index on
module _ {A : Type 0} (id : A → ℕ) (xs : List A) (ids : List ℕ) (i : ℕ) where
  -- what follows has one text
  abbrev pub AreAlike : Type 0
  AreAlike = flat_map id_word (drop i (map id xs)) ≡ flat_map id_word (drop i ids)

  module _ (p : i < length xs) (q : i < length ids) (x : A) (is : x ≡ get_or xs i x) (value : ℕ)
      (has : value ≡ id x) where
    item_next : drop i (map id xs) ≡ value ∷ drop (i + 1) (map id xs)
    item_next = grind (arith, next_at, length-map, get_or-map)

    pub ids_differ : IsId value → IsId (get_or ids i 0) → (value ≡ get_or ids i 0 → ⊥) → ¬ AreAlike
    ids_differ small other never e =
        let words = rw (item_next, next_at ids i q) at e in
        never (same_id value (get_or ids i 0) small other
        (apart (hexadecimal value) (hexadecimal (get_or ids i 0)) _ _ (has_no_space value small)
        (has_no_space (get_or ids i 0) other) (space_first (drop (i + 1) (map id xs)))
        (space_first (drop (i + 1) ids)) (cons_same words).1).0)

    pub ids_go_on : value ≡ get_or ids i 0 → AreAlike
        ↔ (flat_map id_word (drop (i + 1) (map id xs)) ≡ flat_map id_word (drop (i + 1) ids))
    ids_go_on e = grind (arith, item_next, next_at, append_cancel_left)

  pub ids_end : i ≤ length xs → i ≤ length ids → (i < length xs → i < length ids → ⊥)
      → (length xs ≡ length ids) ↔ AreAlike
  ids_end p q end =
      let items : length (drop i (map id xs)) + i ≡ length xs =
      omega (arith, length-drop i (map id xs), length-map xs id) in
      let others : length (drop i ids) + i ≡ length ids = omega (arith, length-drop i ids) in
      let ends =
      both_end (drop i (map id xs)) (drop i ids)
      (λ l m. end (omega (arith, l, items)) (omega (arith, m, others))) in (
        λ e. ends.0 (omega (arith, e, items, others)),
        λ e. omega (arith, ends.1 e, items, others),
      )

-- whether such a reply says that something changed
abbrev says_change : Kind → Bool
says_change handle_kind = true
says_change (word_kind w) = is_removal (reply_named w)
says_change other_kind = false

of_seen : (s : SeenReply) → changes_nothing s ≡ true → says_change (by_text (seen_text s)) ≡ false
of_seen _ e = grind arith

no_change : (r : Reply) → says_change (kind_of r) ≡ false
    → (handle_in r ≡ None) × (is_removal r ≡ false)
no_change _ e = grind arith

-- a reply with words that tell that nothing changed gives no handle and is of no removal
pub reported_nothing : (r : Reply) (s : SeenReply) → changes_nothing s ≡ true
    → text_of r ≡ seen_text s → (handle_in r ≡ None) × (is_removal r ≡ false)
reported_nothing r s nothing e =
    no_change r (ap says_change (sym (of_reply r) ∙ ap by_text e) ∙ of_seen s nothing)
