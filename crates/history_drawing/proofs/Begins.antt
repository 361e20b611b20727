-- The lines of a text, and how calls begin and end in them.
use Rattle.std.proofs.Common.{◌≡◌, ℕ, List, [], ◌∷◌, ◌++◌, ap, sym, ◌∙◌, append_assoc, subst, ◌≢◌, Option, None, Some, IfNone, ◌+◌, ◌<◌, ◌≤◌, inl, inr, arith, codes}
use Rattle.std.specs.Prelude.{All}
use Rattle.std.specs.Borrow.{Bor}
use Rattle.std.specs.List.{flat_map}
use Rattle.std.proofs.lemmas.Grind.{flat_map-append}
use Rattle.std.proofs.lemmas.List.{append-nil, map_push, append_cancel_left}
use Rattle.std.proofs.lemmas.List.Elements.{All-push}
use Rattle.line_streams.specs.Spelling.{HasNo}
use Rattle.history_drawing.specs.Calls.{texts, BeginsIn, IsAlone, IsElsewhere, Says, text_above, text_at, EndsIn}
use Rattle.history_drawing.specs.Drawings.{with_newline}
use Rattle.line_streams.proofs.Indices.{before_one, has_one}
use Rattle.std.proofs.lemmas.Bool.{cases_lt}
use Rattle.log_lines.specs.Commands.{Begun, NamedCommand}
use Rattle.log_lines.specs.Laws.{IsAlike}
use Rattle.log_lines.specs.Lines.{IsLine, Line, line_text}
use Rattle.log_lines.specs.Lines.Line.{service, call, reply, begin}
use Rattle.log_lines.proofs.OneReading.{one_way}
use Rattle.service_descriptions.specs.declared.replay.lines.line.ServiceLine.{ServiceLine}
use Rattle.history_drawing.specs.declared.calls.LogCall.{LogCall}
use Rattle.history_drawing.specs.declared.timeline.BarEnd.TheVariants.{Answered, Crashed, Open}
use Rattle.history_drawing.specs.declared.timeline.BarEnd.{BarEnd}

-- these lines of the text were read, and the rest follows them
abbrev pub AreRead : List ℕ → List (Bor (List ℕ)) → List ℕ → Type 0
AreRead text lines rest =
    (ls : List (List ℕ)) × (texts lines ≡ [] ∷ ls) × (text ≡ flat_map with_newline ls ++ rest)
    × All (HasNo 10) ls

-- one line more
pub read_more : (text : List ℕ) (lines : List (Bor (List ℕ))) (rest : List ℕ)
    (line : Bor (List ℕ)) (after : List ℕ) → AreRead text lines rest → HasNo 10 line.now
    → rest ≡ line.now ++ 10 ∷ after → AreRead text (lines ++ line ∷ []) after
read_more text lines rest line after (ls, same, whole, none) lacks is =
    let joined : flat_map with_newline (ls ++ line.now ∷ [])
    ≡ flat_map with_newline ls ++ with_newline line.now =
    flat_map-append with_newline ls (line.now ∷ [])
    ∙ ap (λ (l : List ℕ). flat_map with_newline ls ++ l) (append-nil (with_newline line.now)) in
    let tail : with_newline line.now ++ after ≡ rest =
    append_assoc line.now (10 ∷ []) after ∙ sym is in (
      ls ++ line.now ∷ [],
      map_push (λ (l : Bor (List ℕ)). l.now) lines line
          ∙ ap (λ (l : List (List ℕ)). l ++ line.now ∷ []) same,
      whole
          ∙ (ap (λ (l : List ℕ). flat_map with_newline ls ++ l) (sym tail)
          ∙ (sym (append_assoc (flat_map with_newline ls) (with_newline line.now) after)
          ∙ ap (λ (l : List ℕ). l ++ after) (sym joined))),
      All-push (HasNo 10) ls line.now none lacks,
    )

-- a text without the byte has none
pub no_byte : (byte : ℕ) (text front other : List ℕ) → HasNo byte text
    → text ≡ front ++ byte ∷ other → ⊥
no_byte byte text front other none is =
    has_one byte front other (subst (λ (l : List ℕ). HasNo byte l) is none)

-- what stands behind the first one
pub behind_first : (byte : ℕ) (text one a two b : List ℕ) → HasNo byte one → HasNo byte two
    → text ≡ one ++ byte ∷ a → text ≡ two ++ byte ∷ b → a ≡ b
behind_first byte text one a two b lacks none is same =
    ((before_one byte).same (one, a) (two, b) lacks none (sym is ∙ same)).1

-- what follows from there being none
pub where_none : {X P Q : Type 0} (o : Option X) → (P → Q) → IfNone o P → IfNone o Q
where_none None f h = f h
where_none (Some x) f h = h

module _ (lines : List (Bor (List ℕ))) (k : ℕ) where
  -- one line stands there
  one_line : (l m : Line) → Says lines k l → Says lines k m → IsAlike l m
  one_line l m one other = one_way l m one.0 other.0 (sym one.1 ∙ other.1)

  -- what is no line begins no call
  pub no_line : (last : ℕ) → ((l : Line) → IsLine l → text_at lines k ≢ line_text l)
      → (seen : LogCall) → BeginsIn lines k last seen → ⊥
  no_line last none seen (inl b) =
      none (begin seen.service seen.caller.now b.begun) b.says.0 b.says.1
  no_line last none seen (inr a) = none (reply a.words.now) a.says.0 a.says.1

  -- nor does another line than a begin and a reply
  pub no_call : (last : ℕ) (l : Line) → Says lines k l
      → ((n : Option ℕ) (x : List ℕ) (b : Begun) → ¬ IsAlike l (begin n x b))
      → ((words : List ℕ) → ¬ IsAlike l (reply words))
      → (seen : LogCall) → BeginsIn lines k last seen → ⊥
  no_call last l says b r seen (inl h) =
      b _ _ h.begun (one_line l (begin seen.service seen.caller.now h.begun) says h.says)
  no_call last l says b r seen (inr h) =
      r h.words.now (one_line l (reply h.words.now) says h.says)

  -- a reply begins no call but one that is alone
  pub no_begin : (last : ℕ) (words : List ℕ) → Says lines k (reply words)
      → ((seen : LogCall) → IsAlone lines k seen → ⊥)
      → (seen : LogCall) → BeginsIn lines k last seen → ⊥
  no_begin last words says none seen (inl b) =
      one_line (reply words) (begin seen.service seen.caller.now b.begun) says b.says
  no_begin last words says none seen (inr a) = none seen a

  -- above it stands no line
  pub no_above : ((l : Line) → IsLine l → text_above lines k ≢ line_text l)
      → (seen : LogCall) → IsAlone lines k seen → ⊥
  no_above none seen a = none (call seen.service a.command) a.is a.above

  -- above it stands another line than a call
  pub other_above : (l : Line) → IsLine l → text_above lines k ≡ line_text l
      → ((n : Option ℕ) (c : NamedCommand) → ¬ IsAlike l (call n c))
      → (seen : LogCall) → IsAlone lines k seen → ⊥
  other_above l p is o seen a =
      o _ _ (one_way l (call seen.service a.command) p a.is (sym is ∙ a.above))

  -- another line than that of a service names none
  pub no_service : (l : Line) → Says lines k l → ((s : ServiceLine) → ¬ IsAlike l (service s))
      → (s : ServiceLine) → Says lines k (service s) → ⊥
  no_service l says o s other = o s (one_line l (service s) says other)

  -- a line begins calls on one service
  pub same_service : (last : ℕ) (one other : LogCall) → BeginsIn lines k last one
      → BeginsIn lines k last other → one.service ≡ other.service
  same_service last one other (inl a) (inl b) =
      (one_line (begin one.service one.caller.now a.begun)
      (begin other.service other.caller.now b.begun) a.says b.says).0
  same_service last one other (inl a) (inr b) =
      absurd (one_line (begin one.service one.caller.now a.begun) (reply b.words.now) a.says
      b.says)
  same_service last one other (inr a) (inl b) =
      absurd (one_line (reply a.words.now) (begin other.service other.caller.now b.begun) a.says
      b.says)
  same_service last one other (inr a) (inr b) =
      one_way (call one.service a.command) (call other.service b.command) a.is b.is
      (sym a.above ∙ b.above)

-- of one line more no call is answered in this one
pub elsewhere_more : (lines : List (Bor (List ℕ))) (first last refused at : ℕ)
    → ((k : ℕ) → first ≤ k → k < at → IsElsewhere lines last refused k)
    → IsElsewhere lines last refused at
    → (k : ℕ) → first ≤ k → k < at + 1 → IsElsewhere lines last refused k
elsewhere_more lines first last refused at before here k from upto =
    elim (cases_lt k at) as (λ _. IsElsewhere lines last refused k) [
      | inl above ↦ before k from above
      | inr late ↦
          let same : at ≡ k = omega (arith, upto, late) in
          subst (λ (n : ℕ). IsElsewhere lines last refused n) same here
    ]

-- one in which neither mark follows
pub no_mark : (text caller rest : List ℕ) (k : ℕ) → text ≡ caller ++ rest
    → ((words : List ℕ) → rest ≢ codes "< " ++ words) → rest ≢ codes "!"
    → (e : BarEnd) → EndsIn text k caller e → ⊥
no_mark text caller rest k is words mark (Answered line w) h =
    words w.now (append_cancel_left caller rest (codes "< " ++ w.now) (sym is ∙ h.1))
no_mark text caller rest k is words mark (Crashed line) h =
    mark (append_cancel_left caller rest (codes "!") (sym is ∙ h.1))
no_mark text caller rest k is words mark Open h = h
