-- The parts of a description in turn, and where reading them stops.
use Rattle.std.proofs.Common.{◌≡◌, ◌≢◌, ◌==◌, ℕ, List, [], ◌∷◌, ◌++◌, ◌⊎◌, true, false, length, codes, inl, inr, refl, sym, ap, ◌∙◌, arith, length-append, ◌<◌, ◌^◌, get_or, Option, Some, None, subst, append_assoc}
use Rattle.std.specs.List.{IsDistinct, list_all}
use Rattle.std.proofs.lemmas.List.Sorted.{IsPermutation-refl}
use Rattle.iox2_texts.specs.Attribute.{IsListing}
use Rattle.iox2_config.specs.Hashing.{hash_input, pattern_word, sha1_text}
use Rattle.iox2_config.specs.declared.config.Config.{Config}
use Rattle.iox2_config.specs.declared.hash.input.PatternKind.{PatternKind}
use Rattle.service_drawing.specs.Descriptions.{StopsReading, after_settings, after_service}
use Rattle.service_drawing.specs.Lines.{HasSameLine, Whole, Stops, Form, line_by_line, HasService, HasAttributes, HasRequirements, AreAttributes, AreRequired, GivesPair, GivesRequirement, is_plain, IsPlain, HasNoLine, Begins, no_lines, AreAlignments, IsDescribed, IsFixed, type_text, payload_text, alignments_text, type_line, payload_line, elements_line, HasOpener, opener_line, message_of, message, exchange}
use Rattle.service_drawing.specs.Settings.{HasConfiguration, GivesSetting, AreSettings, restored}
use Rattle.service_drawing.proofs.Forms.{Lawful, same_back, line_like, none_of_nothing, none_begins, sequence_lawful, stops_as, many_lawful, IsPart, none_like, stops_at_once, line_part, lines_after, line_lawful, then_lawful, made_lawful}
use Rattle.service_drawing.proofs.Words.{same_pattern, line_one, same_variant}
use lib.Count.{ones}
use Rattle.std.specs.Fmt.{decimal, digits}
use Rattle.std.proofs.lemmas.List.{append_cancel_left}
use Rattle.std.proofs.lemmas.List.Elements.{All-append, All-cons, All-nil}
use Rattle.std.proofs.lemmas.List.Sums.{AllPass-from_list_all}
use Rattle.iox2_config.specs.TypeDetailParts.{TypeDetailParts}
use Rattle.iox2_config.specs.declared.hash.input.PatternKind.TheVariants.{PublishSubscribe, Event, RequestResponse, Blackboard}
use Rattle.iox2_config.specs.declared.types.message_details.MessageTypeDetails.{MessageTypeDetails}
use Rattle.iox2_config.specs.declared.types.type_detail.TypeVariant.{TypeVariant}
use Rattle.iox2_config.specs.declared.types.type_detail.TypeVariant.TheVariants.{FixedSize, Dynamic}
use Rattle.service_drawing.specs.declared.description.Message.{Message}
use Rattle.service_drawing.specs.declared.description.Exchange.TheVariants as exchanged

-- no lines
nothing_lawful : {A : Type 0} (only : A) → Lawful [] [] (no_lines only)
nothing_lawful only = record {
  rest = λ x y r s bytes h k. h.1 ∙ sym k.1;
  moves = λ x rest bytes h.
      record { front = []; lines = inl refl; all = sym h.1; moved = λ other follows. (h.0, refl) };
  some = (only, (refl, refl));
  stops = λ left bytes bad. absurd (bad.1 only bytes (refl, refl));
}

-- a plain example of a type
abbrev some_type : TypeDetailParts
some_type = record { variant = FixedSize; type_name = codes "a"; size = 0; alignment = 1 }

some_described : IsDescribed some_type
unfolding ones
some_described = grind (arith, All-cons, All-nil)

plain : (text : List ℕ) → list_all is_plain text ≡ true → IsPlain text
plain text e = AllPass-from_list_all is_plain text e

plain_line : (prefix word text : List ℕ) → IsPlain prefix → list_all is_plain (word ++ text) ≡ true
    → IsPlain (prefix ++ word ++ text)
plain_line prefix word text p e =
    subst IsPlain (sym (append_assoc prefix word text))
    (All-append (λ b. is_plain b ≡ true) prefix (word ++ text) p (plain (word ++ text) e))

type_lawful : (begin : List ℕ) → IsPlain (begin ++ type_text some_type)
    → Lawful [] ((begin ++ type_text some_type) ++ 10 ∷ []) (type_line begin)
type_lawful begin p = line_lawful begin IsFixed type_text some_type (refl, some_described) p

abbrev elements_example : List ℕ → TypeVariant → List ℕ
elements_example prefix FixedSize = []
elements_example prefix Dynamic = (prefix ++ codes "elements " ++ decimal 0) ++ 10 ∷ []

elements_lawful : (prefix : List ℕ) → IsPlain prefix → (v : TypeVariant)
    → Lawful [] (elements_example prefix v) (elements_line prefix v)
unfolding digits
elements_lawful prefix p FixedSize = nothing_lawful 1
elements_lawful prefix p Dynamic =
    line_lawful (prefix ++ codes "elements ") (λ n. n < 2 ^ 64) decimal 0 (omega arith)
    (plain_line prefix (codes "elements ") (decimal 0) p refl)

opener_lawful : (prefix : List ℕ)
    → Lawful ((prefix ++ codes "opener ") ∷ []) [] (opener_line prefix)
opener_lawful prefix = record {
  rest = rest;
  moves = moves;
  some = (None, (refl, none_begins begin));
  stops = λ left bytes bad.
      stops_at_once (HasOpener prefix) [] left bytes (None, (refl, none_begins begin)) like bad;
}
  where
    begin : List ℕ
    begin = prefix ++ codes "opener "

    rest : (o q : Option MessageTypeDetails) (r s bytes : List ℕ) → HasOpener prefix o r bytes
        → HasOpener prefix q s bytes → r ≡ s
    rest None None r s bytes h k = h.0 ∙ sym k.0
    rest None (Some d) r s bytes h k = absurd (h.1 (alignments_text d) s k.line)
    rest (Some d) None r s bytes h k = absurd (k.1 (alignments_text d) r h.line)
    rest (Some d) (Some e) r s bytes h k = (line_one _ _ r s bytes h.line k.line).1

    moves : (o : Option MessageTypeDetails) (r bytes : List ℕ) → HasOpener prefix o r bytes
        → IsPart (begin ∷ []) (HasOpener prefix o) r bytes
    moves None r bytes h = record {
      front = [];
      lines = inl refl;
      all = sym h.0;
      moved = λ other follows. elim follows [
        | inl same ↦ (refl, none_like r other begin same (rw (← h.0) at h.1))
        | inr none ↦ (refl, none.0)
      ];
    }
    moves (Some d) r bytes h = line_part begin AreAlignments alignments_text d r bytes h

    like : (o : Option MessageTypeDetails) (r one other : List ℕ) → HasSameLine one other
        → HasOpener prefix o r one → Begins (HasOpener prefix) other
    like None r one other same h = (None, other, (refl, none_like one other begin same h.1))
    like (Some d) r one other same h =
        let l = line_like one other (begin ++ alignments_text d) r same h.line in
        (Some d, l.0, record { line = l.1; legal = h.legal })

-- the line of a payload tells its variant
payload_tells : (prefix : List ℕ) (t u : TypeDetailParts) (r s bytes : List ℕ)
    → (payload_line prefix).Has t r bytes → (payload_line prefix).Has u s bytes
    → t.variant ≡ u.variant
payload_tells prefix t u r s bytes h k =
    same_variant t.variant u.variant (type_text t) (type_text u)
    (append_cancel_left (prefix ++ codes "payload ") (payload_text t) (payload_text u)
    (line_one _ _ r s bytes h.line k.line).0)

-- an example of a message
abbrev message_example : List ℕ → List ℕ
message_example prefix =
    ((prefix ++ codes "header " ++ type_text some_type) ++ 10 ∷ [])
    ++ (((prefix ++ codes "user-header " ++ type_text some_type) ++ 10 ∷ [])
    ++ (((prefix ++ codes "payload " ++ payload_text some_type) ++ 10 ∷ []) ++ []))

message_lawful : (prefix : List ℕ) → IsPlain prefix
    → Lawful ((prefix ++ codes "opener ") ∷ []) (message_example prefix) (message prefix)
unfolding digits
message_lawful prefix p =
    let payload = plain_line prefix (codes "payload ") (payload_text some_type) p refl in
    made_lawful message_of
    (sequence_lawful
    (type_lawful (prefix ++ codes "header ")
    (plain_line prefix (codes "header ") (type_text some_type) p refl))
    (sequence_lawful
    (type_lawful (prefix ++ codes "user-header ")
    (plain_line prefix (codes "user-header ") (type_text some_type) p refl))
    (then_lawful {next = λ v. elements_example prefix v ++ []} FixedSize
    (line_lawful (prefix ++ codes "payload ") IsDescribed payload_text some_type some_described
    payload)
    (λ v. sequence_lawful (elements_lawful prefix p v) (opener_lawful prefix) tt)
    (payload_tells prefix)
    (λ t h. payload_tells prefix t some_type [] [] _ h
    (record { line = record { spelled = refl; plain = payload }; legal = some_described }))
    (λ v. tt)) tt) tt)

abbrev request : List ℕ
request = codes "request-"

abbrev response : List ℕ
response = codes "response-"

-- what may not follow what the ports exchange
abbrev pub exchange_ends : PatternKind → List (List ℕ)
exchange_ends PublishSubscribe = codes "opener " ∷ []
exchange_ends Event = []
exchange_ends RequestResponse = (request ++ codes "opener ") ∷ (response ++ codes "opener ") ∷ []
exchange_ends Blackboard = []

-- an example of each pattern
abbrev pub exchange_example : PatternKind → List ℕ
exchange_example PublishSubscribe = message_example []
exchange_example Event = []
exchange_example RequestResponse = message_example request ++ message_example response
exchange_example Blackboard = (codes "key " ++ type_text some_type) ++ 10 ∷ []

pub exchange_lawful : (k : PatternKind)
    → Lawful (exchange_ends k) (exchange_example k) (exchange k)
unfolding digits
exchange_lawful PublishSubscribe =
    made_lawful exchanged.PublishSubscribe (message_lawful [] (plain [] refl))
exchange_lawful Event = nothing_lawful exchanged.Event
exchange_lawful RequestResponse =
    made_lawful (λ both. exchanged.RequestResponse both.0 both.1)
    (sequence_lawful (message_lawful request (plain request refl))
    (message_lawful response (plain response refl))
    (λ text rest l. omega (arith, ap (λ (b : List ℕ). get_or b 2 0) l.spelled), tt))
exchange_lawful Blackboard =
    made_lawful exchanged.Blackboard
    (type_lawful (codes "key ") (plain (codes "key " ++ type_text some_type) refl))

-- none of its lines sets something
pub exchange_apart : (k : PatternKind) → HasNoLine (codes "set ") (exchange_example k ++ [])
exchange_apart PublishSubscribe text rest l = grind arith
exchange_apart Event text rest l = grind (arith, none_begins)
exchange_apart RequestResponse text rest l = grind arith
exchange_apart Blackboard text rest l = grind arith

abbrev with_opener : MessageTypeDetails → ℕ → Option MessageTypeDetails → Message
with_opener d n o = record { details = d; elements = n; opener = o }

-- the message whose opener has the types of the service
pub same_message : (d : MessageTypeDetails) (n : ℕ) (o q : Option MessageTypeDetails) → o ≡ q
    → with_opener d n o ≡ with_opener d n q
same_message d n o q e = ap (with_opener d n) e

-- the line of a service tells its pattern
pub service_same : (j k : PatternKind) (m n x y bytes : List ℕ) → HasService j m x bytes
    → HasService k n y bytes → (j ≡ k) × (x ≡ y)
service_same j k m n x y bytes p q =
    let same = line_one _ _ x y bytes p.line q.line in
    ((same_pattern j k m n same.0).0, same.1)

pub same_base : (base : Config) (k : PatternKind)
    → record base { defaults = restored k base.defaults base.defaults } ≡ base
same_base base k = grind arith

configuration_lawful : (base : Config) (k : PatternKind)
    → Lawful (codes "set " ∷ []) [] (line_by_line (HasConfiguration base k))
unfolding IsDistinct
configuration_lawful base k =
    many_lawful (codes "set ") (GivesSetting k base.defaults) (AreSettings base k) base
    (tt, refl, same_base base k)

none_listed : IsListing [] []
none_listed = (IsPermutation-refl [], λ k d low high. absurd (omega arith))

attributes_lawful : Lawful (codes "attribute " ∷ []) [] (line_by_line HasAttributes)
attributes_lawful = many_lawful _ GivesPair AreAttributes [] (omega arith, none_listed)

required_lawful : Lawful (codes "require" ∷ []) [] (line_by_line HasRequirements)
required_lawful =
    many_lawful (codes "require") GivesRequirement AreRequired (record { pairs = []; keys = [] })
    (omega arith, none_listed, refl)

abbrev ends_behind_settings : PatternKind → List (List ℕ)
ends_behind_settings k = exchange_ends k ++ (codes "attribute " ∷ codes "require" ∷ [])

pub after_settings_lawful : (k : PatternKind)
    → Lawful (ends_behind_settings k) (exchange_example k ++ []) (after_settings k)
after_settings_lawful k =
    sequence_lawful (exchange_lawful k)
    (sequence_lawful attributes_lawful required_lawful (none_of_nothing (codes "attribute " ∷ [])))
    (none_of_nothing (exchange_ends k))

after_service_lawful : (base : Config) (k : PatternKind)
    → Lawful (codes "set " ∷ ends_behind_settings k) (exchange_example k ++ [])
    (after_service base k)
after_service_lawful base k =
    sequence_lawful (configuration_lawful base k) (after_settings_lawful k)
    (exchange_apart k, tt)

-- no service
pub no_service_here : (base : Config) (bytes : List ℕ)
    → ((k : PatternKind) (name rest : List ℕ) → ¬ HasService k name rest bytes)
    → StopsReading base bytes bytes
no_service_here base bytes none = record {
  read = [];
  lines = inl refl;
  all = refl;
  more = [];
  begun = inr refl;
  stops = λ other same good.
      let h = good.1.service in
      let l = line_like other bytes (pattern_word good.0.kind ++ 32 ∷ good.0.name) good.1.rest
      (same_back bytes other same) h.line in
      none good.0.kind good.0.name l.0 (record { line = l.1; named = h.named });
}

-- reading fails, or something is left
abbrev pub Breaks : {A : Type 0} → Form A → List ℕ → List ℕ → Type 0
Breaks {A} F left bytes =
    F.Fails left bytes ⊎ ((x : A) × F.Has x left bytes × (false ≡ (length left == 0)))

-- more is left than nothing
filled : (left other : List ℕ) → false ≡ (length left == 0) → HasSameLine left other → other ≢ []
filled [] other more same e = cc
filled (x ∷ xs) other more (inl same) e = let none : x ∷ xs ≡ [] = same ∙ e in cc
filled (x ∷ xs) other more (inr s) e =
    omega (arith, ap length (sym e ∙ s.second), length-append s.lines (10 ∷ s.other_rest))

-- there nothing whole goes on
pub broken : {A : Type 0} {ends : List (List ℕ)} {some : List ℕ} {F : Form A}
    → Lawful ends some F → (left bytes : List ℕ) → Breaks F left bytes
    → Stops (Whole F.Has) (Whole F.Has) left bytes
broken f left bytes (inl bad) =
    stops_as _ _ _ _ left bytes (λ b w. w) (λ b w. (w.0, [], w.1)) (f.stops left bytes bad)
broken {ends} f left bytes (inr (x, h, more)) =
    let m = f.moves x left bytes h in
    record {
      read = m.front;
      lines = m.lines;
      all = m.all;
      more = [];
      begun = (x, m.moved [] (inr (none_of_nothing ends)));
      stops = λ other same good.
          filled left other more same
          (f.rest x good.0 other [] (m.front ++ other) (m.moved other (inl same)) good.1);
    }

-- where what follows the line of a service stops, so does a description
pub stops_behind_service : (base : Config) (k : PatternKind) (name left mid bytes : List ℕ)
    → HasService k name mid bytes → Breaks (after_service base k) left mid
    → StopsReading base left bytes
stops_behind_service base k name left mid bytes h bad =
    let s = broken (after_service_lawful base k) left mid bad in
    let text : List ℕ = pattern_word k ++ 32 ∷ name in
    let spelled = append_assoc text (10 ∷ s.read) in
    let line : (other : List ℕ) → HasService k name (s.read ++ other) ((text ++ 10 ∷ s.read)
    ++ other) = λ other.
    record { line = record { spelled = spelled other; plain = h.line.plain }; named = h.named } in
    record {
      read = text ++ 10 ∷ s.read;
      lines = lines_after text s.read s.lines;
      all = cc (h.line.spelled, s.all, spelled left);
      more = s.more;
      begun = inl (
        record {
          name = name;
          kind = k;
          hash = sha1_text (hash_input k name);
          config = s.begun.0.0;
          exchange = s.begun.0.1.0;
          attributes = s.begun.0.1.1.0;
          required = s.begun.0.1.1.1;
        },
        record {
          rest = s.read ++ s.more;
          service = line s.more;
          hash = refl;
          lines = s.begun.1;
        },
      );
      stops = λ other same good.
          let one = service_same good.0.kind k good.0.name name good.1.rest (s.read ++ other) _
          good.1.service (line other) in
          let rest : Whole (after_service base good.0.kind).Has good.1.rest = (_, good.1.lines) in
          s.stops other same (rw (one.0, one.1) at rest);
    }

pub no_more : (xs : List ℕ) → true ≡ (length xs == 0) → xs ≡ []
no_more [] e = refl
no_more (y ∷ ys) e = grind arith
