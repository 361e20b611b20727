-- Lines, names, numbers and the lines of a message, in one way.
use Rattle.std.proofs.Common.{◌≡◌, ℕ, ◌<◌, ◌^◌, List, [], ◌∷◌, ◌++◌, length, arith, sym, ◌∙◌, ap, subst, length-append, rules, ◌≤◌, cond, codes, Option, Some, None, Err, refl, IsTrue, Bool, true, false, MatchBool, nat_eq}
use Rattle.std.specs.Fmt.{decimal}
use Rattle.std.proofs.lemmas.List.{append_cancel_left}
use Rattle.line_streams.specs.Numerals.{cons_same}
use Rattle.line_streams.specs.OneWay.{after_one, number_one, sequence_one}
use Rattle.line_streams.proofs.Indices.{before_one}
use Rattle.line_streams.specs.Spelling.{EndsNumber, HasNo, OneWay, Spelling, after, number, sequence}
use Rattle.service_drawing.specs.Lines.{IsPlain, IsLine, HasLine, HasOpener, IsDescribed, AreAlignments, type_text, alignments_text, variant_word, MayBeNamed, IsInternal}
use Rattle.std.specs.Prelude.{◌==◌}
use Rattle.std.specs.Int.{is_power_of_two}
use Rattle.std.proofs.lemmas.Fmt.{decimal_injective}
use Rattle.iox2_config.specs.TypeDetailParts.{TypeDetailParts}
use Rattle.iox2_config.specs.TypeDetails.{IsTypeName, MakesDetail}
use Rattle.iox2_config.specs.declared.types.message_details.MessageTypeDetails.{MessageTypeDetails}
use Rattle.iox2_config.specs.declared.types.type_detail.TypeDetailError.{TypeDetailError}
use Rattle.iox2_config.specs.declared.types.type_detail.TypeVariant.{TypeVariant}
use Rattle.iox2_config.specs.declared.types.type_detail.TypeVariant.TheVariants.{FixedSize, Dynamic}
use Rattle.std.specs.List.{starts_with}
use Rattle.iox2_texts.specs.Name.{IsName, MakesServiceName, MakesPublicName}
use Rattle.iox2_texts.specs.declared.service_name.ServiceNameError.{ServiceNameError}
use Rattle.iox2_texts.specs.declared.service_name.ServiceNameError.TheVariants.{InvalidContent, ExceedsMaximumLength}
use Rattle.iox2_config.specs.Hashing.{hash_input, pattern_word, sha1_text, MakesHash}
use Rattle.iox2_config.specs.declared.hash.input.PatternKind.{PatternKind}
use Rattle.iox2_config.specs.declared.hash.input.PatternKind.TheVariants.{PublishSubscribe, Event, RequestResponse, Blackboard}
use Rattle.iox2_config.specs.declared.hash.service_hash.ServiceHashError.{ServiceHashError}
use Rattle.iox2_config.specs.declared.hash.service_hash.ServiceHashError.TheVariants.{HasherFailed, IllegalText}

-- a plain byte is no newline
pub plain_lacks : (text : List ℕ) → IsPlain text → HasNo 10 text
plain_lacks text h k d within e = grind arith

-- bytes begin with one line
pub line_one : (s t x y bytes : List ℕ) → IsLine s x bytes → IsLine t y bytes → (s ≡ t) × (x ≡ y)
line_one s t x y bytes p q =
    (before_one 10).same (s, x) (t, y) (plain_lacks s p.plain) (plain_lacks t q.plain)
    (sym p.spelled ∙ q.spelled)

-- where a foreign byte stands before the first newline, there is no line
pub bad_line : (text rest bytes : List ℕ) → HasNo 10 text → bytes ≡ text ++ 10 ∷ rest
    → ¬ IsPlain text → (t x : List ℕ) → ¬ IsLine t x bytes
bad_line text rest bytes lacks e bad t x l =
    let same = (before_one 10).same (text, rest) (t, x) lacks (plain_lacks t l.plain)
    (sym e ∙ l.spelled) in
    bad (subst IsPlain (sym same.0) l.plain)

pub space_ends : (x : List ℕ) → EndsNumber (32 ∷ x)
space_ends x digit = omega (arith, digit)

pub nothing_ends : EndsNumber []
nothing_ends digit = omega (arith, digit)

-- nothing is longer than itself
pub longer : (xs ys : List ℕ) (y : ℕ) → xs ≡ xs ++ y ∷ ys → ⊥
longer xs ys y e = omega (arith, ap length e, length-append xs (y ∷ ys))

-- a number, a space and a number
abbrev two : Spelling (ℕ × ℕ)
two = sequence (number 18446744073709551615) (after (32 ∷ []) (number 18446744073709551615))

pub two_one : OneWay two
two_one = sequence_one (number_one 18446744073709551615)
    (after_one (32 ∷ []) (number_one 18446744073709551615))

-- two numbers fit where a space follows
pub two_fit : (m n : ℕ) (rest : List ℕ) → m < 2 ^ 64 → n < 2 ^ 64 → two.Fits ((m, n), 32 ∷ rest)
two_fit m n rest p q = (
  (omega (arith, p), p, space_ends (decimal n ++ 32 ∷ rest)),
  (omega (arith, q), q, space_ends rest),
)

-- two numbers, of one text
pub same_numbers : (text : List ℕ) (a b m n : ℕ) (x y : List ℕ) → a < 2 ^ 64 → b < 2 ^ 64
    → m < 2 ^ 64 → n < 2 ^ 64 → text ≡ decimal a ++ 32 ∷ (decimal b ++ 32 ∷ x)
    → text ≡ decimal m ++ 32 ∷ (decimal n ++ 32 ∷ y) → (a ≡ m) × (b ≡ n) × (x ≡ y)
same_numbers text a b m n x y pa pb pm pn e f =
    let same = two_one.same ((a, b), 32 ∷ x) ((m, n), 32 ∷ y) (two_fit a b x pa pb)
    (two_fit m n y pm pn) (sym e ∙ f) in
    (ap (λ p. p.0) same.0, ap (λ p. p.1) same.0, (cons_same same.1).1)

-- what no type of the one text may have
pub no_type : (text name : List ℕ) (a b : ℕ) → a < 2 ^ 64 → b < 2 ^ 64
    → text ≡ decimal a ++ 32 ∷ (decimal b ++ 32 ∷ name)
    → ¬ ((1 ≤ length name) × IsTypeName name × IsTrue (is_power_of_two b))
    → (t : TypeDetailParts) → IsDescribed t → ¬ (text ≡ type_text t)
no_type text name a b pa pb e bad t d is =
    let same =
    same_numbers text a b t.size t.alignment name t.type_name pa pb d.size d.alignment.0 e is in
    bad (rw (same.1, same.2) (d.named, d.type_name, d.alignment.1))

-- the parts of a type that is refused
pub not_made : (parts : TypeDetailParts) (why : TypeDetailError) → MakesDetail parts (Err why)
    → ¬ (IsTypeName parts.type_name × IsTrue (is_power_of_two parts.alignment))
not_made parts why h legal = grind arith

abbrev variant_at : List ℕ → TypeVariant
variant_at [] = FixedSize
variant_at (b ∷ bs) = cond (b == 102) FixedSize Dynamic

variant_front : (v : TypeVariant) (x : List ℕ) → variant_at (variant_word v ++ x) ≡ v
variant_front v x = grind arith

-- the variant, of one text
pub same_variant : (v w : TypeVariant) (x y : List ℕ) → variant_word v ++ x ≡ variant_word w ++ y
    → v ≡ w
same_variant v w x y e = sym (variant_front v x) ∙ ap variant_at e ∙ variant_front w y

-- three numbers, not all of which are powers of two
pub no_alignments : (text payload : List ℕ) (a b k : ℕ) → a < 2 ^ 64 → b < 2 ^ 64 → k < 2 ^ 64
    → text ≡ decimal a ++ 32 ∷ (decimal b ++ 32 ∷ payload) → payload ≡ decimal k
    → ¬ (IsTrue (is_power_of_two a) × IsTrue (is_power_of_two b) × IsTrue (is_power_of_two k))
    → (d : MessageTypeDetails) → AreAlignments d → ¬ (text ≡ alignments_text d)
no_alignments text payload a b k pa pb pk e third bad d are is =
    let same = same_numbers text a b d.header.alignment d.user_header.alignment payload _ pa pb
    are.header.0 are.user_header.0 e is in
    let last = decimal_injective k d.payload.alignment pk are.payload.0 (sym third ∙ same.2) in
    bad (rw (same.0, same.1, last) (are.header.1, are.user_header.1, are.payload.1))

-- what one line says after the same beginning
pub same_text : (begin text rest bytes : List ℕ) → IsLine (begin ++ text) rest bytes
    → (t x : List ℕ) → IsLine (begin ++ t) x bytes → text ≡ t
same_text begin text rest bytes l t x m =
    append_cancel_left begin text t (line_one _ _ rest x bytes l m).0

-- the line says something that no value of this kind is
pub no_line : {A : Type 0} (begin : List ℕ) (IsLegal : A → Type 0) (spelled : A → List ℕ)
    (text rest bytes : List ℕ) → IsLine (begin ++ text) rest bytes
    → ((x : A) → IsLegal x → ¬ (text ≡ spelled x)) → (x : A) (r : List ℕ)
    → ¬ HasLine begin IsLegal spelled x r bytes
no_line begin IsLegal spelled text rest bytes l bad x r h = search (rules, same_text)

-- the line of an opener that is refused
pub no_opener : (prefix text rest bytes : List ℕ)
    → IsLine (prefix ++ codes "opener " ++ text) rest bytes
    → ((d : MessageTypeDetails) → AreAlignments d → ¬ (text ≡ alignments_text d))
    → (o : Option MessageTypeDetails) (x : List ℕ) → ¬ HasOpener prefix o x bytes
no_opener prefix text rest bytes l bad None x h = search rules
no_opener prefix text rest bytes l bad (Some d) x h = search (rules, no_line)

abbrev pattern_at : List ℕ → PatternKind
pattern_at [] = Event
pattern_at (b ∷ bs) =
    cond (b == 112) PublishSubscribe
    (cond (b == 101) Event (cond (b == 114) RequestResponse Blackboard))

pattern_front : (k : PatternKind) (x : List ℕ) → pattern_at (pattern_word k ++ x) ≡ k
pattern_front PublishSubscribe x = refl
pattern_front Event x = refl
pattern_front RequestResponse x = refl
pattern_front Blackboard x = refl

-- a line has one pattern and one name
pub same_pattern : (j k : PatternKind) (m n : List ℕ)
    → pattern_word j ++ 32 ∷ m ≡ pattern_word k ++ 32 ∷ n → (j ≡ k) × (m ≡ n)
same_pattern j k m n e = grind (arith, pattern_front, append_cancel_left)

-- what is true of the one name of a line
pub of_the_line : (P : PatternKind → List ℕ → Type 0) (line : List ℕ) (k : PatternKind)
    (name : List ℕ) → line ≡ pattern_word k ++ 32 ∷ name → ¬ P k name → (j : PatternKind)
    (m : List ℕ) → P j m → ¬ (line ≡ pattern_word j ++ 32 ∷ m)
of_the_line P line k name e bad j m p is = grind (arith, same_pattern)

-- a line without an internal name has none
pub not_internal : (line : List ℕ) (k : PatternKind) (name : List ℕ)
    → line ≡ pattern_word k ++ 32 ∷ name → false ≡ starts_with nat_eq name (codes "iox2://")
    → ¬ IsInternal line
not_internal line k name e other s = grind (arith, of_the_line)

second : (b : Bool) (P Q : Type 0) → b ≡ false → MatchBool b P Q → Q
second true P Q e h = cc
second false P Q e h = h

-- a name that is refused
refused : (name : List ℕ) (why : ServiceNameError) → MakesServiceName name (Err why)
    → ¬ IsName 255 name
refused name InvalidContent h legal = h.1 legal
refused name ExceedsMaximumLength h legal = omega (arith, h, legal.0.0)

pub no_name : (k : PatternKind) (name : List ℕ) (why : ServiceNameError)
    → MakesPublicName name (Err why) → starts_with nat_eq name (codes "iox2://") ≡ false
    → ¬ MayBeNamed k name
no_name k name why h e may = grind (arith, refused, second)

-- a hash text that is refused
pub not_hashed : (k : PatternKind) (name : List ℕ) (why : ServiceHashError)
    → MakesHash sha1_text (λ input. ⊥) (hash_input k name) (Err why) → ¬ MayBeNamed k name
not_hashed k name HasherFailed h may = h
not_hashed k name IllegalText h may = h may.hashed
