-- The texts of the words of lines, each with what follows it, and that no two values have one word.
use Rattle.std.specs.Prelude.{◌≢◌, ℕ, List, ◌∷◌, ◌++◌, codes, ◌==◌, if◌then◌else◌}
use Rattle.service_descriptions.specs.Prelude.{PatternKind, pattern_word, Role, PortDetails, role_of, node_of, port_of, port_value, Spelling, EndsNumber, number, sequence, after, packed, process_of, seconds_of, nanoseconds_of, counter_of, OneWay}
use Rattle.iox2_container.specs.declared.container.handle.Role.TheVariants as role
use Rattle.service_descriptions.specs.Lines.{id_text, IsId, IsNodeId, role_word, IsPlain, plain}
use Rattle.std.proofs.Common.{◌≡◌, get_or, arith, refl, sym, ◌∙◌, ap, subst, append_assoc}
use Rattle.iox2_config.specs.declared.hash.input.PatternKind.TheVariants as pattern
use Rattle.iox2_dynamic.specs.declared.dynamic_config.port_details.PortDetails.TheVariants as of
use Rattle.std.proofs.lemmas.List.{append_cancel_left}
use Rattle.line_streams.specs.Numerals.{cons_same}
use Rattle.line_streams.specs.OneWay.{number_one, sequence_one, after_one}

-- an id of any kind
abbrev pub id_phrase : Spelling ℕ
id_phrase = record {
  Fits = λ front. IsId front.0 × EndsNumber front.1;
  text = λ front. id_text front.0 ++ front.1;
}

-- the id of a node
abbrev pub node_id_phrase : Spelling ℕ
node_id_phrase = record {
  Fits = λ front. IsNodeId front.0 × EndsNumber front.1;
  text = λ front. id_text front.0 ++ front.1;
}

-- the parts of an id, joined by dots
abbrev pub parts_phrase : Spelling (ℕ × (ℕ × (ℕ × ℕ)))
parts_phrase =
    let part = number 4294967295 in
    sequence part
    (after (codes ".") (sequence part (after (codes ".") (sequence part (after (codes ".") part)))))

-- the word for a role of ports
abbrev pub role_phrase : Spelling Role
role_phrase = record {
  Fits = λ front. front.0 ≢ role.Node;
  text = λ front. role_word front.0 ++ front.1;
}

-- the role, the id and the node of a port
abbrev pub three_phrase : Spelling (Role × (ℕ × ℕ))
three_phrase =
    sequence role_phrase
    (after (codes " ") (sequence id_phrase (after (codes " ") node_id_phrase)))

-- what a line has of a port
abbrev pub spelled_of : PortDetails → Role × (ℕ × ℕ)
spelled_of d = (role_of d, (port_value (port_of d), node_of d))

-- a port with the details that a script gives it
abbrev pub port_phrase : Spelling PortDetails
port_phrase = record {
  Fits = λ front. IsPlain front.0 × EndsNumber front.1;
  text = λ front. three_phrase.text (spelled_of front.0, front.1);
}

-- the word for a pattern, and a space
abbrev pub pattern_phrase : Spelling PatternKind
pattern_phrase = record {
  Fits = λ front. Unit {0};
  text = λ front. pattern_word front.0 ++ 32 ∷ front.1;
}

-- the parts of an id
abbrev pub parts_of : ℕ → ℕ × (ℕ × (ℕ × ℕ))
parts_of id = (process_of id, (seconds_of id, (nanoseconds_of id, counter_of id)))

-- the number that parts make
abbrev pub made_of : ℕ × (ℕ × (ℕ × ℕ)) → ℕ
made_of p = packed p.0 p.1.0 p.1.1.0 p.1.1.1

whole : (id : ℕ) → made_of (parts_of id) ≡ id
whole id = omega arith

pub id_then : (id : ℕ) (rest : List ℕ) → id_text id ++ rest ≡ parts_phrase.text (parts_of id, rest)
id_then id rest = simp append_assoc

pub parts_fit : (id : ℕ) (rest : List ℕ) → IsId id → EndsNumber rest
    → parts_phrase.Fits (parts_of id, rest)
parts_fit id rest fits ends = (
  (omega (arith, fits), omega (arith, fits), (λ digit. omega arith)),
  (
    (omega arith, omega arith, (λ digit. omega arith)),
    ((omega arith, omega arith, (λ digit. omega arith)), (omega arith, omega arith, ends)),
  ),
)

parts_one : OneWay parts_phrase
parts_one =
    let part = number_one 4294967295 in
    sequence_one part (after_one (codes ".") (sequence_one part (after_one (codes ".")
    (sequence_one part (after_one (codes ".") part)))))

pub id_one : OneWay id_phrase
id_one = record {
  same = λ a b p q e.
      let both =
      parts_one.same (parts_of a.0, a.1) (parts_of b.0, b.1) (parts_fit a.0 a.1 p.0 p.1)
      (parts_fit b.0 b.1 q.0 q.1) (sym (id_then a.0 a.1) ∙ e ∙ id_then b.0 b.1) in
      (sym (whole a.0) ∙ ap made_of both.0 ∙ whole b.0, both.1);
}

pub node_id_one : OneWay node_id_phrase
node_id_one = record { same = λ a b p q e. id_one.same a b (p.0.0, p.1) (q.0.0, q.1) e }

-- what distinguishes roles: the first two bytes
abbrev role_by : List ℕ → Role
role_by bytes =
    if get_or bytes 0 0 == 112 then role.Publisher
    else if get_or bytes 0 0 == 108 then role.Listener
    else if get_or bytes 0 0 == 110 then role.Notifier
    else if get_or bytes 0 0 == 99 then role.Client
    else if get_or bytes 0 0 == 114 then role.Reader
    else if get_or bytes 0 0 == 119 then role.Writer
    else if get_or bytes 1 0 == 117 then role.Subscriber
    else role.Server

role_by_is : (r : Role) (rest : List ℕ) → r ≢ role.Node → role_by (role_word r ++ rest) ≡ r
role_by_is role.Node rest p = absurd (p refl)
role_by_is _ rest p = refl

pub role_one : OneWay role_phrase
role_one = record {
  same = λ a b p q e.
      let is : a.0 ≡ b.0 = sym (role_by_is a.0 a.1 p) ∙ ap role_by e ∙ role_by_is b.0 b.1 q in (
        is,
        append_cancel_left (role_word b.0) a.1 b.1
            (subst (λ r. role_word r ++ a.1 ≡ role_word b.0 ++ b.1) is e),
      );
}

role_no_node : (d : PortDetails) → role_of d ≢ role.Node
role_no_node (of.Publisher d) e = (cc)
role_no_node _ e = (cc)

pub three_fit : (d : PortDetails) (rest : List ℕ) → IsPlain d → EndsNumber rest
    → three_phrase.Fits (spelled_of d, rest)
three_fit d rest p ends =
    (role_no_node d, ((p.port, (λ digit. omega arith)), (p.node, ends)))

three_one : OneWay three_phrase
three_one =
    sequence_one role_one
    (after_one (codes " ") (sequence_one id_one (after_one (codes " ") node_id_one)))

pub port_one : OneWay port_phrase
port_one = record {
  same = λ a b p q e.
      let both =
      three_one.same (spelled_of a.0, a.1) (spelled_of b.0, b.1) (three_fit a.0 a.1 p.0 p.1)
      (three_fit b.0 b.1 q.0 q.1) e in
      (p.0.others ∙ ap (λ t. plain t.0 t.1.0 t.1.1) both.0 ∙ sym q.0.others, both.1);
}

-- the pattern whose word begins with this byte
abbrev pattern_by : ℕ → PatternKind
pattern_by first =
    if first == 112 then pattern.PublishSubscribe
    else if first == 101 then pattern.Event
    else if first == 114 then pattern.RequestResponse
    else pattern.Blackboard

pattern_by_is : (k : PatternKind) (rest : List ℕ)
    → pattern_by (get_or (pattern_word k ++ rest) 0 0) ≡ k
pattern_by_is pattern.PublishSubscribe rest = refl
pattern_by_is _ rest = refl

pub pattern_one : OneWay pattern_phrase
pattern_one = record {
  same = λ a b p q e.
      let is : a.0 ≡ b.0 =
      sym (pattern_by_is a.0 (32 ∷ a.1)) ∙ ap (λ bytes. pattern_by (get_or bytes 0 0)) e
      ∙ pattern_by_is b.0 (32 ∷ b.1) in
      let rest =
      append_cancel_left (pattern_word b.0) (32 ∷ a.1) (32 ∷ b.1)
      (subst (λ k. pattern_word k ++ 32 ∷ a.1 ≡ pattern_word b.0 ++ 32 ∷ b.1) is e) in
      (is, (cons_same rest).1);
}
