-- The lines of scripts, as their phrases spell them.
use Rattle.std.proofs.Common.{◌≡◌, ◌≢◌, ℕ, ◌<◌, ◌^◌, List, [], ◌∷◌, ◌++◌, Some, None, Vec, arith, refl, sym, ◌∙◌, ap, subst, append_assoc, codes, map, get_or}
use Rattle.std.specs.Prelude.{◌==◌, if◌then◌else◌}
use Rattle.std.specs.declared.alloc.Global.{Global}
use Rattle.service_descriptions.proofs.Names.{AllByRecursion, join_with_byte, PortDetails, Newline, Bytes, Nowhere, reads_after, reads_then, number_one, line_end_one, sequence_one, after_one, Spelling, OneWay, Reads, Lacks, EndsNumber, OthersFit, others_text, number, line_end, sequence, after, ByPort, Command, id_text, IsId, line_of, line_text, HasLine, IsLine, SameCommand, skip_words, id_one, node_id_one, role_one, port_one, id_phrase, node_id_phrase, three_phrase, spelled_of, PatternKind, ServiceLine, pattern_one, service_line, IsServiceLine, service_front, pattern_phrase}
use Rattle.line_streams.specs.declared.phrase.LineEnd.{LineEnd}
use Rattle.line_streams.specs.Numerals.{cons_same}
use Rattle.line_streams.specs.OneWay.{listed_one}
use Rattle.line_streams.specs.Spelling.{listed}
use Rattle.service_descriptions.specs.declared.replay.machine.command.Command.TheVariants as command

-- a number of 64 bits
abbrev pub any_number : Spelling ℕ
any_number = number 18446744073709551615

pub any_one : OneWay any_number
any_one = number_one 18446744073709551615

pub any_fits : (n : ℕ) (rest : List ℕ) → n < 2 ^ 64 → EndsNumber rest → any_number.Fits (n, rest)
any_fits n rest small ends = (omega (arith, small), small, ends)

-- the ports that stay, and before them the dead node
abbrev pub kept_phrase : Spelling (List ℕ)
kept_phrase = listed (codes " skip ") 32 id_phrase

abbrev pub dead_phrase : Spelling (ℕ × List ℕ)
dead_phrase = sequence node_id_phrase kept_phrase

pub dead_one : OneWay dead_phrase
dead_one = sequence_one node_id_one (listed_one (codes " skip ") 32 id_one)

-- the commands that have a line
pub data Kind : Type 0 where
  RegisterLine : Kind
  DeregisterLine : Kind
  NodesLine : Kind
  AddLine : Kind
  ReleaseLine : Kind
  ListLine : Kind
  CountLine : Kind
  DeadLine : Kind

-- the word of a line, and the phrase that follows it
pub record Form : Type 1 where
  pub Seen : Type 0
  pub word : List ℕ
  pub phrase : LineEnd → Spelling Seen
  pub one : (end : LineEnd) → OneWay (phrase end)

abbrev of : {A : Type 0} {P : Spelling A} → List ℕ → OneWay P → Form
of {A} {P} word one = record {
  Seen = A × Unit {0};
  word = word;
  phrase = λ end. sequence P (line_end end);
  one = λ end. sequence_one one (line_end_one end);
}

abbrev pub form : Kind → Form
form RegisterLine = of (codes "register ") node_id_one
form DeregisterLine = of (codes "deregister ") any_one
form NodesLine = record {
  Seen = Unit {0};
  word = codes "nodes";
  phrase = line_end;
  one = line_end_one;
}
form AddLine = of (codes "add ") port_one
form ReleaseLine = of (codes "release ") any_one
form ListLine = of (codes "list ") role_one
form CountLine = of (codes "count ") role_one
form DeadLine = of (codes "dead ") dead_one

-- which of them a command is
abbrev kind_of : Command → Kind
kind_of (command.Register id) = RegisterLine
kind_of (command.Deregister k) = DeregisterLine
kind_of (command.Add d) = AddLine
kind_of (command.Release k) = ReleaseLine
kind_of (command.List r) = ListLine
kind_of (command.Count r) = CountLine
kind_of (command.Dead id (ByPort kept)) = DeadLine
kind_of _ = NodesLine

-- what its phrase sees of it
abbrev seen : (c : Command) → (form (kind_of c)).Seen
seen (command.Register id) = (id, tt)
seen (command.Deregister k) = (k, tt)
seen (command.Add d) = (d, tt)
seen (command.Release k) = (k, tt)
seen (command.List r) = (r, tt)
seen (command.Count r) = (r, tt)
seen (command.Dead id (ByPort kept)) = ((id, kept.items), tt)
seen _ = tt

-- a line of a kind: its word, and what follows it
abbrev pub line : LineEnd → (k : Kind) → Spelling (form k).Seen
line end k = after (form k).word ((form k).phrase end)

-- what follows the name of a port
join_ports : (word : List ℕ) (ports rest : List ℕ)
    → join_with_byte 32 (word ∷ map id_text ports) ++ rest ≡ word
    ++ others_text 32 id_phrase ports rest
join_ports word [] rest = refl
join_ports word (port ∷ ports) rest =
    append_assoc word (32 ∷ join_with_byte 32 (map id_text (port ∷ ports))) rest
    ∙ ap (λ (xs : List ℕ). word ++ 32 ∷ xs) (join_ports (id_text port) ports rest)

dead_text : (id : ℕ) (ports rest : List ℕ)
    → join_with_byte 32 (codes "dead" ∷ id_text id ∷ skip_words ports) ++ rest ≡ codes "dead "
    ++ (id_text id ++ kept_phrase.text (ports, rest))
dead_text id [] rest = refl
dead_text id (port ∷ ports) rest =
    ap (λ (xs : List ℕ). codes "dead " ++ xs)
    (append_assoc (id_text id)
    (32 ∷ join_with_byte 32 (codes "skip" ∷ map id_text (port ∷ ports))) rest
    ∙ ap (λ (xs : List ℕ). id_text id ++ 32 ∷ xs) (join_ports (codes "skip") (port ∷ ports) rest))

add_text : (d : PortDetails) (rest : List ℕ)
    → line_of (command.Add d) ++ rest ≡ codes "add " ++ three_phrase.text (spelled_of d, rest)
add_text d rest = simp append_assoc

-- the line of a command is one of its kind
is_line_text : (end : LineEnd) (c : Command) (rest : List ℕ) → HasLine c
    → line_text end (c, rest) ≡ (line end (kind_of c)).text (seen c, rest)
is_line_text end (command.Register id) rest p = refl
is_line_text end (command.Deregister k) rest p = refl
is_line_text end command.Nodes rest p = refl
is_line_text end (command.Add d) rest p = add_text d ((line_end end).text (tt, rest))
is_line_text end (command.Release k) rest p = refl
is_line_text end (command.List r) rest p = refl
is_line_text end (command.Count r) rest p = refl
is_line_text end (command.Dead id (ByPort kept)) rest p =
    dead_text id kept.items ((line_end end).text (tt, rest))
is_line_text end _ rest p = absurd p

-- neither a digit nor a space begins the end of a line
end_ends : (end : LineEnd) (rest : List ℕ) → (line_end end).Fits (tt, rest)
    → EndsNumber ((line_end end).text (tt, rest))
end_ends Newline rest fits = λ digit. omega arith
end_ends Bytes rest fits = rw fits (λ digit. omega arith)

no_space : (end : LineEnd) (rest : List ℕ) → (line_end end).Fits (tt, rest)
    → Lacks (32 ∷ []) ((line_end end).text (tt, rest))
no_space Newline rest fits tail e = omega (arith, (cons_same e).0)
no_space Bytes rest fits tail e = let none = sym fits ∙ e in cc

others_fit : (ports rest : List ℕ) → AllByRecursion IsId ports → EndsNumber rest
    → Lacks (32 ∷ []) rest → OthersFit 32 id_phrase ports rest
    × EndsNumber (others_text 32 id_phrase ports rest)
others_fit [] rest p ends none = (none, ends)
others_fit (port ∷ ports) rest p ends none =
    let more = others_fit ports rest p.1 ends none in
    (((p.0, more.1), more.0), (λ digit. omega arith))

kept_fit : (ports rest : List ℕ) → AllByRecursion IsId ports → EndsNumber rest
    → Lacks (32 ∷ []) rest → kept_phrase.Fits (ports, rest)
    × EndsNumber (kept_phrase.text (ports, rest))
kept_fit [] rest p ends none = (λ tail e. none (codes "skip " ++ tail) e, ends)
kept_fit (port ∷ ports) rest p ends none =
    ((others_fit (port ∷ ports) rest p ends none).0, (λ digit. omega arith))

-- each command with a line is spelled by its phrase
fit : (end : LineEnd) (c : Command) (rest : List ℕ) → IsLine end (c, rest)
    → (line end (kind_of c)).Fits (seen c, rest)
fit end (command.Register id) rest p = ((p.0, end_ends end rest p.1), p.1)
fit end (command.Deregister k) rest p =
    let ends = end_ends end rest p.1 in
    (any_fits k ((line_end end).text (tt, rest)) p.0 ends, p.1)
fit end (command.Add d) rest p = ((p.0, end_ends end rest p.1), p.1)
fit end (command.Release k) rest p =
    let ends = end_ends end rest p.1 in
    (any_fits k ((line_end end).text (tt, rest)) p.0 ends, p.1)
fit end (command.List r) rest p = p
fit end (command.Count r) rest p = p
fit end command.Nodes rest p = p.1
fit end (command.Dead id (ByPort kept)) rest p =
    let ports = kept_fit kept.items _ p.0.1 (end_ends end rest p.1) (no_space end rest p.1) in
    (((p.0.0, ports.1), ports.0), p.1)
fit end _ rest p = absurd p.0

-- what tells the words apart: their first or their third byte
abbrev kind_by : List ℕ → Kind
kind_by bytes =
    if get_or bytes 0 0 == 97 then AddLine
    else if get_or bytes 0 0 == 108 then ListLine
    else if get_or bytes 0 0 == 99 then CountLine
    else if get_or bytes 0 0 == 110 then NodesLine
    else if get_or bytes 2 0 == 103 then RegisterLine
    else if get_or bytes 2 0 == 108 then ReleaseLine
    else if get_or bytes 2 0 == 114 then DeregisterLine
    else DeadLine

kind_by_is : (k : Kind) (rest : List ℕ) → kind_by ((form k).word ++ rest) ≡ k
kind_by_is RegisterLine rest = refl
kind_by_is _ rest = refl

-- no text has the words of two kinds
one_kind : (k l : Kind) (x y : List ℕ) → (form k).word ++ x ≡ (form l).word ++ y → k ≡ l
one_kind k l x y e = sym (kind_by_is k x) ∙ ap kind_by e ∙ kind_by_is l y

-- where no phrase follows the word of its kind, no command's line begins the bytes
pub no_line : (k : Kind) (end : LineEnd) (rest bytes : List ℕ) → bytes ≡ (form k).word ++ rest
    → Nowhere ((form k).phrase end) rest → (a : Command × List ℕ) → IsLine end a
    → bytes ≢ line_text end a
no_line k end rest bytes is none a fits e =
    let there : bytes ≡ (line end (kind_of a.0)).text (seen a.0, a.1) =
    e ∙ is_line_text end a.0 a.1 fits.0 in
    let same : k ≡ kind_of a.0 = one_kind k (kind_of a.0) rest _ (sym is ∙ there) in
    let nowhere =
    subst (λ (l : Kind). Nowhere (line end l) bytes) same
    (reads_after (form k).word ((form k).phrase end) rest bytes None is none) in
    nowhere (seen a.0, a.1) (fit end a.0 a.1 fits) there

-- where no line of any kind begins the bytes, no command's line does
pub no_command : (end : LineEnd) (bytes : List ℕ) → ((k : Kind) → Nowhere (line end k) bytes)
    → (a : Command × List ℕ) → IsLine end a → bytes ≢ line_text end a
no_command end bytes none a fits e =
    none (kind_of a.0) (seen a.0, a.1) (fit end a.0 a.1 fits) (e ∙ is_line_text end a.0 a.1 fits.0)

-- what was read as the words of a dead node is its line
all_others : (ports rest : List ℕ) → OthersFit 32 id_phrase ports rest → AllByRecursion IsId ports
all_others [] rest p = tt
all_others (port ∷ ports) rest p = (p.0.0, all_others ports rest p.1)

all_kept : (ports rest : List ℕ) → kept_phrase.Fits (ports, rest) → AllByRecursion IsId ports
all_kept [] rest p = tt
all_kept (port ∷ ports) rest p = all_others (port ∷ ports) rest p

pub dead_found : (end : LineEnd) (node : ℕ) (kept : Vec ℕ Global)
    (ports bytes mid tail rest : List ℕ) → ports ≡ kept.items
    → Reads node_id_phrase.Fits node_id_phrase.text (Some (node, mid)) bytes
    → Reads kept_phrase.Fits kept_phrase.text (Some (ports, tail)) mid
    → Reads (line_end end).Fits (line_end end).text (Some (tt, rest)) tail
    → IsLine end (command.Dead node (ByPort kept), rest)
    × (codes "dead " ++ bytes ≡ line_text end (command.Dead node (ByPort kept), rest))
dead_found end node kept ports bytes mid tail rest e first list last =
    let P = node_id_phrase in
    let read =
    subst (λ l. Reads (sequence dead_phrase (line_end end)).Fits
    (sequence dead_phrase (line_end end)).text (Some (((node, l), tt), rest)) bytes) e
    (reads_then dead_phrase (line_end end) (node, ports) tt bytes tail rest
    (reads_then P kept_phrase node ports bytes mid tail first list) last) in
    let has : HasLine (command.Dead node (ByPort kept)) =
    (read.0.0.0.0, all_kept kept.items _ read.0.0.1) in (
      (has, read.0.1),
      ap (λ l. codes "dead " ++ l) read.1
          ∙ sym (is_line_text end (command.Dead node (ByPort kept)) rest has),
    )

one : (end : LineEnd) (k : Kind) → OneWay (line end k)
one end k = after_one (form k).word ((form k).one end)

same_kind : (end : LineEnd) (c d : Command) (x y : List ℕ) → HasLine c → HasLine d
    → kind_of c ≡ kind_of d → (line end (kind_of c)).Fits (seen c, x)
    → (line end (kind_of d)).Fits (seen d, y)
    → (line end (kind_of c)).text (seen c, x) ≡ (line end (kind_of d)).text (seen d, y)
    → SameCommand c d × (x ≡ y)
same_kind end (command.Register a) (command.Register b) x y f g k p q e =
    let both = (one end RegisterLine).same ((a, tt), x) ((b, tt), y) p q e in
    (ap (λ p. command.Register p.0) both.0, both.1)
same_kind end (command.Deregister a) (command.Deregister b) x y f g k p q e =
    let both = (one end DeregisterLine).same ((a, tt), x) ((b, tt), y) p q e in
    (ap (λ p. command.Deregister p.0) both.0, both.1)
same_kind end command.Nodes command.Nodes x y f g k p q e =
    (refl, ((one end NodesLine).same (tt, x) (tt, y) p q e).1)
same_kind end (command.Add a) (command.Add b) x y f g k p q e =
    let both = (one end AddLine).same ((a, tt), x) ((b, tt), y) p q e in
    (ap (λ p. command.Add p.0) both.0, both.1)
same_kind end (command.Release a) (command.Release b) x y f g k p q e =
    let both = (one end ReleaseLine).same ((a, tt), x) ((b, tt), y) p q e in
    (ap (λ p. command.Release p.0) both.0, both.1)
same_kind end (command.List a) (command.List b) x y f g k p q e =
    let both = (one end ListLine).same ((a, tt), x) ((b, tt), y) p q e in
    (ap (λ p. command.List p.0) both.0, both.1)
same_kind end (command.Count a) (command.Count b) x y f g k p q e =
    let both = (one end CountLine).same ((a, tt), x) ((b, tt), y) p q e in
    (ap (λ p. command.Count p.0) both.0, both.1)
same_kind end (command.Dead a (ByPort kept)) (command.Dead b (ByPort other)) x y f g k p q e =
    let both =
    (one end DeadLine).same (((a, kept.items), tt), x) (((b, other.items), tt), y) p q e in
    ((ap (λ p. p.0.0) both.0, ap (λ p. p.0.1) both.0), both.1)
same_kind end _ _ x y f g k p q e = absurd (grind (arith, f, g, k))

-- commands at the front of one text are the same, and so is what follows them
pub same_command : (end : LineEnd) (a b : Command × List ℕ) → IsLine end a → IsLine end b
    → line_text end a ≡ line_text end b → SameCommand a.0 b.0 × (a.1 ≡ b.1)
same_command end (c, x) (d, y) p q e =
    let same = sym (is_line_text end c x p.0) ∙ e ∙ is_line_text end d y q.0 in
    same_kind end c d x y p.0 q.0 (one_kind (kind_of c) (kind_of d) _ _ same) (fit end c x p)
    (fit end d y q) same

-- the phrase of a service line
abbrev Four : Type 0
Four = ℕ × (ℕ × (ℕ × (ℕ × Unit {0})))

abbrev spaced : {A : Type 0} → Spelling A → Spelling (ℕ × A)
spaced P = after (codes " ") (sequence any_number P)

abbrev pub service : Spelling (PatternKind × Four)
service =
    after (codes "service ") (sequence pattern_phrase (sequence any_number
    (spaced (spaced (spaced (line_end Newline))))))

service_one : OneWay service
service_one =
    let space = codes " " in
    after_one (codes "service ") (sequence_one pattern_one (sequence_one any_one
    (after_one space (sequence_one any_one (after_one space (sequence_one any_one
    (after_one space (sequence_one any_one (line_end_one Newline)))))))))

-- what it sees of a line
abbrev pub service_parts : ServiceLine → PatternKind × Four
service_parts l = (l.pattern, (l.number, (l.max_nodes, (l.first, (l.second, tt)))))

pub is_service_text : (l : ServiceLine) (rest : List ℕ)
    → service_front (l, rest) ≡ service.text (service_parts l, rest)
is_service_text l rest = ap (λ (xs : List ℕ). codes "service " ++ xs) (simp append_assoc)

pub service_fits : (l : ServiceLine) (rest : List ℕ) → IsServiceLine l
    → service.Fits (service_parts l, rest)
service_fits l rest p =
    let space : EndsNumber (32 ∷ rest) = λ digit. omega arith in
    let newline : EndsNumber (10 ∷ rest) = λ digit. omega arith in (
      tt,
      (
        any_fits l.number (32 ∷ rest) p.number space,
        (
          any_fits l.max_nodes (32 ∷ rest) p.max_nodes space,
          (
            any_fits l.first (32 ∷ rest) p.first space,
            (any_fits l.second (10 ∷ rest) p.second newline, tt),
          ),
        ),
      ),
    )

abbrev made : PatternKind × Four → ServiceLine
made p = record {
  pattern = p.0;
  number = p.1.0;
  max_nodes = p.1.1.0;
  first = p.1.1.1.0;
  second = p.1.1.1.1.0;
}

-- services at the front of one text are the same, and so is what follows them
pub same_service : (l m : ServiceLine) (x y : List ℕ) → IsServiceLine l → IsServiceLine m
    → service_line l ++ 10 ∷ x ≡ service_line m ++ 10 ∷ y → (l ≡ m) × (x ≡ y)
same_service l m x y p q e =
    let same =
    service_one.same (service_parts l, x) (service_parts m, y) (service_fits l x p)
    (service_fits m y q)
    (sym (is_service_text l x) ∙ e ∙ is_service_text m y) in
    (ap made same.0, same.1)
