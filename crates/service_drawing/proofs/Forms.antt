-- Forms of lines, and lines of one kind: what is true of each, and where reading stops.
use Rattle.std.proofs.Common.{◌≡◌, ◌≢◌, ℕ, List, [], ◌∷◌, ◌++◌, ◌⊎◌, inl, inr, refl, sym, ap, subst, append_assoc, length, length-append, arith, ◌<◌, ◌≤◌, map, ◌∙◌}
use Rattle.line_streams.specs.Numerals.{cons_same}
use Rattle.line_streams.specs.Spelling.{HasNo}
use Rattle.service_drawing.specs.Lines.{IsLine, IsPlain, AreLines, HasNoLine, HasSameLine, Begins, Whole, Stops, StopsAt, Form, HasLine, at_once, line, then, sequence, made, HasMany, ReadMany, UpTo, line_by_line}
use Rattle.service_drawing.proofs.Words.{line_one, plain_lacks, same_text}
use Rattle.std.proofs.lemmas.Bool.{cases_lt}
use Rattle.std.proofs.lemmas.List.{append-nil, length-map}
use Rattle.std.proofs.lemmas.List.Elements.{All-head, All-tail}

pub same_back : (one other : List ℕ) → HasSameLine one other → HasSameLine other one
same_back one other same = grind arith

-- the first of the same lines
first_line : (text lines rest more other : List ℕ) → HasNo 10 text
    → text ++ 10 ∷ rest ≡ lines ++ 10 ∷ more
    → (q : List ℕ) × (lines ++ 10 ∷ other ≡ text ++ 10 ∷ q)
first_line [] [] rest more other h e = (other, refl)
first_line [] (b ∷ lines) rest more other h e = (lines ++ 10 ∷ other, rw (cons_same e).0 refl)
first_line (a ∷ text) [] rest more other h e =
    absurd (All-head (λ c. c ≢ 10) a text h (cons_same e).0)
first_line (a ∷ text) (b ∷ lines) rest more other h e =
    let both = cons_same e in
    let q = first_line text lines rest more other (All-tail (λ c. c ≢ 10) a text h) both.1 in
    (q.0, cc (both.0, q.1))

-- where both begin with the same line, they begin with the same lines
pub line_like : (one other text rest : List ℕ) → HasSameLine one other → IsLine text rest one
    → (q : List ℕ) × IsLine text q other
line_like one other text rest (inl e) l = (rest, rw e at l)
line_like one other text rest (inr s) l =
    let first = first_line text s.lines rest s.rest s.other_rest (plain_lacks text l.plain)
    (sym l.spelled ∙ s.first) in
    (first.0, record { spelled = s.second ∙ first.1; plain = l.plain })

pub none_like : (one other begin : List ℕ) → HasSameLine one other → HasNoLine begin one
    → HasNoLine begin other
none_like one other begin same none text rest l =
    let back = line_like other one (begin ++ text) rest (same_back one other same) l in
    none text back.0 back.1

-- no line begins nothing
pub none_begins : (begin : List ℕ) → HasNoLine begin []
none_begins begin text rest l =
    omega (arith, ap length l.spelled, length-append (begin ++ text) (10 ∷ rest))

-- lines, and then others
lines_then : (front next : List ℕ) → AreLines front → AreLines next → AreLines (front ++ next)
lines_then front next l (inl e) = rw (e, append-nil front) l
lines_then front next l (inr (lines, e)) =
    inr (front ++ lines, rw e (sym (append_assoc front lines (10 ∷ []))))

-- a line, and then others
pub lines_after : (text next : List ℕ) → AreLines next → AreLines (text ++ 10 ∷ next)
lines_after text next l = rw (← append_assoc text (10 ∷ []) next)
    (lines_then (text ++ 10 ∷ []) next (inr (text, refl)) l)

-- no line begins in one of these ways
abbrev pub NoneOf : List (List ℕ) → List ℕ → Type 0
NoneOf [] bytes = Unit {0}
NoneOf (begin ∷ begins) bytes = HasNoLine begin bytes × NoneOf begins bytes

pub none_of_nothing : (begins : List (List ℕ)) → NoneOf begins []
none_of_nothing [] = tt
none_of_nothing (begin ∷ begins) = (none_begins begin, none_of_nothing begins)

none_of_both : (ps qs : List (List ℕ)) (bytes : List ℕ) → NoneOf (ps ++ qs) bytes
    → NoneOf ps bytes × NoneOf qs bytes
none_of_both [] qs bytes n = grind arith
none_of_both (p ∷ ps) qs bytes n = grind (arith, none_of_both ps qs bytes n.1)

-- the bytes may stand instead of the rest: they begin with the same line, or in no way that
-- would go on with what stands before
abbrev pub MayFollow : List (List ℕ) → List ℕ → List ℕ → Type 0
MayFollow ends rest other = HasSameLine rest other ⊎ NoneOf ends other

-- so may all bytes behind the same lines
follow_same : (ends : List (List ℕ)) (front rest bytes other lines : List ℕ)
    → front ≡ lines ++ 10 ∷ [] → bytes ≡ front ++ rest → MayFollow ends bytes (front ++ other)
follow_same ends front rest bytes other lines is e = inl (inr (record {
  lines = lines;
  rest = rest;
  other_rest = other;
  first = rw is at e ∙ append_assoc lines (10 ∷ []) rest;
  second = rw is (append_assoc lines (10 ∷ []) other);
}))

follow_through : (ends : List (List ℕ)) (front rest other bytes : List ℕ) → AreLines front
    → bytes ≡ front ++ rest → MayFollow ends rest other → MayFollow ends bytes (front ++ other)
follow_through ends front rest other bytes (inl none) e follows =
    let same : bytes ≡ rest = rw none at e in rw (none, same) follows
follow_through ends front rest other bytes (inr (lines, is)) e follows =
    follow_same ends front rest bytes other lines is e

-- lines stand before the rest, and would stand so before other bytes that may follow
pub record IsPart (ends : List (List ℕ)) (Has : List ℕ → List ℕ → Type 0)
    (rest bytes : List ℕ) : Type 0 where
  pub front : List ℕ
  pub lines : AreLines front
  pub all : bytes ≡ front ++ rest
  pub moved : (other : List ℕ) → MayFollow ends rest other → Has other (front ++ other)

-- What is true of each form: one rest follows it, it is read before other bytes too, there is an
-- example, and where it fails nothing goes on.
pub record Lawful {A : Type 0} (ends : List (List ℕ)) (example : List ℕ)
    (F : Form A) : Type 0 where
  pub rest : (x y : A) (r s bytes : List ℕ) → F.Has x r bytes → F.Has y s bytes → r ≡ s
  pub moves : (x : A) (r bytes : List ℕ) → F.Has x r bytes → IsPart ends (F.Has x) r bytes
  pub some : Whole F.Has example
  pub stops : (left bytes : List ℕ) → F.Fails left bytes → StopsAt F.Has left bytes

-- what fails where it begins
pub stops_at_once : {A : Type 0} (Has : A → List ℕ → List ℕ → Type 0) (example left bytes : List ℕ)
    → Whole Has example
    → ((x : A) (rest one other : List ℕ) → HasSameLine one other → Has x rest one
    → Begins Has other)
    → (at_once Has).Fails left bytes → StopsAt Has left bytes
stops_at_once Has example left bytes some like bad = record {
  read = [];
  lines = inl refl;
  all = sym bad.0;
  more = example;
  begun = some;
  stops = λ other same good.
      let back = same_back bytes other (rw bad.0 at same) in
      let here = like good.0 good.1 other bytes back good.2 in
      bad.1 here.0 here.1 here.2;
}

-- a line stands so before all bytes
pub line_part : {A : Type 0} {ends : List (List ℕ)} (begin : List ℕ) (IsLegal : A → Type 0)
    (text : A → List ℕ) (x : A) (rest bytes : List ℕ) → HasLine begin IsLegal text x rest bytes
    → IsPart ends (HasLine begin IsLegal text x) rest bytes
line_part begin IsLegal text x rest bytes h = record {
  front = (begin ++ text x) ++ 10 ∷ [];
  lines = inr (begin ++ text x, refl);
  all = h.line.spelled ∙ sym (append_assoc (begin ++ text x) (10 ∷ []) rest);
  moved = λ other follows. record {
    line = record {
      spelled = append_assoc (begin ++ text x) (10 ∷ []) other;
      plain = h.line.plain;
    };
    legal = h.legal;
  };
}

-- one line
pub line_lawful : {A : Type 0} (begin : List ℕ) (IsLegal : A → Type 0) (text : A → List ℕ) (x : A)
    → IsLegal x → IsPlain (begin ++ text x)
    → Lawful [] ((begin ++ text x) ++ 10 ∷ []) (line begin IsLegal text)
line_lawful begin IsLegal text x legal plain = record {
  rest = λ x y r s bytes h k. (line_one _ _ r s bytes h.line k.line).1;
  moves = λ x rest bytes h. line_part begin IsLegal text x rest bytes h;
  some = some;
  stops = λ left bytes bad.
      stops_at_once (HasLine begin IsLegal text) ((begin ++ text x) ++ 10 ∷ []) left bytes some
      (λ y rest one other same h.
      let l = line_like one other (begin ++ text y) rest same h.line in
      (y, l.0, record { line = l.1; legal = h.legal }))
      bad;
}
  where
    some : Whole (HasLine begin IsLegal text) ((begin ++ text x) ++ 10 ∷ [])
    some = (x, record { line = record { spelled = refl; plain = plain }; legal = legal })

-- what is whole and what is good in other words
pub stops_as : (IsWhole IsGood WholeToo GoodToo : List ℕ → Type 0) (left bytes : List ℕ)
    → ((b : List ℕ) → IsWhole b → WholeToo b) → ((b : List ℕ) → GoodToo b → IsGood b)
    → Stops IsWhole IsGood left bytes → Stops WholeToo GoodToo left bytes
stops_as IsWhole IsGood WholeToo GoodToo left bytes whole good s = grind arith

pub made_lawful : {A B : Type 0} {ends : List (List ℕ)} {example : List ℕ} {F : Form A}
    (make : A → B) → Lawful ends example F → Lawful ends example (made F make)
made_lawful {F} make f = record {
  rest = λ x y r s bytes h k. f.rest h.0 k.0 r s bytes h.2 k.2;
  moves = λ y r bytes h.
      let m = f.moves h.0 r bytes h.2 in
      record {
        front = m.front;
        lines = m.lines;
        all = m.all;
        moved = λ other follows. (h.0, h.1, m.moved other follows);
      };
  some = (make f.some.0, (f.some.0, refl, f.some.1));
  stops = λ left bytes bad.
      stops_as _ _ _ _ left bytes (λ b w. (make w.0, (w.0, refl, w.1)))
      (λ b g. (g.2.0, g.1, g.2.2)) (f.stops left bytes bad);
}

-- one, and then another: what may end the first does not begin the example of the other
pub then_lawful : {A K B : Type 0} {ps qs : List (List ℕ)} {first : List ℕ} {next : K → List ℕ}
    {F : Form A} {key : A → K} {G : K → Form B} (j : K) → Lawful ps first F
    → ((i : K) → Lawful qs (next i) (G i))
    → ((x y : A) (r s bytes : List ℕ) → F.Has x r bytes → F.Has y s bytes → key x ≡ key y)
    → ((x : A) → F.Has x [] first → key x ≡ j) → ((i : K) → NoneOf ps (next i))
    → Lawful (ps ++ qs) (first ++ next j) (then F key G)
then_lawful {A} {K} {B} {ps} {qs} {first} {next} {F} {key} {G} j f g tells known apart = record {
  rest = λ p q r s bytes h k.
      (g (key q.0)).rest p.1 q.1 r s k.0 (again p.0 q.0 p.1 r h.0 k.0 bytes h.1 k.1 h.2) k.2;
  moves = λ p r bytes h.
      let m = f.moves p.0 h.0 bytes h.1 in
      let n = (g (key p.0)).moves p.1 r h.0 h.2 in
      record {
        front = m.front ++ n.front;
        lines = lines_then m.front n.front m.lines n.lines;
        all = m.all ∙ ap (λ b. m.front ++ b) n.all ∙ sym (append_assoc m.front n.front r);
        moved = λ other follows.
            let each = both r other follows in
            rw (append_assoc m.front n.front other) (
              n.front ++ other,
              m.moved (n.front ++ other)
                  (follow_through ps n.front r other h.0 n.lines n.all each.0),
              n.moved other each.1,
            );
      };
  some = subst (λ (i : K). Whole (then F key G).Has (first ++ next i)) (known f.some.0 f.some.1)
      (followed f.some.0 first f.some.1);
  stops = λ left bytes bad. elim bad [
    | inl h ↦ stops_first left bytes h
    | inr h ↦ stops_second h.0 h.1 left bytes h.2 h.3
  ];
}
  where
    both : (r other : List ℕ) → MayFollow (ps ++ qs) r other
        → MayFollow ps r other × MayFollow qs r other
    both r other (inl same) = (inl same, inl same)
    both r other (inr none) =
        let each = none_of_both ps qs other none in (inr each.0, inr each.1)

    -- the second in other words, where the first is the same
    again : (x y : A) (b : B) (r mid at whole : List ℕ) → F.Has x mid whole → F.Has y at whole
        → (G (key x)).Has b r mid → (G (key y)).Has b r at
    again x y b r mid at whole h k has =
        rw (f.rest x y mid at whole h k, tells x y mid at whole h k) at has

    followed : (x : A) (b : List ℕ) → F.Has x [] b → Whole (then F key G).Has (b ++ next (key x))
    followed x b h =
        let m = f.moves x [] b h in
        let end : List ℕ = next (key x) in
        let some = (g (key x)).some in
        let is : b ≡ m.front = m.all ∙ append-nil m.front in
        ((x, some.0), (end, rw is (m.moved end (inr (apart (key x)))), some.1))

    stops_first : (left bytes : List ℕ) → F.Fails left bytes
        → StopsAt (then F key G).Has left bytes
    stops_first left bytes bad =
        let s = f.stops left bytes bad in
        let end : List ℕ = next (key s.begun.0) in
        record {
          read = s.read;
          lines = s.lines;
          all = s.all;
          more = s.more ++ end;
          begun = rw (← append_assoc s.read s.more end)
              (followed s.begun.0 (s.read ++ s.more) s.begun.1);
          stops = λ other same good. s.stops other same (good.0.0, good.2.0, good.2.1);
        }

    -- more that goes on with the lines that were read, and may follow the first
    goes : (i : K) (read left mid more : List ℕ) → AreLines read → mid ≡ read ++ left
        → Whole (G i).Has (read ++ more)
        → (m : List ℕ) × Whole (G i).Has (read ++ m) × MayFollow ps mid (read ++ m)
    goes i read left mid more (inl none) e w =
        (next i, rw none (g i).some, rw none (inr (apart i)))
    goes i read left mid more (inr (lines, is)) e w =
        (more, w, follow_same ps read left mid more lines is e)

    stops_second : (x : A) (mid left bytes : List ℕ) → F.Has x mid bytes
        → (G (key x)).Fails left mid → StopsAt (then F key G).Has left bytes
    stops_second x mid left bytes h bad =
        let s = (g (key x)).stops left mid bad in
        let m = f.moves x mid bytes h in
        let e = goes (key x) s.read left mid s.more s.lines s.all s.begun in
        record {
          read = m.front ++ s.read;
          lines = lines_then m.front s.read m.lines s.lines;
          all = m.all ∙ ap (λ b. m.front ++ b) s.all ∙ sym (append_assoc m.front s.read left);
          more = e.0;
          begun = rw (append_assoc m.front s.read e.0)
              ((x, e.1.0), (s.read ++ e.0, m.moved (s.read ++ e.0) e.2, e.1.1));
          stops = λ other same good.
              let whole = rw (append_assoc m.front s.read other) at good in
              let has = m.moved (s.read ++ other)
              (follow_through ps s.read left other mid s.lines s.all (inl same)) in
              s.stops other same (
                whole.0.1,
                whole.1,
                again whole.0.0 x whole.0.1 whole.1 whole.2.0 (s.read ++ other)
                    (m.front ++ (s.read ++ other)) whole.2.1 has whole.2.2,
              );
        }

pub sequence_lawful : {A B : Type 0} {ps qs : List (List ℕ)} {first next : List ℕ} {F : Form A}
    {G : Form B} → Lawful ps first F → Lawful qs next G → NoneOf ps next
    → Lawful (ps ++ qs) (first ++ next) (sequence F G)
sequence_lawful f g apart =
    then_lawful {K = Unit {0}} tt f (λ i. g) (λ x y r s bytes h k. refl) (λ x h. refl) (λ i. apart)

-- one more line
pub more_lines : {A : Type 0} (begin : List ℕ) (Spells : A → List ℕ → Type 0) (xs : List A) (x : A)
    (text at next bytes : List ℕ) → UpTo begin Spells xs at bytes → IsLine (begin ++ text) next at
    → Spells x text → UpTo begin Spells (xs ++ x ∷ []) next bytes
more_lines begin Spells [] x text at next bytes e l spelled = (next, text, rw e l, spelled, refl)
more_lines begin Spells (y ∷ xs) x text at next bytes u l spelled =
    (u.0, u.1, u.2, u.3, more_lines begin Spells xs x text at next u.0 u.4 l spelled)

-- the lines up to an offset, as they would stand before other bytes too
pub up_part : {A : Type 0} (begin : List ℕ) (Spells : A → List ℕ → Type 0) (xs : List A)
    (at bytes : List ℕ) → UpTo begin Spells xs at bytes
    → IsPart [] (UpTo begin Spells xs) at bytes
up_part begin Spells [] at bytes e =
    record { front = []; lines = inl refl; all = e; moved = λ other follows. refl }
up_part begin Spells (x ∷ xs) at bytes u =
    let more = up_part begin Spells xs at u.0 u.4 in
    let spelled = append_assoc (begin ++ u.1) (10 ∷ more.front) in
    record {
      front = (begin ++ u.1) ++ 10 ∷ more.front;
      lines = lines_after (begin ++ u.1) more.front more.lines;
      all = cc (u.2.spelled, more.all, spelled at);
      moved = λ other follows. (
        more.front ++ other,
        u.1,
        record { spelled = spelled other; plain = u.2.plain },
        u.3,
        more.moved other follows,
      );
    }

pub line_within : (text rest bytes : List ℕ) → IsLine text rest bytes → length rest < length bytes
line_within text rest bytes l = grind (arith, length-append, l.spelled)

up_within : {A : Type 0} (begin : List ℕ) (Spells : A → List ℕ → Type 0) (xs : List A)
    (at bytes : List ℕ) → UpTo begin Spells xs at bytes → length at ≤ length bytes
up_within begin Spells xs at bytes u =
    let part = up_part begin Spells xs at bytes u in
    omega (arith, ap length part.all, length-append part.front at)

-- what follows the first lines of more lines
pub more_follow : {A K : Type 0} (begin : List ℕ) (Spells : A → List ℕ → Type 0) (key : A → K)
    → ((x y : A) (t : List ℕ) → Spells x t → Spells y t → key x ≡ key y) → (xs ys : List A)
    (at rest bytes : List ℕ) → UpTo begin Spells xs at bytes → UpTo begin Spells ys rest bytes
    → length rest ≤ length at
    → (more : List A) × UpTo begin Spells more rest at × (map key ys ≡ map key (xs ++ more))
more_follow begin Spells key same [] ys at rest bytes u v far = (ys, rw u at v, refl)
more_follow begin Spells key same (x ∷ xs) [] at rest bytes u v far = absurd (omega (
  arith,
  ap length v,
  line_within (begin ++ u.1) u.0 bytes u.2,
  up_within begin Spells xs at u.0 u.4,
))
more_follow begin Spells key same (x ∷ xs) (y ∷ ys) at rest bytes u v far =
    let texts = same_text begin v.1 v.0 bytes v.2 u.1 u.0 u.2 in
    let mids = (line_one _ _ v.0 u.0 bytes v.2 u.2).1 in
    let keys = same y x u.1 (rw texts at v.3) u.3 in
    let more = more_follow begin Spells key same xs ys at rest u.0 u.4 (rw mids at v.4) far in
    (more.0, more.1, rw (keys, more.2) refl)

-- none follow where no line of the kind does
pub none_follow : {A : Type 0} (begin : List ℕ) (Spells : A → List ℕ → Type 0) (more : List A)
    (rest at : List ℕ) → UpTo begin Spells more rest at → HasNoLine begin at → at ≡ rest
none_follow begin Spells [] rest at u none = u
none_follow begin Spells (x ∷ xs) rest at u none = absurd (none u.1 u.0 u.2)

-- the key of lines that are only counted
abbrev pub no_key : {A : Type 0} → A → Unit {0}
no_key x = tt

-- the second list goes on after the first with one that the text gives
pub record GoesOn {A K : Type 0} (Spells : A → List ℕ → Type 0) (key : A → K) (xs ys : List A)
    (text : List ℕ) : Type 0 where
  pub one : A
  pub more : List A
  pub spelled : Spells one text
  pub keys : map key ys ≡ map key (xs ++ one ∷ more)

-- where a line follows, all lines of its kind go on with it
goes_on : {A K : Type 0} (begin : List ℕ) (Spells : A → List ℕ → Type 0) (key : A → K)
    → ((x y : A) (t : List ℕ) → Spells x t → Spells y t → key x ≡ key y) → (xs ys : List A)
    (at rest bytes text tail : List ℕ) → UpTo begin Spells xs at bytes
    → IsLine (begin ++ text) tail at → UpTo begin Spells ys rest bytes → HasNoLine begin rest
    → GoesOn Spells key xs ys text
goes_on {A} {K} begin Spells key same xs ys at rest bytes text tail u l v none =
    elim (cases_lt (length at) (length rest)) [
      | inl far ↦
          let back = more_follow begin Spells key same ys xs rest at bytes v u (omega arith) in
          let end = none_follow begin Spells back.0 at rest back.1 none in
          absurd (none text tail (rw (← end) at l))
      | inr near ↦ here (more_follow begin Spells key same xs ys at rest bytes u v near)
    ]
  where
    here : (more : List A) × UpTo begin Spells more rest at × (map key ys ≡ map key (xs ++ more))
        → GoesOn Spells key xs ys text
    here ([], e, keys) = absurd (none text tail (rw e at l))
    here (x ∷ more, w, keys) = record {
      one = x;
      more = more;
      spelled = rw (same_text begin w.1 w.0 at w.2 text tail l) at w.3;
      keys = keys;
    }

-- all lines of a kind, of which a value is made
pub many_lawful : {A B : Type 0} (begin : List ℕ) (Spells : A → List ℕ → Type 0)
    (Make : List A → B → Type 0) (x : B) → Make [] x
    → Lawful (begin ∷ []) [] (line_by_line (HasMany begin Spells Make))
many_lawful {A} {B} begin Spells Make x none = record {
  rest = λ x y r s bytes h k.
      elim (cases_lt (length r) (length s)) [
        | inl far ↦ sym (end x y r s bytes h k (omega arith))
        | inr near ↦ end y x s r bytes k h near
      ];
  moves = λ y rest bytes h.
      let part = up_part begin Spells h.read.each rest bytes h.read.lines in
      record {
        front = part.front;
        lines = part.lines;
        all = part.all;
        moved = λ other follows. record {
          read = record {
            each = h.read.each;
            lines = part.moved other (inr tt);
            make = h.read.make;
          };
          ends = elim follows [
            | inl same ↦ none_like rest other begin same h.ends
            | inr none ↦ none.0
          ];
        };
      };
  some = (
    x,
    record {
      read = record { each = []; lines = refl; make = none };
      ends = none_begins begin;
    },
  );
  stops = λ left bytes s. s;
}
  where
    end : (x y : B) (r s bytes : List ℕ) → HasMany begin Spells Make x r bytes
        → HasMany begin Spells Make y s bytes → length r ≤ length s → s ≡ r
    end x y r s bytes h k far =
        let more = more_follow begin Spells no_key (λ x y t p q. refl) k.read.each h.read.each s r
        bytes k.read.lines h.read.lines far in
        none_follow begin Spells more.0 r s more.1 k.ends

-- one more was read
abbrev pub one_read : {A B : Type 0} (begin : List ℕ) (Spells : A → List ℕ → Type 0)
    (Make : List A → B → Type 0) (x y : B) (at next bytes text : List ℕ) (a : A)
    (r : ReadMany begin Spells Make x at bytes) → IsLine (begin ++ text) next at → Spells a text
    → Make (r.each ++ a ∷ []) y → ReadMany begin Spells Make y next bytes
one_read begin Spells Make x y at next bytes text a r l spelled make = record {
  each = r.each ++ a ∷ [];
  lines = more_lines begin Spells r.each a text at next bytes r.lines l spelled;
  make = make;
}

-- where no value is made of lines that go on with the next one, they stop
pub many_stops : {A B K : Type 0} (begin : List ℕ) (Spells : A → List ℕ → Type 0)
    (Make : List A → B → Type 0) (key : A → K)
    → ((x y : A) (t : List ℕ) → Spells x t → Spells y t → key x ≡ key y)
    → (x : B) (at bytes text tail : List ℕ) (r : ReadMany begin Spells Make x at bytes)
    → IsLine (begin ++ text) tail at
    → ((ys : List A) (y : B) → Make ys y → GoesOn Spells key r.each ys text → ⊥)
    → StopsAt (HasMany begin Spells Make) at bytes
many_stops begin Spells Make key same x at bytes text tail r l bad =
    let part = up_part begin Spells r.each at bytes r.lines in
    record {
      read = part.front;
      lines = part.lines;
      all = part.all;
      more = [];
      begun = (
        x,
        record {
          read = record { each = r.each; lines = part.moved [] (inr tt); make = r.make };
          ends = none_begins begin;
        },
      );
      stops = λ other like good.
          let next = line_like at other (begin ++ text) tail like l in
          let many = good.2.read in
          bad many.each good.0 many.make
          (goes_on begin Spells key same r.each many.each other good.1 (part.front ++ other) text
          next.0 (part.moved other (inr tt)) next.1 many.lines good.2.ends);
    }

-- lines of which at most so many make a value stop where the next one is one too many, or gives
-- nothing
pub stops_at_most : {A B : Type 0} (begin : List ℕ) (Spells : A → List ℕ → Type 0)
    (Make : List A → B → Type 0) (most : ℕ) → ((xs : List A) (x : B) → Make xs x → length xs ≤ most)
    → (x : B) (at bytes text tail : List ℕ) (r : ReadMany begin Spells Make x at bytes)
    → IsLine (begin ++ text) tail at → (most ≤ length r.each) ⊎ ((a : A) → ¬ Spells a text)
    → StopsAt (HasMany begin Spells Make) at bytes
stops_at_most begin Spells Make most few x at bytes text tail r l bad =
    many_stops begin Spells Make no_key (λ x y t p q. refl) x at bytes text tail r l
    (λ ys y made next. elim bad [
      | inl full ↦ grind (arith, length-map, length-append, next.keys, few ys y made)
      | inr none ↦ none next.one next.spelled
    ])
