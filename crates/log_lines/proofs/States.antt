-- What is given of a service is read in one way.
use Rattle.std.proofs.Common.{◌≡◌, ◌≢◌, ℕ, ◌<◌, ◌^◌, Bool, true, false, List, [], ◌∷◌, ◌++◌, codes, decimal, get_or, length, refl, sym, ◌∙◌, ap, subst, arith}
use Rattle.std.specs.Prelude.{IfNone, Option, Some, None}
use Rattle.std.proofs.lemmas.Fmt.{decimal_injective, decimal_nonempty}
use Rattle.std.proofs.lemmas.List.{append-nil, append_cancel_left}
use Rattle.iox2_container.specs.declared.container.handle.Role.{Role}
use Rattle.iox2_container.specs.declared.container.handle.Role.TheVariants as role
use Rattle.line_streams.specs.Numerals.{cons_same, same_number}
use Rattle.line_streams.proofs.Fronts.{decimal_first}
use Rattle.line_streams.specs.Spelling.{EndsNumber, IsDigit}
use Rattle.service_descriptions.specs.declared.replay.machine.command.Command.{Command}
use Rattle.service_descriptions.specs.declared.replay.machine.command.Command.TheVariants as command
use Rattle.service_descriptions.specs.Lines.{HasLine, SameCommand, line_of, role_word}
use Rattle.service_descriptions.specs.Phrases.{role_one}
use Rattle.service_descriptions.proofs.Scripts.{one_command}
use Rattle.log_lines.specs.States.{AddsEntry, HasEntry, HasNodes, HasPorts, HasState, State, entry_text, locked_word, nodes_text, ports_text, state_text}
use Rattle.log_lines.specs.States.State.{nodes, ports, entry}

word_ends : (locked : Bool) → EndsNumber (locked_word locked)
word_ends true digit = omega arith
word_ends false digit = omega arith

word_one : (l m : Bool) → locked_word l ≡ locked_word m → l ≡ m
word_one true true e = refl
word_one true false e = absurd (cc)
word_one false true e = absurd (cc)
word_one false false e = refl

-- a number and a number, each before a space
pub numbers_same : (a b c d : ℕ) (x y : List ℕ) → a < 2 ^ 64 → b < 2 ^ 64 → c < 2 ^ 64 → d < 2 ^ 64
    → EndsNumber x → EndsNumber y
    → decimal a ++ (codes " " ++ (decimal b ++ x)) ≡ decimal c ++ (codes " " ++ (decimal d ++ y))
    → (a ≡ c) × (b ≡ d) × (x ≡ y)
numbers_same a b c d x y p q r s u v e =
    let first =
    same_number a c (codes " " ++ (decimal b ++ x)) (codes " " ++ (decimal d ++ y)) p r
    (λ digit. omega arith) (λ digit. omega arith) e in
    let second = same_number b d x y q s u v (cons_same first.1).1 in
    (first.0, second.0, second.1)

space_ends : (x : List ℕ) → EndsNumber (codes " " ++ x)
space_ends x digit = omega arith

-- a command that adds an entry is known by its line
pub same_added : (c d : Command) → AddsEntry c → SameCommand c d → c ≡ d
same_added (command.Register id) d p same = same
same_added (command.Add details) d p same = same
same_added _ d p same = absurd p

front_of : (xs ys : List ℕ) → 0 < length xs → get_or (xs ++ ys) 0 0 ≡ get_or xs 0 0
front_of [] ys some = absurd (omega arith)
front_of (x ∷ xs) ys some = refl

-- an entry begins with a digit
digit_first : (n : ℕ) (rest : List ℕ) → n < 2 ^ 64 → IsDigit (get_or (decimal n ++ rest) 0 0)
digit_first n rest h =
    subst IsDigit (sym (front_of (decimal n) rest (decimal_nonempty n h))) (decimal_first n h)

no_digit : (x text : List ℕ) → ¬ (IsDigit (get_or x 0 0)) → IsDigit (get_or text 0 0) → x ≢ text
no_digit x text none is e = none (subst (λ (l : List ℕ). IsDigit (get_or l 0 0)) (sym e) is)

role_no_digit : (r : Role) (rest : List ℕ) → r ≢ role.Node
    → ¬ (IsDigit (get_or (role_word r ++ rest) 0 0))
role_no_digit role.Node rest p digit = p refl
role_no_digit _ rest p digit = omega arith

nodes_no_role : (r : Role) (x y : List ℕ) → r ≢ role.Node → codes "nodes " ++ y ≢ role_word r ++ x
nodes_no_role role.Node x y p e = p refl
nodes_no_role _ x y p e =
    absurd (omega (arith, ap (λ (l : List ℕ). get_or l 0 0) e, ap (λ (l : List ℕ). get_or l 2 0) e))

pub same_state : (s t : State) → HasState s → HasState t → state_text s ≡ state_text t → s ≡ t
same_state (nodes a l) (nodes b m) p q e =
    let same =
    same_number a b (locked_word l) (locked_word m) p q (word_ends l) (word_ends m)
    (append_cancel_left (codes "nodes ") (decimal a ++ locked_word l) (decimal b ++ locked_word
    m) e)
    in
    ap (λ n. nodes n l) same.0 ∙ ap (nodes b) (word_one l m same.1)
same_state (ports r a) (ports s b) p q e =
    let same = role_one.same (r, codes " " ++ decimal a) (s, codes " " ++ decimal b) p.0 q.0 e in
    ap (λ (x : Role). ports x a) same.0
    ∙ ap (ports s) (decimal_injective a b p.1 q.1 (cons_same same.1).1)
same_state (entry a t c) (entry b u d) p q e =
    let same =
    numbers_same a t b u (codes " " ++ line_of c) (codes " " ++ line_of d) p.0.0 p.0.1 q.0.0 q.0.1
    (space_ends (line_of c)) (space_ends (line_of d)) e in
    let is =
    same_added c d p.2 (one_command c d p.1 q.1 (cons_same same.2).1) in
    ap (λ n. entry n t c) same.0 ∙ (ap (λ n. entry b n c) same.1 ∙ ap (entry b u) is)
same_state (nodes a l) (ports r b) p q e =
    absurd (nodes_no_role r (codes " " ++ decimal b) (decimal a ++ locked_word l) q.0 e)
same_state (ports r b) (nodes a l) p q e =
    absurd (nodes_no_role r (codes " " ++ decimal b) (decimal a ++ locked_word l) p.0 (sym e))
same_state (nodes a l) (entry b u d) p q e =
    absurd (no_digit (nodes_text (a, l)) (entry_text b u d) (λ digit. omega arith)
    (digit_first b (codes " " ++ (decimal u ++ (codes " " ++ line_of d))) q.0.0) e)
same_state (entry b u d) (nodes a l) p q e =
    absurd (no_digit (nodes_text (a, l)) (entry_text b u d) (λ digit. omega arith)
    (digit_first b (codes " " ++ (decimal u ++ (codes " " ++ line_of d))) p.0.0) (sym e))
same_state (ports r a) (entry b u d) p q e =
    absurd (no_digit (ports_text (r, a)) (entry_text b u d)
    (role_no_digit r (codes " " ++ decimal a) p.0)
    (digit_first b (codes " " ++ (decimal u ++ (codes " " ++ line_of d))) q.0.0) e)
same_state (entry b u d) (ports r a) p q e =
    absurd (no_digit (ports_text (r, a)) (entry_text b u d)
    (role_no_digit r (codes " " ++ decimal a) q.0)
    (digit_first b (codes " " ++ (decimal u ++ (codes " " ++ line_of d))) p.0.0) (sym e))

-- no used tickets of nodes
pub no_nodes : (text rest : List ℕ) → text ≡ codes "nodes " ++ rest
    → ((used : ℕ) → used < 2 ^ 64 → rest ≢ decimal used ++ [])
    → ((used : ℕ) → used < 2 ^ 64 → rest ≢ decimal used ++ codes " locked")
    → (given : ℕ × Bool) → HasNodes given → text ≢ nodes_text given
no_nodes text rest is free locked (used, false) p e =
    free used p (append_cancel_left (codes "nodes ") rest (decimal used ++ []) (sym is ∙ e))
no_nodes text rest is free locked (used, true) p e =
    locked used p
    (append_cancel_left (codes "nodes ") rest (decimal used ++ codes " locked") (sym is ∙ e))

-- no entry, where something else stands behind the slot and the ticket
pub no_entry : (text rest : List ℕ) (slot ticket : ℕ) → slot < 2 ^ 64 → ticket < 2 ^ 64
    → EndsNumber rest → text ≡ decimal slot ++ (codes " " ++ (decimal ticket ++ rest))
    → ((c : Command) → HasLine c → AddsEntry c → rest ≢ codes " " ++ line_of c)
    → (s t : ℕ) (c : Command) → HasEntry s t c → text ≢ entry_text s t c
no_entry text rest slot ticket p q ends is none s t c h e =
    none c h.1 h.2
    (numbers_same slot ticket s t rest (codes " " ++ line_of c) p q h.0.0 h.0.1 ends
    (space_ends (line_of c)) (sym is ∙ e)).2

-- no command that adds an entry has the line of another
pub no_added : (rest : List ℕ) (d : Command) → HasLine d → rest ≡ line_of d
    → (¬ (AddsEntry d)) → (c : Command) → HasLine c → AddsEntry c → rest ≢ line_of c
no_added rest d p is none c q adds e =
    none (subst AddsEntry (same_added c d adds (one_command c d q p (sym e ∙ is))) adds)

-- nothing that may be given
pub no_state : (text : List ℕ) → ((a : ℕ × Bool) → HasNodes a → text ≢ nodes_text a)
    → ((a : Role × ℕ) → HasPorts a → text ≢ ports_text a)
    → ((slot ticket : ℕ) (c : Command) → HasEntry slot ticket c → text ≢ entry_text slot ticket c)
    → (s : State) → HasState s → text ≢ state_text s
no_state text a b c (nodes used locked) p e = a (used, locked) p e
no_state text a b c (ports r used) p e = b (r, used) p e
no_state text a b c (entry slot ticket d) p e = c slot ticket d p e

-- the entry that was read
pub entry_read : (text rest after tail : List ℕ) (slot ticket : ℕ) (d : Command) (s : State)
    → slot < 2 ^ 64 → ticket < 2 ^ 64
    → text ≡ decimal slot ++ (codes " " ++ (decimal ticket ++ rest)) → rest ≡ codes " " ++ after
    → after ≡ line_of d ++ tail → tail ≡ [] → HasLine d
    → AddsEntry d × (s ≡ entry slot ticket d) → HasState s × (text ≡ state_text s)
entry_read text rest after tail slot ticket d s p q is space line end h adds =
    let same : after ≡ line_of d =
    line ∙ (ap (λ (l : List ℕ). line_of d ++ l) end ∙ append-nil (line_of d)) in
    subst (λ (t : State). HasState t × (text ≡ state_text t)) (sym adds.1) (
      ((p, q), h, adds.0),
      is ∙ ap (λ (l : List ℕ). decimal slot ++ (codes " " ++ (decimal ticket ++ l)))
          (space ∙ ap (λ (l : List ℕ). codes " " ++ l) same),
    )

pub none_by : {X : Type 0} (P Q : Type 0) (found : Option X) → IfNone found P → (P → Q)
    → IfNone found Q
none_by P Q (Some v) h f = h
none_by P Q None h f = f h
