-- What is passed over is what the grammar reads.
use Rattle.std.proofs.Common.{◌≡◌, ℕ, zero, suc, ◌-◌, ◌<◌, true, false, ◌==◌, Bool, if◌then◌else◌, length, drop, List, Option, Some, None, option_map, option_and_then, refl, sym, ap, ◌∙◌, arith}
use Rattle.std.specs.Borrow.{Bor}
use Rattle.std.proofs.lemmas.Option.{none-some, same_Some, option_and_then_some}
use Rattle.toml_parser.specs.Lexical.{Read, first, skip_blank}
use Rattle.toml_parser.specs.Strings.{recursion_limit}
use Rattle.toml.specs.Data.{Data, Items, array, table, no_items, push_item}
use Rattle.toml.specs.Tables.{Nodes, no_nodes, put, Expression, key_value}
use Rattle.toml.specs.Parse.{read_map, after_element, key_equals, keyval, items, members, val, expression}
use Rattle.toml.proofs.Turns.{val_atom, val_deep}
use Rattle.toml_positions.specs.Reading.{past_atom, closing_of, past_element, past_elements, past_value, seen_view, seen_in}

-- what a mapped value was made of
mapped : {A B P : Type 0} (f : A → B) (o : Option A) (x : B) → option_map f o ≡ Some x
    → ((a : A) → o ≡ Some a → f a ≡ x → P) → P
mapped f None x e k = absurd (none-some x e)
mapped f (Some a) x e k = k a refl (same_Some _ _ e)

-- what is read is passed over
abbrev Passes : {A : Type 0} → Read A → Option (List ℕ) → Type 0
Passes read past = (x : _) → read ≡ Some x → past ≡ Some x.1

either : {A : Type 0} (b : Bool) (r s : Read A) (p q : Option (List ℕ)) → Passes r p → Passes s q
    → Passes (if b then r else s) (if b then p else q)
either true r s p q one other = one
either false r s p q one other = other

items_pass : (val : List ℕ → Read Data) (past : List ℕ → Option (List ℕ))
    → ((text : List ℕ) → Passes (val text) (past text)) → (n : ℕ) (found : Items) (text : List ℕ)
    → Passes (items val n found text) (past_elements past 93 n text)
unfolding items past_elements
items_pass val past passes zero found text = λ x is. absurd (none-some x is)
items_pass val past passes (suc n) found text =
    let start = skip_blank text in
    either (first start == 93) _ _ _ _ (λ x is. ap (λ o. option_map (λ p. p.1) o) is) (λ x is.
    option_and_then_some
    (λ v. option_and_then (items val n (push_item found v.0)) (after_element 93 v.1))
    (val start) x is (λ v value more.
    option_and_then_some (items val n (push_item found v.0)) (after_element 93 v.1) x more
    (λ next element rest.
    rw (passes start v value, element)
    (items_pass val past passes n (push_item found v.0) next x rest))))

members_pass : (val : List ℕ → Read Data) (past : List ℕ → Option (List ℕ))
    → ((text : List ℕ) → Passes (val text) (past text)) → (n : ℕ) (found : Nodes) (text : List ℕ)
    → Passes (members val n found text) (past_elements past 125 n text)
unfolding members past_elements
members_pass val past passes zero found text = λ x is. absurd (none-some x is)
members_pass val past passes (suc n) found text =
    let start = skip_blank text in
    either (first start == 125) _ _ _ _ (λ x is. ap (λ o. option_map (λ p. p.1) o) is) (λ x is.
    option_and_then_some
    (λ e. option_and_then (λ ns. option_and_then (members val n ns) (after_element 125 e.1))
    (put e.0.0 e.0.1 found))
    (keyval val start) x is (λ e pair more.
    option_and_then_some (λ k. read_map (λ d. (k.0, d)) (val k.1)) (key_equals start) e pair
    (λ k keyed held.
    mapped (λ p. ((k.0, p.0), p.1)) (val k.1) e held (λ p value same.
    option_and_then_some (λ ns. option_and_then (members val n ns) (after_element 125 e.1))
    (put e.0.0 e.0.1 found) x more (λ ns made below.
    option_and_then_some (members val n ns) (after_element 125 e.1) x below
    (λ next element rest.
    let after : p.1 ≡ e.1 = ap (λ q. q.1) same in
    rw (keyed, passes k.1 p value, after, element)
    (members_pass val past passes n ns next x rest))))))
    )

-- a value that is read is passed over
value_passes_by : (depth : ℕ) (text : List ℕ) (a b : Bool)
    → ((text : List ℕ) → Passes (val depth text) (past_value depth text))
    → (first text == 91) ≡ a → (first text == 123) ≡ b
    → Passes (val (suc depth) text) (past_value (suc depth) text)
unfolding val past_value
value_passes_by depth text true b passes is_a is_b x is =
    mapped (λ p. (array p.0, p.1)) (items (val depth) (length text) no_items (drop 1 text)) x
    (rw is_a at is) (λ got found same.
    rw (is_a, past_value) (items_pass _ _ passes _ _ _ got found ∙ ap (λ q. Some q.1) same))
value_passes_by depth text false true passes is_a is_b x is =
    mapped (λ p. (table p.0, p.1)) (members (val depth) (length text) no_nodes (drop 1 text)) x
    (rw (is_a, is_b) at is) (λ got found same.
    rw (is_a, is_b, past_value) (members_pass _ _ passes _ _ _ got found ∙ ap (λ q. Some q.1) same))
value_passes_by depth text false false passes is_a is_b x is =
    rw (is_a, is_b, past_value) (ap (λ o. option_map (λ p. p.1) o) (rw (is_a, is_b) at is))

atom_passes_by : (text : List ℕ) (a b : Bool) → (first text == 91) ≡ a → (first text == 123) ≡ b
    → Passes (val 0 text) (past_value 0 text)
unfolding past_value
atom_passes_by text true b is_a is_b x is =
    absurd (none-some x (sym (val_deep text (rw is_a refl)) ∙ is))
atom_passes_by text false true is_a is_b x is =
    absurd (none-some x (sym (val_deep text (rw (is_a, is_b) refl)) ∙ is))
atom_passes_by text false false is_a is_b x is =
    rw (is_a, is_b, past_value)
    (ap (λ o. option_map (λ p. p.1) o) (sym (val_atom 0 text is_a is_b) ∙ is))

value_passes : (depth : ℕ) (text : List ℕ) → Passes (val depth text) (past_value depth text)
value_passes zero text = atom_passes_by text _ _ refl refl
value_passes (suc depth) text =
    value_passes_by depth text _ _ (value_passes depth) refl refl

-- an expression that is read is seen
header_seen : (text : List ℕ) (e : Expression × List ℕ) → (first text == 91) ≡ true
    → expression text ≡ Some e → seen_in text ≡ Some (seen_view e)
header_seen text e bracket is = rw bracket (ap (λ o. option_map seen_view o) is)

pair_seen : (text : List ℕ) (e : Expression × List ℕ) → (first text == 91) ≡ false
    → expression text ≡ Some e → seen_in text ≡ Some (seen_view e)
unfolding expression
pair_seen text e other is =
    mapped (λ p. ((p.0.0, key_value p.0.1), p.1)) (keyval (val recursion_limit) text) e
    (rw other at is) (λ kv pair last.
    option_and_then_some (λ k. read_map (λ d. (k.0, d)) (val recursion_limit k.1))
    (key_equals text) kv pair (λ k keyed held.
    mapped (λ p. ((k.0, p.0), p.1)) (val recursion_limit k.1) kv held (λ p value same.
    rw (other, keyed, value_passes recursion_limit k.1 p value)
    (ap (λ q. Some ((q.0.0, true), q.1)) same ∙ ap (λ q. Some (seen_view q)) last))))

seen_by : (b : Bool) (text : List ℕ) (e : Expression × List ℕ) → (first text == 91) ≡ b
    → expression text ≡ Some e → seen_in text ≡ Some (seen_view e)
seen_by true = header_seen
seen_by false = pair_seen

pub seen_is : (text : List ℕ) (e : Expression × List ℕ) → expression text ≡ Some e
    → seen_in text ≡ Some (seen_view e)
seen_is text e = seen_by _ text e refl

-- the cases of a value that is passed over
pub value_plain : (depth : ℕ) (text : List ℕ) → closing_of (first text) ≡ None
    → past_value depth text ≡ past_atom text
unfolding past_value
value_plain zero text none = rw (none, past_value) refl
value_plain (suc depth) text none = rw (none, past_value) refl

pub value_deep : (text : List ℕ) (closing : ℕ) → closing_of (first text) ≡ Some closing
    → past_value 0 text ≡ None
unfolding past_value
value_deep text closing some = rw (some, past_value) refl

pub value_open : (depth : ℕ) (text : List ℕ) (closing : ℕ) → 0 < depth
    → closing_of (first text) ≡ Some closing
    → past_value depth text
    ≡ past_elements (past_value (depth - 1)) closing (length text) (drop 1 text)
unfolding past_value
value_open zero text closing deep some = absurd (omega arith)
value_open (suc depth) text closing deep some =
    let less : suc depth - 1 ≡ depth = omega arith in rw (some, less, past_value) refl

-- one element more is passed over
pub elements_turn : (past : List ℕ → Option (List ℕ)) (closing m : ℕ) (text start : List ℕ)
    (whole : Option (List ℕ)) → 0 < m → start ≡ skip_blank text
    → past_elements past closing m text ≡ whole
    → (if first start == closing then Some (drop 1 start)
    else option_and_then (past_elements past closing (m - 1)) (past_element past closing start))
    ≡ whole
unfolding past_elements
elements_turn past closing zero text start whole some starts is = absurd (omega arith)
elements_turn past closing (suc m) text start whole some starts is =
    let less : suc m - 1 ≡ m = omega arith in rw (starts, less) is

-- what is found at a reference
pub found_at : (o r : Option (Bor (List ℕ))) (x : Option (List ℕ))
    → option_map (λ t. t.now) o ≡ x → o ≡ r → x ≡ option_map (λ t. t.now) r
found_at o r x is same = sym is ∙ ap (λ p. option_map (λ t. t.now) p) same
