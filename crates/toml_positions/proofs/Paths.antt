-- Paths of keys.
use Rattle.std.proofs.Common.{◌≡◌, ◌≤◌, ◌<◌, ◌+◌, ◌⊎◌, inl, inr, ℕ, zero, suc, true, false, ◌&&◌, bytes_eq, get_or, List, [], ◌∷◌, ◌++◌, length, map, None, Option, Some, drop, refl, sym, ap, ◌∙◌, string_bytes, String, arith, add-one, append_assoc, length-append, drop_of_length-le}
use Rattle.std.specs.Borrow.{Bor}
use Rattle.std.specs.declared.alloc.Global.{Global}
use Rattle.std.specs.Prelude.{is_some, nat_le, nat_lt}
use Rattle.std.proofs.lemmas.Bool.Decides.{nat_tests}
use Rattle.std.proofs.lemmas.List.{map-append, length-map}
use Rattle.std.proofs.lemmas.Option.{none-some}
use Rattle.std.proofs.Math.Seq.{drop-cons}
use Rattle.toml.proofs.Lines.{data_of_table}
use Rattle.toml.specs.Data.{Data, Members, array, as_table, boolean, datetime, float, get, get_member, integer, string, table}
use Rattle.toml_parser.specs.Reading.{path_view as keys_view}
use Rattle.toml_positions.specs.Written.{agree, path_view, value_at}
use Rattle.toml_positions.specs.declared.position.KeyPath.{KeyPath}

-- the keys of a path: those of its table, and then its own
pub key_above : (table : List (Bor (List ℕ))) (key : List ℕ) (i : ℕ) (x d : Bor (List ℕ))
    → i < length table → x ≡ get_or table i d
    → x.now ≡ get_or (map (λ k. k.now) table ++ key ∷ []) i []
key_above [] key i x d lt is = absurd (omega arith)
key_above (y ∷ ys) key zero x d lt is = ap (λ k. k.now) is
key_above (y ∷ ys) key (suc i) x d lt is = key_above ys key i x d (omega arith) is

pub key_last : (table : List (Bor (List ℕ))) (key : List ℕ) (i : ℕ) → i ≤ length table
    → length table ≤ i → key ≡ get_or (map (λ k. k.now) table ++ key ∷ []) i []
key_last [] key zero few all = refl
key_last [] key (suc i) few all = absurd (omega arith)
key_last (y ∷ ys) key zero few all = absurd (omega arith)
key_last (y ∷ ys) key (suc i) few all = key_last ys key i (omega arith) (omega arith)

-- one key more of both
pub agree_next : (xs : List (String Global)) (ls : List (List ℕ)) (i : ℕ) (x : String Global)
    → i < length xs → x ≡ get_or xs i x → i < length ls
    → agree (keys_view (drop i xs)) (drop i ls)
    ≡ (bytes_eq (string_bytes x) (get_or ls i [])
    && agree (keys_view (drop (i + 1) xs)) (drop (i + 1) ls))
agree_next [] ls i x one is other = absurd (omega arith)
agree_next (y ∷ ys) [] i x one is other = absurd (omega arith)
agree_next (y ∷ ys) (l ∷ ls) zero x one is other =
    ap (λ s. bytes_eq (string_bytes s) l && agree (keys_view ys) ls) (sym is)
agree_next (y ∷ ys) (l ∷ ls) (suc i) x one is other =
    let below = agree_next ys ls i x (omega arith) is (omega arith) in grind (arith, add-one)

-- past the end of one of two paths they agree
agree_none : (ks : List (List ℕ)) → agree ks [] ≡ true
agree_none [] = refl
agree_none (k ∷ ks) = refl

pub agree_past : (xs : List (String Global)) (ls : List (List ℕ)) (i : ℕ)
    → (length xs ≤ i) ⊎ (length ls ≤ i) → agree (keys_view (drop i xs)) (drop i ls) ≡ true
agree_past xs ls i (inl h) = rw (drop_of_length-le xs h) refl
agree_past xs ls i (inr h) = rw (drop_of_length-le ls h) (agree_none _)

-- how many keys a path has
pub path_size : (path : KeyPath) → length (path_view path) ≡ length path.table.now + 1
path_size path = grind (arith, length-append, length-map)

pub goes_on : (path : KeyPath) (n : ℕ)
    → nat_lt (length path.table.now) n ≡ nat_le (length (path_view path)) n
goes_on path n = grind (arith, nat_tests, path_size)

-- the keys of an expression, appended
pub led : (old front : List (String Global)) (last : String Global)
    → keys_view ((old ++ front) ++ last ∷ [])
    ≡ keys_view old ++ (keys_view front ++ string_bytes last ∷ [])
led old front last =
    map-append string_bytes (old ++ front) (last ∷ [])
    ∙ ap (λ l. l ++ string_bytes last ∷ []) (map-append string_bytes old front)
    ∙ append_assoc (keys_view old) (keys_view front) (string_bytes last ∷ [])

-- there is nothing in nothing
pub nothing_at : (path : List (List ℕ)) → value_at path None ≡ None
nothing_at [] = refl
nothing_at (k ∷ ks) = nothing_at ks

gone : {found : Option Data} (path : List (List ℕ)) → found ≡ None → value_at path found ≡ None
gone path e = rw e (nothing_at path)

led_into : {found other : Option Data} (path : List (List ℕ)) → found ≡ other
    → value_at path other ≡ None → value_at path found ≡ None
led_into path e none = rw e none

-- a path that begins with a key leads into the table at that key, if there is one
pub in_table : (key : List ℕ) (keys : List (List ℕ)) (ms inner : Members) (d : Data)
    → Some d ≡ get_member key ms → Some inner ≡ as_table d
    → value_at (key ∷ keys) (Some (table ms)) ≡ value_at keys (Some (table inner))
in_table key keys ms inner d is held =
    rw (← is) (ap (λ v. value_at keys (Some v)) (data_of_table d inner (sym held)))

no_member : (key : List ℕ) (d : Data) → None ≡ as_table d → get key d ≡ None
no_member key (string s) is = refl
no_member key (integer z) is = refl
no_member key (float x) is = refl
no_member key (boolean b) is = refl
no_member key (datetime dt) is = refl
no_member key (array ds) is = refl
no_member key (table ms) is = absurd (none-some ms is)

-- else what is left of the path of a key leads to nothing, and so does the whole path
pub in_nothing : (tables : List (Bor (List ℕ))) (key : List ℕ) (i : ℕ) (x : Bor (List ℕ))
    (ms : Members) (whole : Option Data)
    → value_at (map (λ k. k.now) (drop i tables) ++ key ∷ []) (Some (table ms)) ≡ whole
    → i < length tables → None ≡ get_member (get_or tables i x).now ms
    → false ≡ is_some whole
in_nothing tables key i x ms whole left lt none =
    let found : None ≡ value_at (map (λ k. k.now) (drop i tables) ++ key ∷ []) (Some (table ms)) =
    rw (drop-cons tables i x lt)
    (sym (gone (map (λ k. k.now) (drop (suc i) tables) ++ key ∷ []) (sym none))) in
    ap is_some (found ∙ left)

no_table : (keys : List (Bor (List ℕ))) (key : List ℕ) (d : Data) → None ≡ as_table d
    → value_at (map (λ k. k.now) keys ++ key ∷ []) (Some d) ≡ None
no_table [] key d none = no_member key d none
no_table (k ∷ ks) key d none = gone (map (λ k. k.now) ks ++ key ∷ []) (no_member k.now d none)

pub in_no_table : (tables : List (Bor (List ℕ))) (key : List ℕ) (i : ℕ) (x : Bor (List ℕ))
    (ms : Members) (d : Data) (whole : Option Data)
    → value_at (map (λ k. k.now) (drop i tables) ++ key ∷ []) (Some (table ms)) ≡ whole
    → i < length tables → Some d ≡ get_member (get_or tables i x).now ms → None ≡ as_table d
    → false ≡ is_some whole
in_no_table tables key i x ms d whole left lt some none =
    let found : None ≡ value_at (map (λ k. k.now) (drop i tables) ++ key ∷ []) (Some (table ms)) =
    rw (drop-cons tables i x lt)
    (sym (led_into (map (λ k. k.now) (drop (suc i) tables) ++ key ∷ []) (sym some)
    (no_table (drop (suc i) tables) key d none))) in
    ap is_some (found ∙ left)
