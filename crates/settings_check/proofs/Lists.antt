-- What is made of the items of a list, one after the other: of findings, of the keys of a table, of
-- files, and of the words of the command line.
use Rattle.std.proofs.Common.{◌≡◌, ℕ, true, ◌+◌, List, [], ◌∷◌, ◌++◌, length, map, append_assoc, append-nil, arith, ◌≤◌, ◌<◌, false, Bool, drop, get_or, drop_of_length-le, refl, sym, ap, ◌∙◌, subst, Result, string_bytes, Option, Some, None}
use Rattle.std.specs.Prelude.{String, IsSome, ◌↔◌, option_to_list}
use Rattle.iox2_config_file.specs.declared.section.Row.{Row}
use Rattle.iox2_config_file.specs.declared.section.Section.{Section}
use Rattle.settings_check.specs.Schema.{comma_if, properties, property}
use Rattle.iox2_config_file.proofs.Rowed.{split_at}
use Rattle.std.proofs.lemmas.List.{map-append}
use Rattle.std.specs.declared.alloc.Global.{Global}
use Rattle.settings_check.specs.Found.{report_of, reports_of, Seen, AddsFile, AddsFiles, AreFound}
use Rattle.settings_check.specs.Words.{texts_of, names_file, said, none_chosen, Requested, RequestsIn}
use Rattle.settings_check.specs.declared.found.FileError.{FileError}
use Rattle.settings_check.specs.declared.found.Report.{Report}
use Rattle.settings_check.specs.declared.arguments.Chosen.{Chosen}
use Rattle.settings_check.specs.declared.arguments.Request.{Request}
use Rattle.settings_check.specs.declared.arguments.RequestError.{RequestError}

-- one of some items more is taken
pub items_more : {A B : Type 0} (f : A → B) (out new whole : List B) (xs rest : List A) (x : A)
    → out ++ map f xs ≡ whole → xs ≡ x ∷ rest → new ≡ out ++ f x ∷ []
    → new ++ map f rest ≡ whole
items_more f out new whole xs rest x before split now = grind (arith, append_assoc)

-- where no item is left, all are taken
pub items_end : {A B : Type 0} (f : A → B) (out before : List B) (xs first ys : List A)
    → out ++ map f xs ≡ before ++ map f first → xs ≡ [] → first ≡ ys
    → out ≡ before ++ map f ys
items_end f out before xs first ys same none all = grind (arith, append-nil)

-- one text behind another, of three and of six
pub three : (old a b c first second new : List ℕ) → first ≡ old ++ a → second ≡ first ++ b
    → new ≡ second ++ c → new ≡ old ++ (a ++ (b ++ c))
three old a b c first second new e f g = grind (arith, append_assoc)

pub six : (a b c d e f n0 n1 n2 n3 n4 n5 : List ℕ) → n0 ≡ a → n1 ≡ n0 ++ b → n2 ≡ n1 ++ c
    → n3 ≡ n2 ++ d → n4 ≡ n3 ++ e → n5 ≡ n4 ++ f → n5 ≡ a ++ (b ++ (c ++ (d ++ (e ++ f))))
six a b c d e f n0 n1 n2 n3 n4 n5 p q r s t u = grind (arith, three, append_assoc)

-- one key more is written
pub property_next : (s : Section) (rows : List Row) (i : ℕ) (d : Row) (is_first : Bool)
    (out new whole : List ℕ) → i < length rows
    → out ++ properties s is_first (drop i rows) ≡ whole
    → new ≡ out ++ (comma_if is_first ++ property s (get_or rows i d))
    → new ++ properties s false (drop (i + 1) rows) ≡ whole
property_next s rows i d is_first out new whole lt before wrote =
    grind (arith, append_assoc, split_at)

-- past the last key all are written
pub properties_end : (s : Section) (rows : List Row) (i : ℕ) (is_first : Bool)
    (out whole : List ℕ) → length rows ≤ i
    → out ++ properties s is_first (drop i rows) ≡ whole → out ≡ whole
properties_end s rows i is_first out whole all is = grind (arith, drop_of_length-le, append-nil)

-- what is found from a file on follows what was found before it
abbrev pub FoundFollows : (List ℕ → Result (List ℕ) FileError → Type 0) → List ℕ
    → List (String Global) → ℕ → Seen → Type 0
FoundFollows Gives input names i done =
    (all : Seen) → AddsFiles Gives input (texts_of (drop i names)) done all
    → AreFound Gives input (texts_of names) all

-- one file more is read
pub found_next : (Gives : List ℕ → Result (List ℕ) FileError → Type 0) (input : List ℕ)
    (names : List (String Global)) (i : ℕ) (d : String Global) (file : List ℕ) (old new : Seen)
    → i < length names → file ≡ string_bytes (get_or names i d)
    → AddsFile Gives input file old new
    → FoundFollows Gives input names i old → FoundFollows Gives input names (i + 1) new
found_next Gives input names i d file old new lt named adds follows all rest =
    let here : AddsFile Gives input (string_bytes (get_or names i d)) old new =
    subst (λ f. AddsFile Gives input f old new) named adds in
    follows all
    (subst (λ l. AddsFiles Gives input (texts_of l) old all) (sym (split_at names i d lt))
    (new, here, rest))

-- past the last file all is found
pub found_end : (Gives : List ℕ → Result (List ℕ) FileError → Type 0) (input : List ℕ)
    (names : List (String Global)) (i : ℕ) (done : Seen) → length names ≤ i
    → FoundFollows Gives input names i done → AreFound Gives input (texts_of names) done
found_end Gives input names i done all follows =
    follows done
    (subst (λ l. AddsFiles Gives input (texts_of l) done done) (sym (drop_of_length-le names all))
    refl)

-- what has the same parts is the same
pub same_parts : (a b : Seen) → a.said ≡ b.said → a.unread ≡ b.unread → a.valid ≡ b.valid
    → a ≡ b
same_parts a b p q r = grind arith

-- one report more
pub reported : (old new : List Report) (r : Report) → new ≡ old ++ r ∷ []
    → reports_of new ≡ reports_of old ++ report_of r.file.now r.finding ∷ []
reported old new r added =
    ap (λ l. reports_of l) added ∙ map-append (λ r. report_of r.file.now r.finding) old (r ∷ [])

-- a file is taken
pub taken : (o : Chosen) (old new : List (String Global)) (w : String Global)
    (ws : List (List ℕ)) → names_file o (string_bytes w) ≡ true → new ≡ old ++ w ∷ []
    → said o (texts_of old) (string_bytes w ∷ ws) ≡ said o (texts_of new) ws
unfolding said
taken o old new w ws named now = rw (named, now, map-append) refl

none_is : IsSome {T = String Global} None → ⊥
none_is h = cc

-- the words after the first
pub drop_first : (xs rest : List (String Global)) (o : Option (String Global)) (n : ℕ)
    → xs ≡ option_to_list o ++ rest → (IsSome o ↔ (0 < n)) → n ≡ length xs
    → drop 1 (texts_of xs) ≡ texts_of rest
drop_first xs rest (Some x) n e v l = rw e refl
drop_first [] rest None n e v l = ap texts_of e
drop_first (y ∷ ys) rest None n e v l = absurd (none_is (v.1 (omega (arith, l))))

-- what all words request, where none of them is left
pub words_end : (o : Chosen) (files : List (List ℕ)) (left : List (String Global))
    (all : List (List ℕ)) (result : Result Request RequestError)
    → said o files (texts_of left) ≡ said none_chosen [] all → left ≡ []
    → Requested (Some (o, files)) result → RequestsIn all result
unfolding said
words_end o files left all result same none h =
    let said_all : Some (o, files) ≡ said none_chosen [] all = rw none at same in
    rw said_all at h
