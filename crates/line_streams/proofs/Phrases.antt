-- What follows words, and lists that are read one by one.
use Rattle.std.proofs.Common.{◌≡◌, ℕ, zero, suc, List, [], ◌∷◌, ◌++◌, ◌≤◌, ◌<◌, length, take, drop, get_or, Option, Some, None, IfSome, Bor, Fits, w8, w64, arith, refl, sym, ◌∙◌, ap, subst, append_assoc}
use Rattle.std.specs.Int.{from_le_bytes}
use Rattle.std.proofs.lemmas.Nat.{le_bytes_8}
use Rattle.std.proofs.lemmas.List.{take-append-drop, append_cancel_left, length-take-le}
use Rattle.line_streams.specs.Spelling.{OneWay, Reads, Spelling, after, sequence, OthersFit, ListedFits, others_text, listed_text}
use Rattle.line_streams.specs.Numerals.{cons_same}

bytes_of : (k : ℕ) (xs : List ℕ) → ((i : ℕ) → Fits w8 (get_or xs i 0)) → (i : ℕ)
    → get_or (take k xs) i 0 < 256
bytes_of zero xs h i = omega arith
bytes_of (suc k) [] h i = omega arith
bytes_of (suc k) (x ∷ xs) h zero = let small = h 0 in omega (arith, small)
bytes_of (suc k) (x ∷ xs) h (suc i) = bytes_of k xs (λ j. h (suc j)) i

-- eight bytes are known by their number
pub same_front : (bytes word front wanted : List ℕ) → front ≡ take 8 bytes → wanted ≡ take 8 word
    → 8 ≤ length bytes → 8 ≤ length word
    → ((i : ℕ) → Fits w8 (get_or bytes i 0)) → ((i : ℕ) → Fits w8 (get_or word i 0))
    → from_le_bytes w64 front ≡ from_le_bytes w64 wanted → take 8 bytes ≡ take 8 word
same_front bytes word front wanted e f m n p q same =
    let number : from_le_bytes w64 (take 8 bytes) ≡ from_le_bytes w64 (take 8 word) =
    rw (← e, ← f) same in
    sym (le_bytes_8 (take 8 bytes) (from_le_bytes w64 (take 8 word)) (length-take-le 8 bytes m)
    (bytes_of 8 bytes p) (sym number))
    ∙ le_bytes_8 (take 8 word) (from_le_bytes w64 (take 8 word)) (length-take-le 8 word n)
    (bytes_of 8 word q) refl

joined : (bytes word x : List ℕ) → take 8 bytes ≡ take 8 word → drop 8 bytes ≡ drop 8 word ++ x
    → bytes ≡ word ++ x
joined bytes word x e f =
    let parts : take 8 word ++ (drop 8 word ++ x) ≡ word ++ x =
    sym (append_assoc (take 8 word) (drop 8 word) x)
    ∙ ap (λ (xs : List ℕ). xs ++ x) (take-append-drop 8 word) in
    let whole : take 8 bytes ++ drop 8 bytes ≡ take 8 word ++ (drop 8 word ++ x) = rw (e, f) refl in
    sym (take-append-drop 8 bytes) ∙ whole ∙ parts

-- after the same front what follows the rest of the word follows the word
pub follows_word : (bytes word rest more : List ℕ) (r : Option (Bor (List ℕ)))
    → take 8 bytes ≡ take 8 word → rest ≡ drop 8 bytes → more ≡ drop 8 word
    → IfSome r (λ x. rest ≡ more ++ x.now) → IfSome r (λ x. bytes ≡ word ++ x.now)
follows_word bytes word rest more None e p q f = f
follows_word bytes word rest more (Some x) e p q f = joined bytes word x.now e (rw (p, q) at f)

-- what a phrase reads after a word is read of the phrase after the word
pub reads_after : {A : Type 0} (word : List ℕ) (P : Spelling A) (rest bytes : List ℕ)
    (r : Option (A × List ℕ)) → bytes ≡ word ++ rest → Reads P.Fits P.text r rest
    → Reads (after word P).Fits (after word P).text r bytes
reads_after word P rest bytes (Some a) is read = (read.0, is ∙ ap (λ l. word ++ l) read.1)
reads_after word P rest bytes None is none =
    λ a fits e. none a fits (append_cancel_left word rest (P.text a) (sym is ∙ e))

-- nothing of this spelling begins the bytes
abbrev pub Nowhere : {A : Type 0} → Spelling A → List ℕ → Type 0
Nowhere S bytes = Reads S.Fits S.text None bytes

-- one was read, and then the other
pub reads_then : {A B : Type 0} (P : Spelling A) (Q : Spelling B) (a : A) (b : B)
    (bytes mid rest : List ℕ) → Reads P.Fits P.text (Some (a, mid)) bytes
    → Reads Q.Fits Q.text (Some (b, rest)) mid
    → Reads (sequence P Q).Fits (sequence P Q).text (Some ((a, b), rest)) bytes
reads_then P Q a b bytes mid rest p q =
    ((subst (λ l. P.Fits (a, l)) q.1 p.0, q.0), p.1 ∙ ap (λ l. P.text (a, l)) q.1)

pub no_first : {A B : Type 0} (P : Spelling A) (Q : Spelling B) (bytes : List ℕ) → Nowhere P bytes
    → Nowhere (sequence P Q) bytes
no_first P Q bytes none a fits e = none (a.0.0, Q.text (a.0.1, a.1)) fits.0 e

pub no_second : {A B : Type 0} (P : Spelling A) (Q : Spelling B) (a : A) (bytes mid : List ℕ)
    → OneWay P → Reads P.Fits P.text (Some (a, mid)) bytes → Nowhere Q mid
    → Nowhere (sequence P Q) bytes
no_second P Q a bytes mid one p none b fits e =
    let same = one.same (a, mid) (b.0.0, Q.text (b.0.1, b.1)) p.0 fits.0 (sym p.1 ∙ e) in
    none (b.0.1, b.1) fits.1 same.1

-- Some of a list were read, and it goes on at the tail: what stands there, with what follows it,
-- ends the whole list, and each list that begins the bytes goes on there.
pub record GoesOn {A : Type 0} (word : List ℕ) (byte : ℕ) (P : Spelling A) (items : List A)
    (tail bytes : List ℕ) : Type 0 where
  pub ends : (us : List A) (rest : List ℕ) → OthersFit byte P us rest
      → byte ∷ tail ≡ others_text byte P us rest
      → ListedFits word byte P (items ++ us, rest)
      × (bytes ≡ listed_text word byte P (items ++ us, rest))
  pub goes : (us : List A) (rest : List ℕ) → ListedFits word byte P (us, rest)
      → bytes ≡ listed_text word byte P (us, rest)
      → (ws : List A) × OthersFit byte P ws rest × (byte ∷ tail ≡ others_text byte P ws rest)

-- after the word
pub goes_on : {A : Type 0} (word : List ℕ) (byte : ℕ) (P : Spelling A) (tail bytes : List ℕ)
    → bytes ≡ word ++ tail → GoesOn word byte P [] tail bytes
goes_on {A} word byte P tail bytes b = record { ends = ends; goes = goes }
  where
    ends : (us : List A) (rest : List ℕ) → OthersFit byte P us rest
        → byte ∷ tail ≡ others_text byte P us rest → ListedFits word byte P (us, rest)
        × (bytes ≡ listed_text word byte P (us, rest))
    ends [] rest fit e = absurd (fit tail (sym e))
    ends (u ∷ us) rest fit e = (fit, b ∙ ap (λ l. word ++ l) (cons_same e).1)

    goes : (us : List A) (rest : List ℕ) → ListedFits word byte P (us, rest)
        → bytes ≡ listed_text word byte P (us, rest) → (ws : List A) × OthersFit byte P ws rest
        × (byte ∷ tail ≡ others_text byte P ws rest)
    goes [] rest fit e = absurd (fit tail (sym e ∙ b))
    goes (u ∷ us) rest fit e =
        (u ∷ us, fit, ap (λ l. byte ∷ l) (append_cancel_left word tail _ (sym b ∙ e)))

-- after one more and the byte
pub goes_on_more : {A : Type 0} (word : List ℕ) (byte : ℕ) (P : Spelling A) → OneWay P
    → (items : List A) (v : A) (tail next after bytes : List ℕ)
    → GoesOn word byte P items tail bytes
    → P.Fits (v, next) → tail ≡ P.text (v, next) → next ≡ byte ∷ after
    → GoesOn word byte P (items ++ v ∷ []) after bytes
goes_on_more {A} word byte P one items v tail next after bytes so p e n =
    record {
      ends = ends;
      goes = λ us rest fit f. let left = so.goes us rest fit f in
          goes left.0 rest left.1 left.2;
    }
  where
    ends : (us : List A) (rest : List ℕ) → OthersFit byte P us rest
        → byte ∷ after ≡ others_text byte P us rest
        → ListedFits word byte P ((items ++ v ∷ []) ++ us, rest)
        × (bytes ≡ listed_text word byte P ((items ++ v ∷ []) ++ us, rest))
    ends us rest fit f =
        let there = n ∙ f in
        subst (λ l. ListedFits word byte P (l, rest) × (bytes ≡ listed_text word byte P (l, rest)))
        (sym (append_assoc items (v ∷ []) us))
        (so.ends (v ∷ us) rest (subst (λ l. P.Fits (v, l)) there p, fit)
        (ap (λ l. byte ∷ l) (e ∙ ap (λ l. P.text (v, l)) there)))

    goes : (ws : List A) (rest : List ℕ) → OthersFit byte P ws rest
        → byte ∷ tail ≡ others_text byte P ws rest → (us : List A) × OthersFit byte P us rest
        × (byte ∷ after ≡ others_text byte P us rest)
    goes [] rest fit f = absurd (fit tail (sym f))
    goes (w ∷ ws) rest fit f =
        (ws, fit.1, sym n ∙ (one.same (v, next) (w, _) p fit.0 (sym e ∙ (cons_same f).1)).1)

-- where none stands at the tail, no list begins the bytes
pub goes_nowhere : {A : Type 0} (word : List ℕ) (byte : ℕ) (P : Spelling A) (items : List A)
    (tail bytes : List ℕ) → GoesOn word byte P items tail bytes
    → ((a : A × List ℕ) → P.Fits a → tail ≡ P.text a → ⊥) → (us : List A) (rest : List ℕ)
    → ListedFits word byte P (us, rest) → bytes ≡ listed_text word byte P (us, rest) → ⊥
goes_nowhere {A} word byte P items tail bytes so none us rest fit e =
    let left = so.goes us rest fit e in never left.0 left.1 left.2
  where
    never : (ws : List A) → OthersFit byte P ws rest → byte ∷ tail ≡ others_text byte P ws rest → ⊥
    never [] fit f = fit tail (sym f)
    never (w ∷ ws) fit f = none (w, _) fit.0 (cons_same f).1
