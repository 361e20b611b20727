-- No two values of a phrase have one text.
use Rattle.std.proofs.Common.{◌≡◌, ℕ, List, [], ◌∷◌, sym, refl, ◌∙◌, ap}
use Rattle.std.proofs.lemmas.List.{append_cancel_left}
use Rattle.line_streams.specs.declared.phrase.LineEnd.{LineEnd}
use Rattle.line_streams.specs.declared.phrase.LineEnd.TheVariants.{Newline, Bytes}
use Rattle.line_streams.specs.Spelling.{Spelling, OneWay, OthersFit, others_text, number, line_end, sequence, after, listed}
use Rattle.line_streams.specs.Numerals.{cons_same, same_number}

pub number_one : (most : ℕ) → OneWay (number most)
number_one most = record { same = λ a b p q e. same_number a.0 b.0 a.1 b.1 p.1 q.1 p.2 q.2 e }

pub line_end_one : (end : LineEnd) → OneWay (line_end end)
line_end_one Newline = record { same = λ a b p q e. (refl, (cons_same e).1) }
line_end_one Bytes = record { same = λ a b p q e. (refl, e) }

pub sequence_one : {A B : Type 0} {P : Spelling A} {Q : Spelling B} → OneWay P → OneWay Q
    → OneWay (sequence P Q)
sequence_one {P} {Q} one other = record {
  same = λ a b p q e.
      let first = one.same (a.0.0, Q.text (a.0.1, a.1)) (b.0.0, Q.text (b.0.1, b.1)) p.0 q.0 e in
      let second = other.same (a.0.1, a.1) (b.0.1, b.1) p.1 q.1 first.1 in
      (ap (λ v. (v, a.0.1)) first.0 ∙ ap (λ w. (b.0.0, w)) second.0, second.1);
}

pub after_one : {A : Type 0} (word : List ℕ) {P : Spelling A} → OneWay P → OneWay (after word P)
after_one word {P} one =
    record {
      same = λ a b p q e. one.same a b p q (append_cancel_left word (P.text a) (P.text b) e);
    }

others_one : {A : Type 0} (byte : ℕ) {P : Spelling A} → OneWay P → (vs ws : List A) (x y : List ℕ)
    → OthersFit byte P vs x → OthersFit byte P ws y
    → others_text byte P vs x ≡ others_text byte P ws y → (vs ≡ ws) × (x ≡ y)
others_one byte one [] [] x y p q e = (refl, e)
others_one byte one [] (w ∷ ws) x y p q e = absurd (p _ e)
others_one byte one (v ∷ vs) [] x y p q e = absurd (q _ (sym e))
others_one byte {P} one (v ∷ vs) (w ∷ ws) x y p q e =
    let first =
    one.same (v, others_text byte P vs x) (w, others_text byte P ws y) p.0 q.0 (cons_same e).1 in
    let rest = others_one byte one vs ws x y p.1 q.1 first.1 in
    (ap (λ u. u ∷ vs) first.0 ∙ ap (λ us. w ∷ us) rest.0, rest.1)

pub listed_one : {A : Type 0} (word : List ℕ) (byte : ℕ) {P : Spelling A} → OneWay P
    → OneWay (listed word byte P)
listed_one {A} word byte {P} one = record { same = same }
  where
    same : (a b : List A × List ℕ) → (listed word byte P).Fits a → (listed word byte P).Fits b
        → (listed word byte P).text a ≡ (listed word byte P).text b → (a.0 ≡ b.0) × (a.1 ≡ b.1)
    same ([], x) ([], y) p q e = (refl, e)
    same ([], x) (w ∷ ws, y) p q e = absurd (p _ e)
    same (v ∷ vs, x) ([], y) p q e = absurd (q _ (sym e))
    same (v ∷ vs, x) (w ∷ ws, y) p q e =
        let both = ap (λ l. byte ∷ l) (append_cancel_left word _ _ e) in
        others_one byte one (v ∷ vs) (w ∷ ws) x y p q both
