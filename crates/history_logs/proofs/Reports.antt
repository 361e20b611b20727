-- What is written: texts in parts, and counts after counts.
use Rattle.history_logs.proofs.Words.{AddsCounts, All-nil, All-push, Appends, Err, List, Ok, Option, Result, [], ap, append-nil, append_assoc, codes, inl, inr, refl, subst, sym, ℕ, ◌++◌, ◌∙◌, ◌∷◌, ◌≡◌, ◌≢◌}
use Rattle.std.specs.Prelude.{OnErr, OnOk}
use Rattle.std.proofs.KnownBytes.{Appends-nil}
use Rattle.std.proofs.lemmas.List.Elements.{All-append}
use Rattle.std.proofs.lemmas.List.Folds.{concat-append}
use Rattle.std.specs.List.{concat}
use Rattle.line_streams.proofs.Written.{appends_more}
use Rattle.line_streams.specs.Streams.{AppendsBeginning}
use Rattle.history_logs.specs.Progress.{IsCount, count_text}

pub two_parts : (old a b p q : List ℕ) → a ≡ old ++ p → b ≡ a ++ q → b ≡ old ++ (p ++ q)
two_parts old a b p q e f =
    f ∙ rw e (append_assoc old p q)

-- nothing is no count
pub no_counts : (a : Option (List ℕ)) → AddsCounts a a
no_counts a = ([], All-nil IsCount, Appends-nil a)

-- counts, and then some more
pub counts_more : (a b c : Option (List ℕ)) → AddsCounts a b → AddsCounts b c → AddsCounts a c
counts_more a b c p q = (
  p.0 ++ q.0,
  All-append IsCount p.0 q.0 p.1 q.1,
  subst (Appends a c) (sym (concat-append p.0 q.0))
      (appends_more a b c (concat p.0) (concat q.0) p.2 q.2),
)

one_count : (a b : Option (List ℕ)) (bytes : List ℕ) → IsCount bytes → Appends a b bytes
    → AddsCounts a b
one_count a b bytes is p = (
  bytes ∷ [],
  All-push IsCount [] bytes (All-nil IsCount) is,
  subst (Appends a b) (sym (append-nil bytes)) p,
)

-- what comes before the end of one byte is nothing
nothing_before : (written left : List ℕ) → codes "\n" ≡ written ++ left → left ≢ []
    → written ≡ []
nothing_before [] left e some = refl
nothing_before (x ∷ xs) [] e some = absurd (some refl)
nothing_before (x ∷ []) (y ∷ ys) e some = absurd (cc (e))
nothing_before (x ∷ (z ∷ zs)) (y ∷ ys) e some = absurd (cc (e))

-- some first bytes of a count
front_count : (bytes written left : List ℕ) → IsCount bytes → bytes ≡ written ++ left → left ≢ []
    → IsCount written
front_count bytes written left (inl is) e some = inl (
  is.0,
  left ++ is.1,
  is.2 ∙ (ap (λ (bs : List ℕ). bs ++ is.1) e ∙ append_assoc written left is.1),
)
front_count bytes written left (inr is) e some =
    inl (
      0,
      count_text 0,
      ap (λ (bs : List ℕ). bs ++ count_text 0)
          (sym (nothing_before written left (sym is ∙ e) some)),
    )

-- a count that was written, or what could be written of it
pub count_written : {X E : Type 0} (r : Result X E) (a b : Option (List ℕ)) (bytes : List ℕ)
    → IsCount bytes → OnOk r (Appends a b bytes) → OnErr r (AppendsBeginning a b bytes)
    → AddsCounts a b
count_written (Ok x) a b bytes is whole part = one_count a b bytes is whole
count_written (Err e) a b bytes is whole part =
    one_count a b part.0 (front_count bytes part.0 part.1 is part.3 part.4) part.2
