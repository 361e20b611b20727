-- Which entries stay and which leave in a recovery, and lists of entries that hold the same details
-- with the same tickets, whatever their slots are.
use Rattle.iox2_container.proofs.Prelude.{Bool, Entry, InsertsOne, IsPermutation, IsPermutation-cons, IsPermutation-middle, IsPermutation-refl, IsPermutation-sym, IsPermutation-trans, List, [], ap, arith, candidates, false, filter, inl, inr, is_leaving, leaving, map, map-append, marks_of, not, refl, staying, subst, sym, true, ℕ, ◌&&◌, ◌∙◌, ◌∷◌, ◌≡◌, ◌≢◌, ◌⊎◌}
use Rattle.iox2_container.proofs.Keeping.{AllPairs-loss}
use Rattle.iox2_container.proofs.Passes.{details_of}
use Rattle.iox2_container.proofs.Lists.{AllPairs-head, AllPairs-tail, Among, gained, among_more, among_less, of_all, without, DifferBy, other_differs, filter_from, filter_to}

abbrev pub ticket_in : {T : Type 0} → Entry T → ℕ
ticket_in x = x.ticket

-- the list has these details with this ticket
abbrev pub HoldsEntry : {T : Type 0} → List (Entry T) → ℕ → T → Type 0
HoldsEntry {T} es ticket details = (x : Entry T) × Among x es × (ticket ≡ x.ticket)
    × (details ≡ x.details)

-- what one list holds, another holds
abbrev pub AreAmong : {T : Type 0} → List (Entry T) → List (Entry T) → Type 0
AreAmong {T} es fs = (ticket : ℕ) (details : T) → HoldsEntry es ticket details
    → HoldsEntry fs ticket details

details_without : {T : Type 0} (rest es : List (Entry T)) (x : Entry T) → InsertsOne rest es x
    → IsPermutation (x.details ∷ details_of rest) (details_of es)
details_without rest es x g =
    grind (arith, details_of, map-append, IsPermutation-sym, IsPermutation-middle)

-- lists that hold the same are the same but for the order
pub same_members : {T : Type 0} (xs ys : List (Entry T)) → DifferBy ticket_in xs
    → DifferBy ticket_in ys → AreAmong xs ys → AreAmong ys xs
    → IsPermutation (details_of xs) (details_of ys)
same_members [] [] p q f g = IsPermutation-refl ([])
same_members [] (y ∷ ys) p q f g = absurd ((g y.ticket y.details (y, inl refl, refl, refl)).1)
same_members {T} (x ∷ xs) ys p q f g =
    let h = f x.ticket x.details (x, inl refl, refl, refl) in
    let w = without ys h.0 h.1 in
    let others =
    same_members xs w.rest (AllPairs-tail (λ v w. ticket_in v ≢ ticket_in w) x xs p)
    (AllPairs-loss (λ (v w : Entry T). v.ticket ≢ w.ticket) w.rest ys h.0 w.gains q)
    (λ t d k.
    let z = f t d (k.0, inr k.1, k.2, k.3) in
    elim (among_less w.rest ys h.0 z.0 w.gains z.1) [
      | inl m ↦ (z.0, m, z.2, z.3)
      | inr e ↦ absurd
          (of_all (λ w. ticket_in x ≢ ticket_in w) xs k.0
          (AllPairs-head (λ v w. ticket_in v ≢ ticket_in w) x xs p) k.1
          (h.2 ∙ (sym (ap ticket_in e) ∙ (sym z.2 ∙ k.2))))
    ])
    (λ t d k.
    let z = g t d (k.0, among_more w.rest ys h.0 k.0 w.gains k.1, k.2, k.3) in
    elim z.1 [
      | inl e ↦ absurd
          (other_differs ticket_in w.rest ys h.0 k.0 w.gains q k.1
          (sym k.2 ∙ (z.2 ∙ (ap ticket_in e ∙ h.2))))
      | inr m ↦ (z.0, m, z.2, z.3)
    ]) in
    IsPermutation-trans (x.details ∷ details_of xs) (x.details ∷ details_of w.rest) (details_of ys)
    (IsPermutation-cons x.details (details_of xs) (details_of w.rest) others)
    (subst (λ (d : T). IsPermutation (d ∷ details_of w.rest) (details_of ys)) (sym h.3)
    (details_without w.rest ys h.0 w.gains))

pub nothing_within : {T : Type 0} (es fs : List (Entry T)) → es ≡ [] → AreAmong es fs
nothing_within es fs e t d k = absurd (rw e at k.1)

pub within_after_add : {T : Type 0} (es fs es' fs' : List (Entry T)) (x y : Entry T)
    → InsertsOne es es' x → InsertsOne fs fs' y → x.ticket ≡ y.ticket → x.details ≡ y.details
    → AreAmong es fs → AreAmong es' fs'
within_after_add es fs es' fs' x y ge gf same_ticket same_details f t d k =
    elim (among_less es es' x k.0 ge k.1) [
      | inl m ↦
          (let w = f t d (k.0, m, k.2, k.3) in (w.0, among_more fs fs' y w.0 gf w.1, w.2, w.3))
      | inr e ↦ (
        y,
        gained fs fs' y gf,
        k.2 ∙ (ap ticket_in e ∙ same_ticket),
        k.3 ∙ (ap (λ v. v.details) e ∙ same_details),
      )
    ]

pub within_after_remove : {T : Type 0} (es fs es' fs' : List (Entry T)) (x y : Entry T)
    → InsertsOne es' es x → InsertsOne fs' fs y → x.ticket ≡ y.ticket → DifferBy ticket_in es
    → AreAmong es fs → AreAmong es' fs'
within_after_remove es fs es' fs' x y ge gf same_ticket p f t d k =
    let w = f t d (k.0, among_more es' es x k.0 ge k.1, k.2, k.3) in
    elim (among_less fs' fs y w.0 gf w.1) [
      | inl m ↦ (w.0, m, w.2, w.3)
      | inr e ↦ absurd
          (other_differs ticket_in es' es x k.0 ge p k.1
          (sym k.2 ∙ (w.2 ∙ (ap ticket_in e ∙ sym same_ticket))))
    ]

-- the entries whose details pass the test
abbrev pub passing : {T : Type 0} → (T → Bool) → List (Entry T) → List (Entry T)
passing keep es = filter (λ e. keep e.details) es

pub within_after_filter : {T : Type 0} (keep : T → Bool) (es fs : List (Entry T)) → AreAmong es fs
    → AreAmong (passing keep es) (passing keep fs)
within_after_filter keep es fs f t d k =
    let r = filter_from (λ e. keep e.details) es k.0 k.1 in
    let w = f t d (k.0, r.0, k.2, k.3) in
    (w.0, filter_to (λ e. keep e.details) fs w.0 w.1 (ap keep (sym w.3 ∙ k.3) ∙ r.1), w.2, w.3)

module _ {T : Type 0} (is_dead : T → Bool) (marked : ℕ → Bool) (es : List (Entry T)) where
  abbrev stays : Entry T → Bool
  stays e = not (is_leaving is_dead marked e)

  pub stays_among : (x : Entry T) → Among x (staying is_dead marked es) → Among x es
  stays_among x h = (filter_from stays es x h).0

  pub leaves_among : (x : Entry T) → Among x (leaving is_dead marked es) → Among x es
  leaves_among x h = (filter_from (is_leaving is_dead marked) es x h).0

  pub stays_or_leaves : (x : Entry T) → Among x es
      → Among x (staying is_dead marked es) ⊎ Among x (leaving is_dead marked es)
  stays_or_leaves x h = grind (arith, filter_to)

  pub stays_apart : (n : Entry T → ℕ) (x y : Entry T) → DifferBy n es
      → Among x (staying is_dead marked es) → Among y (leaving is_dead marked es) → n x ≢ n y
  stays_apart n x y d h k same =
      let l = filter_from (is_leaving is_dead marked) es y k in
      let s = filter_from stays es x h in
      let w = without es y l.0 in
      elim (among_less w.rest es y x w.gains s.0) [
        | inl m ↦ other_differs n w.rest es y x w.gains d m same
        | inr e ↦ (let z : false ≡ true = sym (ap not l.1) ∙ (sym (ap stays e) ∙ s.1) in cc)
      ]

-- what stays, where the answers are those of a function of the details
pub staying_by : {T : Type 0} (is_dead answer : T → Bool) (marked : ℕ → Bool) (es : List (Entry T))
    → marks_of is_dead marked es ≡ map answer (details_of (candidates is_dead es))
    → staying is_dead marked es ≡ passing (λ d. not (is_dead d && answer d)) es
staying_by is_dead answer marked [] a = refl
staying_by {T} is_dead answer marked (e ∷ es) a =
    grind (arith, filter, staying_by is_dead answer marked es)
