-- Services that are named.
use Rattle.history_logs.proofs.Words.{All-cons, All-head, All-nil, All-tail, AreNumbers, BTreeMap, Bool, IfNone, IfSome, IsDistinct-from_sorted, IsNamed, IsOrdered, List, None, Option, Service, ServiceLine, Some, UpdatesBy, [], ap, arith, cases_eq, cases_order, cond, eqb, false, get_or, if◌then◌else◌, inl, inr, is_eq, keys, length, length-take-le, nat_cmp, numbers_in, option_map, refl, same_Some, services_in, slice_get, slice_get_within, slice_set, subst, suc, sym, take, take_all, true, zero, ℕ, ◌++◌, ◌+◌, ◌-◌, ◌<◌, ◌==◌, ◌||◌, ◌∙◌, ◌∷◌, ◌≡◌, ◌≢◌, ◌≤◌}
use Rattle.std.proofs.Common.{MatchOption, map, eq-eqb, ne_eqb}
use Rattle.std.proofs.Math.Seq.{take-suc}
use Rattle.std.specs.Cmp.{nat_eq_equiv, unsigned_ties}
use Rattle.std.specs.List.{IsDistinct, list_any}
use Rattle.std.specs.Map.{lookup}
use Rattle.std.specs.Option.{is_some, option_or}
use Rattle.std.specs.Ordering.{eq_by_cmp}
use Rattle.std.specs.Set.{unique_keys}
use Rattle.std.proofs.lemmas.Bool.Decides.{Decides-eqb}
use Rattle.std.proofs.lemmas.List.{length-map, map-append}
use Rattle.std.proofs.lemmas.Map.Made.{is_some-lookup, length-from_keys}
use Rattle.history_logs.specs.Fields.{last_of}
use Rattle.history_logs.specs.Reading.{HaveNumber, IsNameless, IsNew, IsNewBehind}
use Rattle.history_logs.proofs.AtIndex.{all_get, get_within}

-- the number of a service
abbrev number_of : Service → ℕ
number_of s = s.line.number

-- what holds of all holds of the one at an index
number_at : (number : ℕ) (ss : List Service) (at : ℕ) (s : Service) → HaveNumber number ss
    → slice_get ss at ≡ Some s → number_of s ≡ number
number_at number ss at s have there =
    all_get (λ (x : Service). number_of x ≡ number) ss at s have there

no_some : (n : ℕ) → Some n ≡ None → ⊥
no_some n e = absurd (cc)

-- one service is named
pub one_index : (number : Option ℕ) (ss : List Service) (at bt : ℕ) (s t : Service)
    → IsNamed number ss at s → IsNamed number ss bt t → at ≡ bt
one_index number ss at bt s t p q =
    let same : number_of s ≡ number_of t =
    elim p.named as (λ _. number_of s ≡ number_of t) [
      | inl a ↦ elim q.named as (λ _. number_of s ≡ number_of t) [
        | inl b ↦ same_Some (number_of s) (number_of t) (sym a ∙ b)
        | inr b ↦ absurd (no_some (number_of s) (sym a ∙ b.0))
      ]
      | inr a ↦ sym (number_at (number_of s) ss bt t a.1 q.there)
    ] in
    elim (cases_order at bt) as (λ _. at ≡ bt) [
      | inl e ↦ e
      | inr (inl less) ↦ absurd (p.last bt t less q.there (sym same))
      | inr (inr more) ↦ absurd (q.last at s more p.there same)
    ]

pub one_named : (number : Option ℕ) (ss : List Service) (at bt : ℕ) (s t : Service)
    → IsNamed number ss at s → IsNamed number ss bt t → s ≡ t
one_named number ss at bt s t p q =
    same_Some s t (sym p.there ∙ (ap (slice_get ss) (one_index number ss at bt s t p q) ∙ q.there))

-- what is found of a number
abbrev IsLast : ℕ → List Service → ℕ → Type 0
IsLast number services at =
    (s : Service) × (slice_get services at ≡ Some s) × (s.line.number ≡ number)
    × IsNewBehind number services at

is_last : (number : ℕ) (ss : List Service)
    → MatchOption (last_of (numbers_in ss) number) (IsNew number ss) (IsLast number ss)
is_last number [] = All-nil (λ (s : Service). s.line.number ≢ number)
is_last number (s ∷ ss) = cases (last_of (numbers_in ss) number) (is_last number ss)
  where
    first : IsNew number ss → (b : Bool) → (number == s.line.number) ≡ b
        → MatchOption (if b then Some 0 else None) (IsNew number (s ∷ ss)) (IsLast number (s ∷ ss))
    first new true e = (s, refl, sym ((Decides-eqb number s.line.number).0 e), behind)
      where
        behind : (later : ℕ) (t : Service) → 0 < later → slice_get (s ∷ ss) later ≡ Some t
            → t.line.number ≢ number
        behind zero t h there = absurd (omega arith)
        behind (suc later) t h there =
            all_get (λ (x : Service). x.line.number ≢ number) ss later t new there
    first new false e =
        All-cons (λ (x : Service). x.line.number ≢ number) s ss
        (λ same. let yes = (Decides-eqb number s.line.number).1 (sym same) in absurd (cc)) new

    cases : (found : Option ℕ) → MatchOption found (IsNew number ss) (IsLast number ss)
        → MatchOption
        (option_or (option_map suc found) (if number == s.line.number then Some 0 else None))
        (IsNew number (s ∷ ss)) (IsLast number (s ∷ ss))
    cases None new = first new (number == s.line.number) refl
    cases (Some at) last = (last.0, last.1, last.2, behind)
      where
        behind : (later : ℕ) (t : Service) → suc at < later → slice_get (s ∷ ss) later ≡ Some t
            → t.line.number ≢ number
        behind zero t h there = absurd (omega arith)
        behind (suc later) t h there = last.3 later t (omega arith) there

pub last_found : (number : ℕ) (ss : List Service) (found : Option ℕ)
    → found ≡ last_of (numbers_in ss) number
    → IfSome found (IsLast number ss) × IfNone found (IsNew number ss)
last_found number ss found is =
    cases found
    (subst (λ o. MatchOption o (IsNew number ss) (IsLast number ss)) (sym is) (is_last number ss))
  where
    cases : (o : Option ℕ) → MatchOption o (IsNew number ss) (IsLast number ss)
        → IfSome o (IsLast number ss) × IfNone o (IsNew number ss)
    cases None new = (tt, new)
    cases (Some at) last = (last, tt)

any_last : (ns : List ℕ) (q : ℕ) → is_some (last_of ns q) ≡ list_any (eqb q) ns
any_last [] q = refl
any_last (n ∷ ns) q =
    cases (last_of ns q) (q == n) ∙ ap (λ b. (q == n) || b) (any_last ns q)
  where
    cases : (found : Option ℕ) (b : Bool)
        → is_some (option_or (option_map suc found) (if b then Some 0 else None))
        ≡ (b || is_some found)
    cases None true = refl
    cases None false = refl
    cases (Some at) true = refl
    cases (Some at) false = refl

-- as many services are there as numbers
ties : eq_by_cmp nat_cmp ≡ eqb
ties i a b = sym (unsigned_ties a b) i

pub count_numbers : (m : BTreeMap ℕ ℕ) (ss : List Service) → IsOrdered nat_cmp m
    → AreNumbers m ss → length m.entries ≡ services_in ss
count_numbers m ss ordered are =
    sym (length-map m.entries (λ (e : ℕ × ℕ). e.0))
    ∙ length-from_keys nat_eq_equiv (keys m) (numbers_in ss)
    (subst (λ e. IsDistinct e (keys m)) ties (IsDistinct-from_sorted nat_cmp (keys m) ordered))
    (λ q. ap (λ (e : ℕ → ℕ → Bool). list_any (e q) (keys m)) (sym ties)
    ∙ (sym (is_some-lookup (eq_by_cmp nat_cmp q) m.entries)
    ∙ (ap is_some (are q) ∙ any_last (numbers_in ss) q)))

-- where there is one number, all have it
one_number : (m : BTreeMap ℕ ℕ) (ss : List Service) → AreNumbers m ss
    → length m.entries ≡ 1 → (number : ℕ) × HaveNumber number ss
one_number m ss are one = cases m.entries one are
  where
    cases : (es : List (ℕ × ℕ)) → length es ≡ 1
        → ((q : ℕ) → lookup (λ k. is_eq (nat_cmp q k)) es ≡ last_of (numbers_in ss) q)
        → (number : ℕ) × HaveNumber number ss
    cases [] long found = absurd (omega arith)
    cases (e ∷ f ∷ es) long found = absurd (omega arith)
    cases (e ∷ []) long found = (
      e.0,
      λ i s h.
          let q = (get_or ss i s).line.number in
          elim (cases_eq q e.0) as (λ _. q ≡ e.0) [
            | inl same ↦ same
            | inr ne ↦
                let apart : is_eq (nat_cmp q e.0) ≡ false =
                sym (unsigned_ties q e.0) ∙ ne_eqb q e.0 ne in
                let new : IsNew q ss =
                subst (λ o. MatchOption o (IsNew q ss) (IsLast q ss))
                (sym (found q) ∙ ap (λ b. cond b (Some e.1) None) apart) (is_last q ss) in
                absurd (new i s h refl)
          ],
    )

-- and the other way round
one_service : (number : ℕ) (s : Service) (ss : List Service) → HaveNumber number (s ∷ ss)
    → services_in (s ∷ ss) ≡ 1
one_service number s [] have = refl
one_service number s (t ∷ ss) have =
    let rest = All-tail (λ (x : Service). x.line.number ≡ number) s (t ∷ ss) have in
    let same : eqb s.line.number t.line.number ≡ true = eq-eqb s.line.number t.line.number
    (All-head (λ (x : Service). x.line.number ≡ number) s (t ∷ ss) have
    ∙ sym (All-head (λ (x : Service). x.line.number ≡ number) t ss rest)) in
    rw same (one_service number t ss rest)

last_push : (ns : List ℕ) (n q : ℕ)
    → last_of (ns ++ n ∷ []) q ≡ cond (q == n) (Some (length ns)) (last_of ns q)
last_push [] n q = refl
last_push (m ∷ ns) n q =
    ap (λ (o : Option ℕ). option_or (option_map suc o) (if q == m then Some 0 else None))
    (last_push ns n q)
    ∙ cases (q == n) (last_of ns q)
  where
    cases : (b : Bool) (found : Option ℕ)
        → option_or (option_map suc (cond b (Some (length ns)) found))
        (if q == m then Some 0 else None)
        ≡ cond b (Some (suc (length ns)))
        (option_or (option_map suc found) (if q == m then Some 0 else None))
    cases true found = refl
    cases false found = refl

-- one service more
pub numbers_push : (old new : BTreeMap ℕ ℕ) (ss : List Service) (t : Service) → AreNumbers old ss
    → UpdatesBy nat_cmp (nat_cmp t.line.number) old new (Some (length ss))
    → AreNumbers new (ss ++ t ∷ [])
numbers_push old new ss t are puts q =
    let here : is_eq (nat_cmp t.line.number q) ≡ (q == t.line.number) =
    sym (unsigned_ties t.line.number q) ∙ nat_eq_equiv.symm t.line.number q in
    let old_at = are q in
    let long = length-map ss (λ (s : Service). s.line.number) in
    let last = last_push (numbers_in ss) t.line.number q in
    let all = ap (λ ns. last_of ns q) (map-append (λ (s : Service). s.line.number) ss (t ∷ [])) in
    let found = puts.0 q in cc

-- the services, the last of which is new
pub numbers_added : (old new : BTreeMap ℕ ℕ) (ss : List Service) (known number : ℕ) (d : Service)
    → known < length ss → length ss ≤ known + 1 → d ≡ get_or ss known d
    → number ≡ d.line.number → AreNumbers old (take known ss)
    → UpdatesBy nat_cmp (nat_cmp number) old new (Some known) → AreNumbers new ss
numbers_added old new ss known number d within one is own are puts =
    let long : length (take known ss) ≡ known = length-take-le known ss (omega arith) in
    let all : take known ss ++ d ∷ [] ≡ ss =
    ap (λ (x : Service). take known ss ++ x ∷ []) is
    ∙ (sym (take-suc ss known d within) ∙ take_all (suc known) ss (omega arith)) in
    subst (AreNumbers new) all
    (numbers_push old new (take known ss) d are
    (subst (λ n. UpdatesBy nat_cmp (nat_cmp n) old new (Some (length (take known ss)))) own
    (subst (λ n. UpdatesBy nat_cmp (nat_cmp number) old new (Some n)) (sym long) puts)))

-- where they have one number, all services are one
pub none_named : (ss : List Service) → ¬ (services_in ss ≡ 1) → IsNameless None ss
none_named [] more at s named = let bars = named.there in absurd (cc)
none_named (t ∷ ss) more at s named =
    elim named.named as (λ _. ⊥) [
      | inl same ↦ absurd (cc)
      | inr all ↦ more (one_service s.line.number t ss all.1)
    ]

-- where there is one number, the last service is named
pub last_named : (m : BTreeMap ℕ ℕ) (ss : List Service) → IsOrdered nat_cmp m → AreNumbers m ss
    → length m.entries ≡ 1 → (0 < length ss) × ((s : Service) × IsNamed None ss (length ss - 1) s)
last_named m [] ordered are single = absurd (omega (arith, count_numbers m [] ordered are))
last_named m (t ∷ ss) ordered are single =
    let all = t ∷ ss in
    let one = one_number m all are single in
    let last = length all - 1 in
    let s = get_within all last (omega arith) in
    let own = all_get (λ (x : Service). x.line.number ≡ one.0) all last s.0 one.1 s.1 in (
      omega arith,
      (
        s.0,
        record {
          there = s.1;
          named = inr (refl, subst (λ n. HaveNumber n all) (sym own) one.1);
          last = λ later u less there.
              absurd (omega (arith, slice_get_within all later u there));
        },
      ),
    )

-- there is one, where there is any
pub some_service : (ss : List Service) → 0 < length ss → 0 < services_in ss
some_service [] some = absurd (omega arith)
some_service (s ∷ []) some = omega arith
some_service (s ∷ t ∷ ss) some =
    let rest = some_service (t ∷ ss) (omega arith) in
    cases (list_any (eqb (number_of s)) (map (λ (x : Service). x.line.number) (t ∷ ss))) rest
  where
    cases : (b : Bool) → 0 < services_in (t ∷ ss)
        → 0 < length (cond b (unique_keys eqb (map (λ (x : Service). x.line.number) (t ∷ ss)))
        (number_of s ∷ unique_keys eqb (map (λ (x : Service). x.line.number) (t ∷ ss))))
    cases true rest = rest
    cases false rest = omega arith

-- what is put back leaves all as they were
pub set_back : (ss : List Service) (at : ℕ) (s : Service) → slice_get ss at ≡ Some s
    → slice_set ss at s ≡ ss
set_back [] at s there = absurd (cc)
set_back (x ∷ ss) zero s there = ap (λ (y : Service). y ∷ ss) (sym (same_Some x s there))
set_back (x ∷ ss) (suc at) s there =
    ap (λ (l : List Service). x ∷ l) (set_back ss at s there)

-- services at each index of which a function gives the same
pub map_same : {Y : Type 0} (f : Service → Y) (ss ts : List Service) → length ts ≡ length ss
    → ((at : ℕ) (s t : Service) → slice_get ss at ≡ Some s → slice_get ts at ≡ Some t → f t ≡ f s)
    → map f ts ≡ map f ss
map_same f [] [] long same = refl
map_same f [] (t ∷ ts) long same = absurd (omega arith)
map_same f (s ∷ ss) [] long same = absurd (omega arith)
map_same {Y} f (s ∷ ss) (t ∷ ts) long same =
    let rest = map_same f ss ts (omega arith) (λ at a b e g. same (suc at) a b e g) in
    ap (λ (y : Y). y ∷ map f ts) (same 0 s t refl refl) ∙ ap (λ (ys : List Y). f s ∷ ys) rest

pub same_numbers : (m : BTreeMap ℕ ℕ) (ss ts : List Service) → numbers_in ts ≡ numbers_in ss
    → AreNumbers m ss → AreNumbers m ts
same_numbers m ss ts same are number = are number ∙ ap (λ ns. last_of ns number) (sym same)

-- another service with the same line is in the place of one
pub numbers_set : (ss : List Service) (at : ℕ) (s t : Service) → slice_get ss at ≡ Some s
    → t.line ≡ s.line → numbers_in (slice_set ss at t) ≡ numbers_in ss
numbers_set [] at s t there line = absurd (cc)
numbers_set (x ∷ ss) zero s t there line =
    ap (λ (l : ServiceLine). l.number ∷ numbers_in ss)
    (line ∙ ap (λ (y : Service). y.line) (sym (same_Some x s there)))
numbers_set (x ∷ ss) (suc at) s t there line =
    ap (λ ns. x.line.number ∷ ns) (numbers_set ss at s t there line)
