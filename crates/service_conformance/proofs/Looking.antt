-- What weak listings lack after they have looked.
use Rattle.service_conformance.proofs.Names.{All, All-head, All-tail, AllByRecursion, Bool, Err, List, None, Ok, OnErr, OnOk, Option, Result, Some, [], and_parts, ap, cases_Bool, cons_option, eqb-true, false, filter, filter_map-append, filter_passes, get_or, inl, inr, length, nil_from_length, not, refl, same_Some, subst, sym, take, take_more, true, ℕ, ◌&&◌, ◌++◌, ◌+◌, ◌<◌, ◌==◌, ◌∙◌, ◌∷◌, ◌≡◌, ◌⊎◌, IsWatched, Look, Part, Service, Watched, ids_in, is_among, lacking, look_after, looks_after, without, Contains, arith, suc, zero, not-not, ◌↔◌, IsThere, WeakListingsSeeEnough, look_of, All-nil, All-cons, append-nil, eq-eqb, ◌≢◌}
use Rattle.std.proofs.lemmas.List.Elements.{filter-append}
use Rattle.service_conformance.specs.Looks.{LacksNothing}
use Rattle.service_conformance.specs.Laws.{LooksAt, SeesEnough}
use Rattle.service_conformance.specs.Laws.LooksAt.{beside, no_more, sees}
use Rattle.std.proofs.lemmas.Map.Views.{any-filter_same}
use Rattle.service_conformance.proofs.Possibles.{not_both}

-- those of the weak listings that lack something after services, one after the other
abbrev looks_through : List Service → List Look → List Look
looks_through [] looks = looks
looks_through (s ∷ services) looks = looks_through services (looks_after s looks)

pub by_cases : (P : Type 0) (b : Bool) → (b ≡ true → P) → (b ≡ false → P) → P
by_cases P true then_so else_so = then_so refl
by_cases P false then_so else_so = else_so refl

pub empty_of : (ids : List ℕ) → (length ids == 0) ≡ true → ids ≡ []
empty_of ids e = nil_from_length ids (eqb-true (length ids) 0 e)

-- a test that holds, or says what a later one says, changes nothing
filter_again : {X : Type 0} (one other : X → Bool) (xs : List X)
    → All (λ x. (one x ≡ true) ⊎ (one x ≡ other x)) xs
    → filter other (filter one xs) ≡ filter other xs
filter_again one other [] all = refl
filter_again {X} one other (x ∷ xs) all =
    let Q : X → Type 0 = λ x. (one x ≡ true) ⊎ (one x ≡ other x) in
    let rest = filter_again one other xs (All-tail Q x xs all) in
    by_cases _ (one x)
    (λ t. by_cases _ (other x) (λ a. rw t (rw a (ap (λ (l : List X). x ∷ l) rest)))
    (λ n. rw t (rw n rest)))
    (λ f. elim (All-head Q x xs all) [
      | inl t ↦ absurd (let z : true ≡ false = sym t ∙ f in cc)
      | inr same ↦ (let n : other x ≡ false = sym same ∙ f in rw f (rw n rest))
    ])

-- a weak listing after these ids were there
abbrev pub seen_of : List ℕ → Look → Look
seen_of there look = record look {
  unseen = without there look.unseen;
  lasting = filter (is_among there) look.lasting;
}

same_seen : (there : List ℕ) (l : Look) → seen_of there (seen_of there l) ≡ seen_of there l
same_seen there l = grind (arith, filter_again)

pub lacking_is : (l m : Look) → lacking l ≡ Some m → l ≡ m
lacking_is l m e = grind (arith, cases_Bool, same_Some)

-- a weak listing that lacks nothing lacks nothing later
none_later : (there : List ℕ) (l : Look) → lacking l ≡ None → look_after there l ≡ None
none_later there l e = grind (arith, by_cases, and_parts, empty_of)

-- the weak listing lacks the same later, whether it looks at this service before or not
abbrev IsPassed : Service → Service → Look → Type 0
IsPassed mid new l =
    seen_of (ids_in new l.part) (seen_of (ids_in mid l.part) l) ≡ seen_of (ids_in new l.part) l

looks_pass : (mid new : Service) (looks : List Look) → AllByRecursion (IsPassed mid new) looks
    → looks_after new (looks_after mid looks) ≡ looks_after new looks
looks_pass mid new [] all = refl
looks_pass mid new (l ∷ looks) all =
    cases (looks_pass mid new looks all.1) (look_after (ids_in mid l.part) l) refl
  where
    again : looks_after new (looks_after mid looks) ≡ looks_after new looks → (o : Option Look)
        → cons_option o (looks_after new (looks_after mid looks))
        ≡ cons_option o (looks_after new looks)
    again rest o = ap (cons_option o) rest

    cases : looks_after new (looks_after mid looks) ≡ looks_after new looks → (o : Option Look)
        → look_after (ids_in mid l.part) l ≡ o
        → looks_after new (looks_after mid (l ∷ looks)) ≡ looks_after new (l ∷ looks)
    cases rest None is =
        let none : look_after (ids_in new l.part) l ≡ None =
        ap lacking (sym all.0)
        ∙ none_later (ids_in new l.part) (seen_of (ids_in mid l.part) l) is in
        rw is (rw none rest)
    cases rest (Some m) is =
        let same : look_after (ids_in new m.part) m ≡ look_after (ids_in new l.part) l =
        subst (λ (x : Look). look_after (ids_in new x.part) x ≡ look_after (ids_in new l.part) l)
        (lacking_is (seen_of (ids_in mid l.part) l) m is) (ap lacking all.0) in
        rw is (rw same (again rest (look_after (ids_in new l.part) l)))

pub looks_twice : (s : Service) (looks : List Look)
    → looks_after s (looks_after s looks) ≡ looks_after s looks
looks_twice s looks = looks_pass s s looks (each looks)
  where
    each : (looks : List Look) → AllByRecursion (IsPassed s s) looks
    each [] = tt
    each (l ∷ looks) = (same_seen (ids_in s l.part) l, each looks)

-- one weak listing more
looks_more : (s : Service) (a b : List Look)
    → looks_after s (a ++ b) ≡ looks_after s a ++ looks_after s b
looks_more s a b = filter_map-append (λ (l : Look). look_after (ids_in s l.part) l) a b

started_is : (w : Watched) (l : Look) → IsWatched w
    → looks_after w.service (w.looks ++ looks_after w.service (l ∷ []))
    ≡ w.looks ++ looks_after w.service (l ∷ [])
started_is w l is =
    looks_more w.service w.looks (looks_after w.service (l ∷ []))
    ∙ (ap (λ (x : List Look). x ++ looks_after w.service (looks_after w.service (l ∷ []))) is
    ∙ ap (λ (x : List Look). w.looks ++ x) (looks_twice w.service (l ∷ [])))

pub start_kept : {U E : Type 0} (w : Watched) (l : Look) (r : Result U E) (new : List Look)
    → IsWatched w → OnOk r (new ≡ w.looks ++ looks_after w.service (l ∷ []))
    → OnErr r (new ≡ w.looks) → IsWatched (record w { looks = new })
start_kept w l (Ok u) new is ok err =
    subst (λ (x : List Look). looks_after w.service x ≡ x) (sym ok) (started_is w l is)
start_kept w l (Err e) new is ok err =
    subst (λ (x : List Look). looks_after w.service x ≡ x) (sym err) is

pub looks_next : (s : Service) (looks : List Look) (i : ℕ) (d : Look) (left new : List Look)
    → i < length looks → d ≡ get_or looks i d → left ≡ looks_after s (take i looks)
    → new ≡ left ++ looks_after s (d ∷ []) → new ≡ looks_after s (take (i + 1) looks)
looks_next s looks i d left new h is before more =
    let whole : take (i + 1) looks ≡ take i looks ++ d ∷ [] =
    take_more looks i d h ∙ ap (λ (e : Look). take i looks ++ e ∷ []) (sym is) in
    more
    ∙ (ap (λ (l : List Look). l ++ looks_after s (d ∷ [])) before
    ∙ sym (ap (looks_after s) whole ∙ looks_more s (take i looks) (d ∷ [])))

-- each id is there in the service between two others as in one of them
abbrev pub IsBetween : Service → Service → Service → Type 0
IsBetween old mid new =
    (p : Part) (id : ℕ)
    → (is_among (ids_in mid p) id ≡ is_among (ids_in old p) id)
    ⊎ (is_among (ids_in mid p) id ≡ is_among (ids_in new p) id)

module _ (old mid new : Service) (between : IsBetween old mid new) where
  filter_between : (before one other : ℕ → Bool) (ids : List ℕ)
      → ((id : ℕ) → (one id ≡ before id) ⊎ (one id ≡ other id)) → filter before ids ≡ ids
      → filter other (filter one ids) ≡ filter other ids
  filter_between before one other ids either e = grind (arith, filter_passes, filter_again)

  seen_between : (l : Look) → seen_of (ids_in old l.part) l ≡ l → IsPassed mid new l
  seen_between l is =
      let p = l.part in
      let unseen : without (ids_in new p) (without (ids_in mid p) l.unseen)
      ≡ without (ids_in new p) l.unseen =
      filter_between (λ id. not (is_among (ids_in old p) id))
      (λ id. not (is_among (ids_in mid p) id)) (λ id. not (is_among (ids_in new p) id)) l.unseen
      (λ id. elim (between p id) [ inl e ↦ inl (ap not e) | inr e ↦ inr (ap not e) ])
      (ap (λ (x : Look). x.unseen) is) in
      let lasting : filter (is_among (ids_in new p)) (filter (is_among (ids_in mid p)) l.lasting)
      ≡ filter (is_among (ids_in new p)) l.lasting =
      filter_between (is_among (ids_in old p)) (is_among (ids_in mid p)) (is_among (ids_in new p))
      l.lasting (between p) (ap (λ (x : Look). x.lasting) is) in
      rw (unseen, lasting) refl

  all_between : (looks : List Look) → AllByRecursion (IsPassed mid new) (looks_after old looks)
  all_between [] = tt
  all_between (l ∷ looks) = cases (all_between looks) (look_after (ids_in old l.part) l) refl
    where
      cases : AllByRecursion (IsPassed mid new) (looks_after old looks) → (o : Option Look)
          → look_after (ids_in old l.part) l ≡ o
          → AllByRecursion (IsPassed mid new) (looks_after old (l ∷ looks))
      cases rest None is = rw is rest
      cases rest (Some m) is =
          let seen : seen_of (ids_in old m.part) m ≡ m =
          subst (λ (x : Look). seen_of (ids_in old x.part) x ≡ x)
          (lacking_is (seen_of (ids_in old l.part) l) m is) (same_seen (ids_in old l.part) l) in
          rw is (seen_between m seen, rest)

  -- they lack the same as if they had not looked
  pub looks_between : (looks : List Look) → looks_after old looks ≡ looks
      → looks_after new (looks_after mid looks) ≡ looks_after new looks
  looks_between looks e = grind (arith, looks_pass, all_between)

-- no id came
abbrev pub LosesIds : Service → Service → Type 0
LosesIds old new =
    (p : Part) (id : ℕ) → is_among (ids_in new p) id ≡ true → is_among (ids_in old p) id ≡ true

pub loses_between : (old mid new : Service) → LosesIds old mid → LosesIds mid new
    → IsBetween old mid new
loses_between old mid new first second p id = grind (arith, by_cases)

-- a service at which an id is settled
abbrev Settles : (Service → ℕ → Bool) → List Service → ℕ → Type 0
Settles Test services id = (s : Service) × Contains services s × (Test s id ≡ true)

module _ (Test : Service → ℕ → Bool) (s : Service) (services : List Service) where
  later : (id : ℕ) → Settles Test services id → Settles Test (s ∷ services) id
  later id (x, (k, h, is), t) = (x, (suc k, omega (arith, h), is), t)

  not_first : (id : ℕ) → Test s id ≡ false → Settles Test (s ∷ services) id
      → Settles Test services id
  not_first id f (x, (zero, h, is), t) =
      absurd (not_both (Test s id) (ap (λ y. Test y id) is ∙ t) f)
  not_first id f (x, (suc k, h, is), t) = (x, (k, omega (arith, h), is), t)

  -- ids are settled exactly where those are that the first service does not settle
  settled_rest : (ids : List ℕ) → AllByRecursion (Settles Test (s ∷ services)) ids
      → AllByRecursion (Settles Test services) (filter (λ id. not (Test s id)) ids)
  settled_rest [] all = tt
  settled_rest (id ∷ ids) all = grind (arith, by_cases, not_first, settled_rest ids all.1)

  rest_settled : (ids : List ℕ)
      → AllByRecursion (Settles Test services) (filter (λ id. not (Test s id)) ids)
      → AllByRecursion (Settles Test (s ∷ services)) ids
  rest_settled [] all = tt
  rest_settled (id ∷ ids) all =
      by_cases _ (Test s id)
      (λ t. ((s, (0, omega arith, refl), t), rest_settled ids (rw t at all)))
      (λ f. let both = rw f at all in (later id both.0, rest_settled ids both.1))

none_settled : (Test : Service → ℕ → Bool) (ids : List ℕ)
    → AllByRecursion (Settles Test []) ids → ids ≡ []
none_settled Test [] all = refl
none_settled Test (id ∷ ids) all = absurd (omega (arith, all.0.1.1))

abbrev was_there : Part → Service → ℕ → Bool
was_there p s id = is_among (ids_in s p) id

abbrev was_away : Part → Service → ℕ → Bool
was_away p s id = not (is_among (ids_in s p) id)

twice_not : (test : ℕ → Bool) (ids : List ℕ)
    → filter test ids ≡ filter (λ i. not (not (test i))) ids
twice_not test ids = λ i. filter (λ id. sym (not-not (test id)) i) ids

looks_none : (services : List Service) → looks_through services [] ≡ []
looks_none [] = refl
looks_none (s ∷ services) = looks_none services

-- all ids of a weak listing are settled
record AreSettled (services : List Service) (l : Look) : Type 0 where
  pub unseen : AllByRecursion (Settles (was_there l.part) services) l.unseen
  pub lasting : AllByRecursion (Settles (was_away l.part) services) l.lasting

module _ (s : Service) (l : Look) where
  abbrev next : Look
  next = seen_of (ids_in s l.part) l

  abbrev is_over : Bool
  is_over = length next.unseen == 0 && length next.lasting == 0

  module _ (services : List Service) where
    next_settled : AreSettled services next → AreSettled (s ∷ services) l
    next_settled so = grind (arith, rest_settled, twice_not)

    settled_next : AreSettled (s ∷ services) l → AreSettled services next
    settled_next so = grind (arith, settled_rest, twice_not)

    over_settled : is_over ≡ true → AreSettled services next
    over_settled t = grind (arith, and_parts, empty_of)

  settled_over : AreSettled [] next → is_over ≡ true
  settled_over so = grind (arith, none_settled)

  one_next : is_over ≡ false → looks_after s (l ∷ []) ≡ next ∷ []
  one_next f = rw f refl

  none_next : is_over ≡ true → looks_after s (l ∷ []) ≡ []
  none_next t = rw t refl

-- a weak listing lacks nothing exactly where all its ids are settled
through : (s : Service) (services : List Service) (l : Look)
    → (looks_through (s ∷ services) (l ∷ []) ≡ []) ↔ AreSettled (s ∷ services) l
through s [] l =
    by_cases _ (is_over s l)
    (λ t. (λ e. next_settled s l [] (over_settled s l [] t), λ so. none_next s l t)) (λ f. (
      λ e. (let bars : next s l ∷ [] ≡ [] = sym (one_next s l f) ∙ e in absurd (cc)),
      λ so. absurd (not_both (is_over s l) (settled_over s l (settled_next s l [] so)) f),
    ))
through s (x ∷ more) l =
    by_cases _ (is_over s l) (λ t. (
      λ e. next_settled s l (x ∷ more) (over_settled s l (x ∷ more) t),
      λ so. ap (λ (o : List Look). looks_through (x ∷ more) o) (none_next s l t)
          ∙ looks_none (x ∷ more),
    )) (λ f.
    let rest = through x more (next s l) in
    let same = ap (λ (o : List Look). looks_through (x ∷ more) o) (one_next s l f) in (
      λ e. next_settled s l (x ∷ more) (rest.0 (sym same ∙ e)),
      λ so. same ∙ rest.1 (settled_next s l (x ∷ more) so),
    ))

one_of : (P : ℕ → Type 0) (ids : List ℕ) (id : ℕ) → AllByRecursion P ids
    → is_among ids id ≡ true → P id
one_of P [] id all here = absurd (cc)
one_of P (x ∷ ids) id all here = grind (arith, by_cases, eqb-true, one_of P ids id all.1)

-- an id of a list that is not in the reply is among those of the list without the reply
kept_one : (P : ℕ → Type 0) (reply ids : List ℕ) (id : ℕ) → AllByRecursion P (without reply ids)
    → is_among ids id ≡ true → is_among reply id ≡ false → P id
kept_one P reply ids id all here away =
    one_of P (without reply ids) id all
    (any-filter_same (λ i. i == id) (λ i. not (is_among reply i)) true
    (λ k e. ap (λ i. not (is_among reply i)) (eqb-true k id e) ∙ ap not away) ids ∙ here)

kept_all : (P : ℕ → Type 0) (reply ids : List ℕ) → ((id : ℕ) → is_among reply id ≡ false → P id)
    → AllByRecursion P (without reply ids)
kept_all P reply [] each = tt
kept_all P reply (x ∷ ids) each = grind (arith, by_cases, kept_all P reply ids each)

-- an id is there in all, or away in one
there_or_away : (p : Part) (id : ℕ) (services : List Service)
    → AllByRecursion (IsThere p id) services ⊎ Settles (was_away p) services id
there_or_away p id [] = inl tt
there_or_away p id (s ∷ services) =
    let rest = there_or_away p id services in
    by_cases _ (is_among (ids_in s p) id) (λ t. more rest t)
    (λ f. inr (s, (0, omega arith, refl), rw f refl))
  where
    more : AllByRecursion (IsThere p id) services ⊎ Settles (was_away p) services id
        → is_among (ids_in s p) id ≡ true
        → AllByRecursion (IsThere p id) (s ∷ services) ⊎ Settles (was_away p) (s ∷ services) id
    more (inl all) t = inl (t, all)
    more (inr one) t = inr (one.0, (suc one.1.0, omega (arith, one.1.1), one.1.2), one.2)

all_there : (p : Part) (id : ℕ) (services : List Service) (s : Service)
    → AllByRecursion (IsThere p id) services → Contains services s → is_among (ids_in s p) id ≡ true
all_there p id [] s all (k, h, is) = absurd (omega (arith, h))
all_there p id (x ∷ services) s all (zero, h, is) =
    subst (λ y. is_among (ids_in y p) id ≡ true) is all.0
all_there p id (x ∷ services) s all (suc k, h, is) =
    all_there p id services s all.1 (k, omega (arith, h), is)

enough_alone : (number : ℕ) (p : Part) (reply : List ℕ) (first : Service) (others : List Service)
    → (looks_through (first ∷ others) (look_of number p reply first ∷ []) ≡ [])
    ↔ SeesEnough p reply (first ∷ others)
enough_alone number p reply first others =
    let services = first ∷ others in
    let l = look_of number p reply first in
    let Away = Settles (was_away p) services in (
      λ none.
          let n = (through first others l).0 none in
          record {
            seen = n.unseen;
            lasting = λ id all. by_cases _ (is_among reply id) (λ t. t) (λ f.
                let one = kept_one Away reply (ids_in first p) id n.lasting all.0 f in
                let here = all_there p id services one.0 all one.1 in
                absurd (not_both (not (is_among (ids_in one.0 p) id)) one.2 (ap not here)));
          },
      λ so. (through first others l).1 (record {
        unseen = so.seen;
        lasting = kept_all Away reply (ids_in first p) (λ id f.
            elim (there_or_away p id services) [
              | inl all ↦ absurd (not_both (is_among reply id) (so.lasting id all) f)
              | inr away ↦ away
            ]);
      }),
    )

-- of the weak listings those with this number
module _ (number : ℕ) where
  abbrev is_own : Look → Bool
  is_own l = l.number == number

  abbrev own : List Look → List Look
  own looks = filter is_own looks

  abbrev IsOther : Look → Type 0
  IsOther l = l.number ≢ number

  not_own : (l : Look) → IsOther l → is_own l ≡ false
  not_own l other =
      by_cases _ (is_own l) (λ t. absurd (other (eqb-true l.number number t))) (λ f. f)

  own_none : (looks : List Look) → LacksNothing looks number → own looks ≡ []
  own_none [] all = refl
  own_none (l ∷ looks) all =
      rw (not_own l (All-head IsOther l looks all))
      (own_none looks (All-tail IsOther l looks all))

  none_own : (looks : List Look) → own looks ≡ [] → LacksNothing looks number
  none_own [] e = All-nil IsOther
  none_own (l ∷ looks) e =
      by_cases _ (is_own l) (λ t. absurd (let bars : l ∷ own looks ≡ [] = rw t at e in cc))
      (λ f. All-cons IsOther l looks
      (λ same. not_both (is_own l) (eq-eqb l.number number same) f)
      (none_own looks (rw f at e)))

  own_after : (s : Service) (looks : List Look)
      → own (looks_after s looks) ≡ looks_after s (own looks)
  own_after s [] = refl
  own_after s (l ∷ looks) = cases (own_after s looks) (look_after (ids_in s l.part) l) refl
    where
      cases : own (looks_after s looks) ≡ looks_after s (own looks) → (o : Option Look)
          → look_after (ids_in s l.part) l ≡ o
          → own (looks_after s (l ∷ looks)) ≡ looks_after s (own (l ∷ looks))
      cases rest None is =
          by_cases _ (is_own l) (λ t. rw is (rw t (rw is rest))) (λ f. rw is (rw f rest))
      cases rest (Some m) is =
          let same : is_own m ≡ is_own l =
          ap is_own (sym (lacking_is (seen_of (ids_in s l.part) l) m is)) in
          by_cases _ (is_own l)
          (λ t. rw is (rw (same ∙ t) (rw t (rw is (ap (λ (x : List Look). m ∷ x) rest)))))
          (λ f. rw is (rw (same ∙ f) (rw f rest)))

  own_through : (services : List Service) (looks new : List Look)
      → LooksAt number services looks new → own new ≡ looks_through services (own looks)
  own_through services looks new (no_more x) = refl
  own_through services looks new (sees s more x y run) =
      own_through more _ _ run
      ∙ ap (λ (l : List Look). looks_through more l) (own_after s looks)
  own_through services looks new (beside more l x y other run) =
      own_through more _ _ run
      ∙ ap (λ (l : List Look). looks_through more l)
      (filter-append is_own looks (l ∷ [])
      ∙ (rw (not_own l other) (append-nil (own looks))))

pub enough : WeakListingsSeeEnough
enough number p reply first services others new alone run =
    let l = look_of number p reply first in
    let looks = looks_after first (l ∷ []) in
    let one : own number (l ∷ []) ≡ l ∷ [] = rw (eq-eqb number number refl) refl in
    let start : own number (others ++ looks) ≡ looks =
    filter-append (is_own number) others looks
    ∙ (ap (λ (x : List Look). x ++ own number looks) (own_none number others alone)
    ∙ (own_after number first (l ∷ []) ∙ ap (looks_after first) one)) in
    let whole : own number new ≡ looks_through (first ∷ services) (l ∷ []) =
    own_through number services (others ++ looks) new run
    ∙ ap (λ (x : List Look). looks_through services x) start in
    let is = enough_alone number p reply first services in (
      λ none. is.0 (sym whole ∙ own_none number new none),
      λ so. none_own number new (whole ∙ is.1 so),
    )
