-- How many values a key has in a caller's pairs, and the answer on what a set lacks, said of its
-- listing.
use Rattle.iox2sd_values.proofs.Prelude.{Attribute, Bool, IsListing, IsPermutation, IsPermutation-map, IsPermutation-sym, IsPermutation-trans, IsSorted, List, MakesOneSet, Pair, [], ap, arith, cond, count_by, false, filter, get_or-map, has_key, length, length-map, length_permutation, map, pair_cmp, pair_of, refl, subst, sum_by-IsPermutation, sym, take, true, values_of, ℕ, ◌++◌, ◌+◌, ◌<◌, ◌∙◌, ◌∷◌, ◌≡◌, Any, Contains, Contains-Any, Contains-permutation, ContainsKey, Err, Judges, Misses-map, Misses-same, None, Ok, Option, ReportsOf, Some, get_or, get_or_default, get_or_from_slice_get, key_fault, least_missing, place_answer, text_of, ◌↔◌}
use Rattle.std.proofs.Math.Seq.{take-append_seam}
use Rattle.std.proofs.lemmas.List.Recursion.{is_count_by}
use Rattle.std.proofs.lemmas.List.Sums.{length-filter}
use Rattle.iox2_texts.proofs.ListingLemmas.{listing_unique}
use Rattle.std.proofs.Math.ListN.{get_or-map as get_or-mapped}
use Rattle.iox2_texts.specs.Verify.{Finds, IsFirst, Misses}
use Rattle.iox2_texts.specs.declared.attribute.verifier.AttributeVerificationError.TheVariants.{NonExistingKey, IncompatibleAttribute}
use Rattle.iox2sd_common.specs.declared.answers.PlaceAnswer.{PlaceAnswer}
use Rattle.iox2sd_common.specs.declared.status.Status.TheVariants as status
use Rattle.iox2sd_values.specs.declared.attributes.Key.{Key}

abbrev value_of : Pair → List ℕ
value_of pair = pair.value

one_more : (p : Pair) (ps : List Pair) (b : Bool) → length (map value_of (cond b (p ∷ ps) ps))
    ≡ cond b (1 + length (map value_of ps)) (length (map value_of ps))
one_more p ps true = omega arith
one_more p ps false = refl

-- as many as there are pairs with the key
pub counted : (key : List ℕ) (pairs : List Attribute)
    → length (values_of (map pair_of pairs) key) ≡ count_by (λ a. has_key key (pair_of a)) pairs
counted key pairs =
    is_count_by (λ xs. length (values_of (map pair_of xs) key)) (λ a. has_key key (pair_of a)) refl
    (λ x xs. one_more (pair_of x) (filter (has_key key) (map pair_of xs)) (has_key key (pair_of x)))
    pairs

-- as many as in a listing of the pairs
pub as_in_listing : (key : List ℕ) (pairs set : List Pair) → IsListing pairs set
    → length (values_of set key) ≡ length (values_of pairs key)
as_in_listing key pairs set listing =
    length-map _ _ ∙ length-filter (has_key key) set
    ∙ sum_by-IsPermutation (λ p. cond (has_key key p) 1 0) pairs set listing.0
    ∙ sym (length-map _ _ ∙ length-filter (has_key key) pairs)

-- the set that is made of the pairs is one
pub the_set : (pairs xs ys : List Pair) → IsListing pairs xs → IsListing pairs ys → xs ≡ ys
the_set pairs xs ys one other =
    listing_unique xs ys one.1 other.1
    (IsPermutation-trans xs pairs ys (IsPermutation-sym pairs xs one.0) other.0)

-- pairs that rise are a listing of them
pub rise : (xs : List Attribute) → IsSorted (λ a b. pair_cmp (pair_of a) (pair_of b)) xs
    → IsSorted pair_cmp (map pair_of xs)
rise [] rises = λ k d low high. absurd (omega (arith, high))
rise (x ∷ xs) rises = λ k d low high.
    let inside : k + 1 < length (x ∷ xs) = omega (arith, high, length-map (x ∷ xs) pair_of) in
    let below : k < length (x ∷ xs) = omega (arith, inside) in
    rw (get_or-map pair_of (x ∷ xs) (k + 1) x d inside, get_or-map pair_of (x ∷ xs) k x d below)
    (rises k x low inside)

-- pairs that were sorted are a listing of them
listed : (pairs sorted : List Attribute) → IsPermutation pairs sorted
    → IsSorted (λ a b. pair_cmp (pair_of a) (pair_of b)) sorted
    → IsListing (map pair_of pairs) (map pair_of sorted)
listed pairs sorted order rises =
    (IsPermutation-map pair_of pairs sorted order, rise sorted rises)

-- and the set that they make
pub one_set : (pairs sorted : List Attribute) → IsPermutation pairs sorted
    → IsSorted (λ a b. pair_cmp (pair_of a) (pair_of b)) sorted
    → MakesOneSet pairs (map pair_of sorted)
one_set pairs sorted order rises =
    let is = listed pairs sorted order rises in
    (is, λ other made. the_set (map pair_of pairs) other (map pair_of sorted) made is)

-- sorted copies of pairs, at the front of a list, are a listing of them
pub sorts : (pairs copies sorted rest : List Attribute) → copies ≡ pairs
    → IsPermutation copies sorted
    → IsSorted (λ a b. pair_cmp (pair_of a) (pair_of b)) sorted
    → IsListing (map pair_of pairs) (map pair_of (take (length pairs) (sorted ++ rest)))
sorts pairs copies sorted rest same order rises =
    let ordered = subst (λ l. IsPermutation l sorted) same order in
    let as_long : length sorted ≡ length pairs = length_permutation pairs sorted ordered in
    let front : take (length pairs) (sorted ++ rest) ≡ sorted =
    ap (λ n. take n (sorted ++ rest)) (sym as_long) ∙ take-append_seam sorted rest in
    rw front (listed pairs sorted ordered rises)

-- what holds of some pair holds of some in another order
any_moved : (P : Pair → Type 0) (xs ys : List Pair) → IsPermutation xs ys → Any P xs → Any P ys
any_moved P xs ys order some =
    let there = Contains-permutation xs ys some.1 order (some.0, some.2, some.3) in
    (there.0, some.1, there.1, there.2, some.4)

-- and of some element of which it is made
any_made : (P : Pair → Type 0) (xs : List Attribute) → Any (λ a. P (pair_of a)) xs
    → Any P (map pair_of xs)
any_made P xs some =
    let (k, a, inside, is, holds) = some in (
      k,
      pair_of a,
      omega (arith, inside, length-map xs pair_of),
      get_or-mapped pair_of xs k a ∙ ap pair_of is,
      holds,
    )

any_maker : (P : Pair → Type 0) (xs : List Attribute) → Any P (map pair_of xs)
    → Any (λ a. P (pair_of a)) xs
any_maker P [] some = absurd (omega (arith, some.2))
any_maker P (x ∷ xs) some =
    let (k, p, inside, is, holds) = some in
    let within : k < length (x ∷ xs) = omega (arith, inside, length-map (x ∷ xs) pair_of) in
    let a = get_or (x ∷ xs) k x in
    let same : p ≡ pair_of a =
    sym is ∙ get_or_default (map pair_of (x ∷ xs)) k p (pair_of x) inside
    ∙ get_or-mapped pair_of (x ∷ xs) k x in
    (k, a, within, get_or_default (x ∷ xs) k a x within, subst P same holds)

-- some element has the property exactly where one has it of the pairs in another order
any_in : (P : Pair → Type 0) (xs : List Attribute) (pairs : List Pair)
    → IsPermutation (map pair_of xs) pairs → Any (λ a. P (pair_of a)) xs ↔ Any P pairs
any_in P xs pairs order = (
  λ some. any_moved P (map pair_of xs) pairs order (any_made P xs some),
  λ some. any_maker P xs
      (any_moved P pairs (map pair_of xs) (IsPermutation-sym (map pair_of xs) pairs order) some),
)

-- what is made of the element at an index
made_at : (xs : List Attribute) (i : ℕ) (d : Attribute) → i < length xs
    → get_or (map pair_of xs) i (pair_of (get_or xs i d)) ≡ pair_of (get_or xs i d)
made_at xs i d inside =
    let within : i < length (map pair_of xs) = omega (arith, inside, length-map xs pair_of) in
    get_or_default (map pair_of xs) i (pair_of (get_or xs i d)) (pair_of d) within
    ∙ get_or-mapped pair_of xs i d

-- a pair of a listing stands in the list
pub is_listed : (required wanted : List Attribute) (i : ℕ) (d : Attribute)
    → IsListing (map pair_of required) (map pair_of wanted)
    → i < length wanted → ¬ (Finds (λ a. pair_of a ≡ pair_of (get_or wanted i d)) required None)
is_listed required wanted i d listing inside none =
    let item = pair_of (get_or wanted i d) in
    let within : i < length (map pair_of wanted) =
    omega (arith, inside, length-map wanted pair_of) in
    let (k, a, below, is, same) =
    (any_in (λ p. p ≡ item) required (map pair_of wanted) listing.0).1
    (i, item, within, made_at wanted i d inside, refl) in
    none k a below (subst (λ x. pair_of x ≡ item) (sym is) same)

module _ (set required wanted : List Attribute) (keys : List Key) (listing : List Pair)
    (listed : IsListing (map pair_of set) listing)
    (comes : IsListing (map pair_of required) (map pair_of wanted)) where
  has_pair : (w : Attribute) → Any (λ a. pair_of a ≡ pair_of w) set ↔ Contains listing (pair_of w)
  has_pair w =
      let some = any_in (λ p. p ≡ pair_of w) set listing listed.0 in
      let one = Contains-Any listing (pair_of w) in
      (λ has. one.0 (some.0 has), λ has. some.1 (one.1 has))

  pairs_missed : (r : Option ℕ) → Misses (λ w. Any (λ a. pair_of a ≡ pair_of w) set) wanted r
      → Misses (Contains listing) (map pair_of wanted) r
  pairs_missed r misses =
      Misses-map pair_of (Contains listing) wanted r (Misses-same _ _ wanted r has_pair misses)

  keys_missed : (r : Option ℕ) → Misses (λ k. Any (λ a. a.key.now ≡ text_of k) set) keys r
      → Misses (ContainsKey listing) (map text_of keys) r
  keys_missed r misses =
      Misses-map text_of (ContainsKey listing) keys r
      (Misses-same _ _ keys r (λ k. any_in (λ p. p.key ≡ text_of k) set listing listed.0) misses)

  abbrev Reports : PlaceAnswer → Type 0
  Reports answer = ReportsOf listing (map pair_of wanted) required keys answer

  -- the least pair that the set lacks
  pub reports_pair : (i at : ℕ) (d : Attribute) (answer : PlaceAnswer) → i < length wanted
      → Misses (λ w. Any (λ a. pair_of a ≡ pair_of w) set) wanted (Some i)
      → IsFirst (λ a. pair_of a ≡ pair_of (get_or wanted i d)) required at
      → answer ≡ place_answer status.MissingPair at → Reports answer
  reports_pair i at d answer inside misses first is =
      let item = get_or wanted i d in (
        Err (IncompatibleAttribute (item.key.now, item.value.now)),
        least_missing (map pair_of wanted) listing i (pair_of item) comes.1
            (sym (made_at wanted i d inside)) (pairs_missed (Some i) misses),
        (at, first, is),
      )

  -- the first key that no pair of the set has
  pub reports_key : (i : ℕ) (answer : PlaceAnswer)
      → Misses (λ w. Any (λ a. pair_of a ≡ pair_of w) set) wanted None
      → Misses (λ k. Any (λ a. a.key.now ≡ text_of k) set) keys (Some i)
      → answer ≡ place_answer status.MissingKey i → Reports answer
  reports_key i answer has misses is =
      let (k, got, lacks, before) = misses in
      let here : get_or (map text_of keys) i (text_of k) ≡ text_of k =
      get_or-mapped text_of keys i k ∙ ap text_of (get_or_from_slice_get keys i k k got) in
      let first =
      key_fault (map text_of keys) (map text_of keys) listing i (text_of k) (text_of k) refl
      (sym here) refl (keys_missed (Some i) misses) in (
        Err (NonExistingKey (text_of k)),
        (pairs_missed None has, first),
        (
          i,
          (
            k,
            got,
            refl,
            λ j d inside same. lacks
                (subst (λ t. Any (λ a. a.key.now ≡ t) set) same (before j d inside)),
          ),
          is,
        ),
      )

  -- the set has all of it
  pub reports_done : (answer : PlaceAnswer)
      → Misses (λ w. Any (λ a. pair_of a ≡ pair_of w) set) wanted None
      → Misses (λ k. Any (λ a. a.key.now ≡ text_of k) set) keys None
      → answer ≡ place_answer status.Done 0 → Reports answer
  reports_done answer has all is = (Ok tt, (pairs_missed None has, keys_missed None all), is)

-- what is said of a listing of the required pairs is said of the one that they make
pub judged : (set required wanted : List Attribute) (keys : List Key) (answer : PlaceAnswer)
    → IsListing (map pair_of required) (map pair_of wanted)
    → ((listing : List Pair) → IsListing (map pair_of set) listing
    → ReportsOf listing (map pair_of wanted) required keys answer)
    → Judges set required keys answer
judged set required wanted keys answer comes reports listing listed other given =
    subst (λ (ws : List Pair). ReportsOf listing ws required keys answer)
    (the_set (map pair_of required) (map pair_of wanted) other comes given) (reports listing listed)
