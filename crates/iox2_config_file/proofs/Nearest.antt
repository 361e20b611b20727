-- One pass over some keys finds the first at the least distance.
use Rattle.std.proofs.Common.{◌≡◌, ℕ, ◌<◌, ◌≤◌, List, [], ◌∷◌, ◌++◌, Bool, true, ◌&&◌, Option, Some, None, if◌then◌else◌, append_assoc, append-nil, refl, arith}
use Rattle.std.specs.Prelude.{nat_le, nat_lt, MatchOption, ⊤}
use Rattle.std.specs.List.{find, list_all}
use Rattle.std.proofs.lemmas.List.Folds.{find-append, list_all-append}
use Rattle.std.proofs.lemmas.Bool.Decides.{nat_tests}
use Rattle.iox2_config_file.specs.declared.section.Section.{Section}
use Rattle.iox2_config_file.specs.Unknown.{edit_distance, nearest_below}

-- an element has a value below a limit, and none of some has a smaller one
abbrev is_least : {X : Type 0} (f : X → ℕ) (limit : ℕ) (xs : List X) → X → Bool
is_least f limit xs x = nat_lt (f x) limit && list_all (λ other. nat_le (f x) (f other)) xs

-- no element has a value below this one
abbrev none_below : {X : Type 0} (f : X → ℕ) (least : ℕ) (xs : List X) → Bool
none_below f least xs = list_all (λ x. nat_le least (f x)) xs

-- what a pass over some elements has found, and the limit for those behind them
record Found {X : Type 0} (f : X → ℕ) (below : ℕ) (xs : List X) (limit : ℕ) (found : Option X)
    : Type 0 where
  pub is : find (is_least f below xs) xs ≡ found
  pub low : limit ≤ below
  pub none : none_below f limit xs ≡ true
  pub least : MatchOption found (limit ≡ below) (λ x. f x ≡ limit)

-- where a smaller value stands behind them, none of some is found
passed : {X : Type 0} (f : X → ℕ) (below limit : ℕ) (x : X) (all xs : List X) → f x < limit
    → none_below f limit xs ≡ true → find (is_least f below (all ++ x ∷ [])) xs ≡ None
passed f below limit x all [] lt none = refl
passed f below limit x all (y ∷ ys) lt none =
    grind (arith, nat_tests, list_all-append, passed f below limit x all ys lt)

-- where no smaller value stands behind them, the same one is found
stays : {X : Type 0} (f : X → ℕ) (below : ℕ) (x : X) (all xs : List X) (found : Option X)
    → find (is_least f below all) xs ≡ found → MatchOption found ⊤ (λ y. f y ≤ f x)
    → find (is_least f below (all ++ x ∷ [])) xs ≡ found
stays f below x all [] found is le = is
stays f below x all (y ∷ ys) found is le =
    grind (arith, nat_tests, list_all-append, stays f below x all ys found)

-- where none has a value below one, none has a value below a smaller one
lower : {X : Type 0} (f : X → ℕ) (least less : ℕ) (xs : List X) → less ≤ least
    → none_below f least xs ≡ true → none_below f less xs ≡ true
lower f least less [] le none = refl
lower f least less (x ∷ xs) le none = grind (arith, nat_tests, lower f least less xs le)

-- one more element, which is the nearest so far
nearer : {X : Type 0} (f : X → ℕ) (below limit : ℕ) (x : X) (xs : List X) (found : Option X)
    → Found f below xs limit found → f x < limit → Found f below (xs ++ x ∷ []) (f x) (Some x)
nearer f below limit x xs found h lt =
    let all : none_below f (f x) xs ≡ true = lower f limit (f x) xs (omega arith) h.none in
    let none : find (is_least f below (xs ++ x ∷ [])) xs ≡ None =
    passed f below limit x xs xs lt h.none in
    let low = h.low in
    record {
      is = grind (arith, nat_tests, find-append, list_all-append);
      low = omega (arith, h.low);
      none = grind (arith, nat_tests, list_all-append);
      least = refl;
    }

-- one more element, which is not
no_nearer : {X : Type 0} (f : X → ℕ) (below limit : ℕ) (x : X) (xs : List X) (found : Option X)
    → Found f below xs limit found → limit ≤ f x → Found f below (xs ++ x ∷ []) limit found
no_nearer f below limit x xs found h le = record {
  is = grind (arith, nat_tests, find-append, h.is, h.least, stays f below x xs xs found);
  low = h.low;
  none = grind (arith, nat_tests, list_all-append, h.none);
  least = h.least;
}

-- the pass
abbrev pub nearest_from : List ℕ → ℕ → Option (Section × List ℕ) → List (Section × List ℕ)
    → Option (Section × List ℕ)
nearest_from key limit found [] = found
nearest_from key limit found ((s, known) ∷ keys) =
    if nat_lt (edit_distance key known) limit
    then nearest_from key (edit_distance key known) (Some (s, known)) keys
    else nearest_from key limit found keys

-- where it has gone over some keys, it finds the first at the least distance of all
from_found : (key : List ℕ) (below limit : ℕ) (found : Option (Section × List ℕ))
    (before keys : List (Section × List ℕ))
    → Found (λ known. edit_distance key known.1) below before limit found
    → nearest_from key limit found keys ≡ nearest_below key below (before ++ keys)
from_found key below limit found before [] h = grind (arith, append-nil, h.is)
from_found key below limit found before ((s, known) ∷ keys) h =
    let here : Section × List ℕ = (s, known) in
    let distance : Section × List ℕ → ℕ = λ o. edit_distance key o.1 in
    let nearer_here : distance here < limit
    → nearest_from key (distance here) (Some here) keys
    ≡ nearest_below key below ((before ++ here ∷ []) ++ keys) =
    λ lt. from_found key below (distance here) (Some here) (before ++ here ∷ []) keys
    (nearer distance below limit here before found h lt) in
    let no_nearer_here : limit ≤ distance here
    → nearest_from key limit found keys
    ≡ nearest_below key below ((before ++ here ∷ []) ++ keys) =
    λ le. from_found key below limit found (before ++ here ∷ []) keys
    (no_nearer distance below limit here before found h le) in
    grind (arith, nat_tests, append_assoc before (here ∷ []) keys, nearer_here, no_nearer_here)

-- the pass over all of them finds that one
pub nearest_is : (key : List ℕ) (below : ℕ) (keys : List (Section × List ℕ))
    → nearest_from key below None keys ≡ nearest_below key below keys
nearest_is key below keys =
    from_found key below below None [] keys
    (record { is = refl; low = omega arith; none = refl; least = refl })
