-- Attributes and requirements that were read, and what no further one may be.
use Rattle.std.proofs.Common.{◌≡◌, ℕ, List, ◌∷◌, ◌++◌, Ok, Err, sym, ◌∙◌, arith, ◌≤◌, [], ◌⊎◌, codes, length, refl, ◌+◌, filter_map, length-append}
use Rattle.iox2_texts.specs.Pair.{Pair}
use Rattle.iox2_texts.specs.Name.{IsName, MakesName}
use Rattle.iox2_texts.specs.declared.bounded.SemanticStringError.{SemanticStringError}
use Rattle.line_streams.proofs.Indices.{before_one}
use Rattle.line_streams.specs.Spelling.{HasNo}
use Rattle.service_drawing.specs.Lines.{IsLine, GivesPair, AreAttributes, HasAttributes, StopsAt, Requirement, OfPair, OfKey, GivesRequirement, RequiresToo, number_required, RequiresMore, RequiresNoMore, pair_of, key_of, AreRequired, HasRequirements, ReadMany}
use Rattle.std.proofs.lemmas.List.Sorted.{IsPermutation-cons, IsPermutation-to_front, IsPermutation-trans, length_permutation}
use Rattle.iox2_texts.specs.Attribute.{IsListing}
use Rattle.service_drawing.proofs.Forms.{one_read, stops_at_most}
use Rattle.std.proofs.lemmas.List.{append-nil}
use Rattle.std.proofs.lemmas.List.Elements.{filter_map-append}
use Rattle.iox2_texts.specs.Verify.{Requirements}

-- a text that no name can be
pub no_name_of : (n : ℕ) (bytes : List ℕ) (why : SemanticStringError) → MakesName n bytes (Err why)
    → ¬ IsName n bytes
no_name_of n bytes why h legal = grind arith

-- a text whose key or value is refused
pub no_pair_of : (text key value : List ℕ) → HasNo 32 key → text ≡ key ++ 32 ∷ value
    → ¬ (IsName 64 key × IsName 256 value) → (pair : Pair) → ¬ GivesPair pair text
no_pair_of text key value word spelled bad pair (is, other) =
    let same = (before_one 32).same (key, value) (pair.key, pair.value) word is.key.word
    (sym spelled ∙ other) in
    bad (rw (same.0, same.1) (is.key.name, is.value))

abbrev of : List ℕ → List ℕ → Pair
of k v = record { key = k; value = v }

-- the pair that a text spells
pub found_pair : (text key value k v : List ℕ) → MakesName 64 key (Ok k)
    → MakesName 256 value (Ok v) → HasNo 32 key → text ≡ key ++ 32 ∷ value
    → GivesPair (of k v) text
found_pair text key value k v first second word spelled = grind arith

-- what was read so far
abbrev pub Reading : List Pair → List ℕ → List ℕ → Type 0
Reading = ReadMany (codes "attribute ") GivesPair AreAttributes

-- a pair more in front is one more at the end
pub listed_more : (pairs old new : List Pair) (pair : Pair) → IsListing pairs old
    → IsListing (pair ∷ old) new → IsListing (pairs ++ pair ∷ []) new
listed_more pairs old new pair before added = (
  IsPermutation-trans (pairs ++ pair ∷ []) (pair ∷ pairs) new (IsPermutation-to_front pairs pair)
      (IsPermutation-trans (pair ∷ pairs) (pair ∷ old) new
      (IsPermutation-cons pair pairs old before.0) added.0),
  added.1,
)

-- the next line is one too many, or gives no pair
pub stops_at_attribute : (set : List Pair) (at bytes text tail : List ℕ)
    → Reading set at bytes → IsLine (codes "attribute " ++ text) tail at
    → (16 ≤ length set) ⊎ ((pair : Pair) → ¬ GivesPair pair text)
    → StopsAt HasAttributes at bytes
stops_at_attribute set at bytes text tail r l bad =
    stops_at_most (codes "attribute ") GivesPair AreAttributes 16 (λ xs x made. made.0) set at bytes
    text tail r l (rw (length_permutation r.each set r.make.1.0) at bad)

-- what was read so far
abbrev pub Requiring : Requirements → List ℕ → List ℕ → Type 0
Requiring = ReadMany (codes "require") GivesRequirement AreRequired

each_counts : (each : List Requirement)
    → length each ≡ length (filter_map pair_of each) + length (filter_map key_of each)
each_counts [] = refl
each_counts (OfPair pair ∷ each) = omega (arith, each_counts each)
each_counts (OfKey key ∷ each) = omega (arith, each_counts each)

-- as many were read as are required
as_many : (each : List Requirement) (required : Requirements) → AreRequired each required
    → length each ≡ number_required required
as_many each required made = grind (arith, each_counts, length_permutation)

-- one more was read
pub one_more_required : (old new : Requirements) (at next bytes text : List ℕ)
    → Requiring old at bytes → IsLine (codes "require" ++ text) next at → RequiresMore old text new
    → Requiring new next bytes
one_more_required old new at next bytes text r l more =
    one_read (codes "require") GivesRequirement AreRequired old new at next bytes text more.each r l
    more.gives (
      grind (arith, length-append, as_many r.each old r.make, more.room),
      rw (filter_map-append pair_of r.each (more.each ∷ [])) (pairs more.each more.added),
      rw (filter_map-append key_of r.each (more.each ∷ [])) (keys more.each more.added),
    )
  where
    pairs : (one : Requirement) → RequiresToo old one new
        → IsListing (filter_map pair_of r.each ++ filter_map pair_of (one ∷ [])) new.pairs
    pairs (OfPair pair) a = listed_more _ old.pairs new.pairs pair r.make.1 a.0
    pairs (OfKey key) a = rw (append-nil (filter_map pair_of r.each), a) r.make.1

    keys : (one : Requirement) → RequiresToo old one new
        → filter_map key_of r.each ++ filter_map key_of (one ∷ []) ≡ new.keys
    keys one a = grind (arith, append-nil, r.make.2)

-- the next line is one too many, or requires nothing
pub stops_at_required : (required : Requirements) (at bytes text tail : List ℕ)
    → Requiring required at bytes → IsLine (codes "require" ++ text) tail at
    → RequiresNoMore required text → StopsAt HasRequirements at bytes
stops_at_required required at bytes text tail r l bad =
    stops_at_most (codes "require") GivesRequirement AreRequired 16 (λ xs x made. made.0) required
    at bytes text tail r l (rw (sym (as_many r.each required r.make)) at bad)
