-- Laws on which the other definitions rest: what a set is made of, and a comparison, are one.
use Rattle.iox2sd_values.specs.Attributes.{OfSet, pair_of}
use Rattle.std.specs.Prelude.{◌≡◌, List, map}
use Rattle.iox2sd_values.specs.Prelude.{Attribute, FieldAnswer, IsListing, Pair}

-- the pairs make this set, and no other one
abbrev pub MakesOneSet : List Attribute → List Pair → Type 0
MakesOneSet pairs set = IsListing (map pair_of pairs) set × OfSet pairs (λ other. other ≡ set)

-- configurations compare as those that are made of their plain values: nothing else counts
abbrev pub ComparesAlike : {L C R : Type 0} → (L → C) → (C → L) → (L → L → R) → Type 0
ComparesAlike {L} plain fixed requirements = (service required : L)
    → requirements service required ≡ requirements (fixed (plain service)) (fixed (plain required))

-- whatever configurations have the plain values of both sides, the answer is the same
abbrev pub HasOneAnswer : {C : Type 0} → (List C → List C → FieldAnswer → Type 0) → Type 0
HasOneAnswer {C} Satisfies = (services required : List C) (one other : FieldAnswer)
    → Satisfies services required one → Satisfies services required other → one ≡ other
