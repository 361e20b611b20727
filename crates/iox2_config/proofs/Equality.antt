-- What `==` decides: a derived test asks each field's
-- test in turn, and so decides equality where those do.
use Rattle.std.proofs.Common.{rules, ◌≡◌, ◌∙◌, ℕ, List, Bool, true, ◌&&◌, nat_eq, Option, refl, sym, ap}
use Rattle.std.proofs.Math.Bool.{beq}
use Rattle.std.proofs.lemmas.Bool.Decides.{Decides-and, Decides-like}
use Rattle.std.proofs.lemmas.Slice.Eq.{slice_eq-Decides}
use Rattle.std.specs.Bool.{Decides}
use Rattle.std.specs.Cmp.{booleans_Decides, unsigned_Decides}
use Rattle.std.specs.Cmp.Lexicographic.{pointwise}
use Rattle.std.specs.Option.{option_eq}
use Rattle.iox2_config.specs.contracts.config.ConfigPartialEq.TheImpl as config
use Rattle.iox2_config.specs.contracts.config.choices.AllocationStrategyPartialEq.TheImpl as allocation
use Rattle.iox2_config.specs.contracts.config.choices.BackpressureStrategyPartialEq.TheImpl as backpressure
use Rattle.iox2_config.specs.contracts.types.message_details.MessageTypeDetailsPartialEq.TheImpl as message_details
use Rattle.iox2_config.specs.contracts.types.type_detail.TypeVariantPartialEq.TheImpl as variant
use Rattle.iox2_config.specs.declared.config.Config.{Config}
use Rattle.iox2_config.specs.declared.config.choices.AllocationStrategy.{AllocationStrategy}
use Rattle.iox2_config.specs.declared.config.choices.BackpressureStrategy.{BackpressureStrategy}
use Rattle.iox2_config.specs.declared.types.message_details.MessageTypeDetails.{MessageTypeDetails}
use Rattle.iox2_config.specs.declared.types.type_detail.TypeVariant.{TypeVariant}

-- a test that decides equality
pub record EqualityTest (A : Type 0) : Type 0 where
  pub test : A → A → Bool
  pub decides : (a b : A) → Decides (test a b) (a ≡ b)

abbrev pub numbers : EqualityTest ℕ
numbers = record { test = nat_eq; decides = unsigned_Decides }

abbrev pub flags : EqualityTest Bool
flags = record { test = beq; decides = booleans_Decides }

module _ {A B : Type 0} where
  pub pairs_decide : (s : EqualityTest A) (t : EqualityTest B) (p q : A × B)
      → Decides (s.test p.0 q.0 && t.test p.1 q.1) (p ≡ q)
  pairs_decide s t p q = search rules

  -- of two values, each by its own test
  abbrev pub pairs : EqualityTest A → EqualityTest B → EqualityTest (A × B)
  pairs s t = record { test = λ p q. s.test p.0 q.0 && t.test p.1 q.1; decides = pairs_decide s t }

  -- of a struct, by what it is made of
  abbrev pub structs : (to : A → B) (from : B → A) → ((a : A) → from (to a) ≡ a) → EqualityTest B
      → EqualityTest A
  structs to from back t = record {
    test = λ a b. t.test (to a) (to b);
    decides =
        λ a b. Decides-like _ (λ e. sym (back a) ∙ (ap from e ∙ back b)) (ap to)
        (t.decides (to a) (to b));
  }

module _ {A : Type 0} (t : EqualityTest A) where
  pub options_decide : (x y : Option A) → Decides (option_eq t.test x y) (x ≡ y)
  options_decide x y = search rules

  abbrev pub options : EqualityTest (Option A)
  options = record { test = option_eq t.test; decides = options_decide }

  -- of two lists, item by item
  abbrev pub lists : EqualityTest (List A)
  lists = record {
    test = pointwise t.test;
    decides = λ xs ys. slice_eq-Decides t.decides xs ys _ refl;
  }

  -- of a value with a mark of its kind, whose own test always holds
  abbrev pub marked : EqualityTest A
  marked = record {
    test = λ a b. t.test a b && true;
    decides =
        λ a b. Decides-like _ (λ e. e.0) (λ e. (e, refl))
        (Decides-and _ true (t.decides a b) (λ h. h, λ h. h));
  }

-- of two texts, byte by byte
abbrev pub texts : EqualityTest (List ℕ)
texts = lists numbers

pub allocations_decide : (x y : AllocationStrategy) → Decides (allocation.ghosts.eq x y) (x ≡ y)
allocations_decide x y = search rules

pub backpressures_decide : (x y : BackpressureStrategy)
    → Decides (backpressure.ghosts.eq x y) (x ≡ y)
backpressures_decide x y = search rules

abbrev pub allocations : EqualityTest AllocationStrategy
allocations = record { test = allocation.ghosts.eq; decides = allocations_decide }

abbrev pub backpressures : EqualityTest BackpressureStrategy
backpressures = record { test = backpressure.ghosts.eq; decides = backpressures_decide }

pub variants_decide : (x y : TypeVariant) → Decides (variant.ghosts.eq x y) (x ≡ y)
variants_decide x y = search rules

abbrev pub variants : EqualityTest TypeVariant
variants = record { test = variant.ghosts.eq; decides = variants_decide }

-- `hlevel tests` is the test that a derive makes of a struct
pub ruleset tests =
    (numbers, flags, texts, pairs, structs, options, allocations, backpressures, variants)

pub decided : {A : Type 0} (t : EqualityTest A) (a b : A) → Decides (t.test a b) (a ≡ b)
decided t = t.decides

pub configurations_decide : (a b : Config) → Decides (config.ghosts.eq a b) (a ≡ b)
configurations_decide = decided (hlevel tests)

pub message_details_decide : (a b : MessageTypeDetails)
    → Decides (message_details.ghosts.eq a b) (a ≡ b)
message_details_decide = decided (hlevel tests)
