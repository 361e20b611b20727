use Rattle.std.proofs.Common.{◌≡◌, ℕ, ◌+◌, ◌<◌, true, false, List, ◌∷◌, length, get_or, drop, of_calls, arith, add-one}
use Rattle.std.proofs.Math.Seq.{drop-cons}
use Rattle.iox2_texts.specs.Pair.{Pair}
use Rattle.iox2_texts.specs.Attribute.{has_key, values_of}
use Rattle.iox2_texts.proofs.attribute.set.AttributeSet.iter_key_values.Goals as goal
use Rattle.iox2_texts.proofs.attribute.set.AttributeSet.iter_key_values.Goals.{then-eq+in-Continue, else-eq}

module _ (key : List ℕ) (pairs : List Pair) (i : ℕ) (d : Pair) (inside : i < length pairs) where
  -- the values from a pair on, where it has the key
  here : has_key key (get_or pairs i d) ≡ true → values_of (drop i pairs) key
      ≡ (get_or pairs i d).value ∷ values_of (drop (i + 1) pairs) key
  here has = grind (arith, drop-cons, add-one)

  -- and where it has not
  later : has_key key (get_or pairs i d) ≡ false
      → values_of (drop i pairs) key ≡ values_of (drop (i + 1) pairs) key
  later has = grind (arith, drop-cons, add-one)

-- the call that stops ends the visit
pub returns-in-Stop-clause-visit : goal.returns-in-Stop-clause-visit
returns-in-Stop-clause-visit g c =
    rw (← c.self.view_is, ← c.as_slice-attribute-items.ensures.value)
    (c.loop-attribute.invariant.visits _ (grind (arith, here)))

-- one step of the visit
pub loop-attribute-preserved : goal.loop-attribute-preserved
loop-attribute-preserved g c =
    let before = c.loop-attribute.invariant in
    elim c.if-eq.branch [
      | then-eq+in-Continue w ↦ rw w.callback-is (record {
        callable = grind (arith, here);
        visits = λ last more. before.visits last (grind (arith, here));
        always = λ may. let always = before.always may in search of_calls;
      })
      | else-eq w ↦ rw w.callback-is (record {
        callable = grind (arith, later);
        visits = λ last more. before.visits last (grind (arith, later));
        always = before.always;
      })
    ]
