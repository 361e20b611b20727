-- When a callback may be called on items in turn, for as long as it answers `Continue`.
use Rattle.std.specs.Prelude.{List, [], ◌∷◌, ⊤}
use Rattle.iox2_texts.specs.declared.bounded.CallbackProgression.{CallbackProgression}
use Rattle.iox2_texts.specs.declared.bounded.CallbackProgression.TheVariants.{Continue}

-- the callback may be called on the first item in the state f, and on each later one in every state
-- in which the call on the one before it, which answered `Continue`, may leave it
abbrev pub MayVisit : {F A : Type 0} → (F → A → Type 0) → (F → A → CallbackProgression → F → Type 0)
    → F → List A → Type 0
MayVisit takes calls f [] = ⊤
MayVisit {F} takes calls f (item ∷ items) =
    takes f item × ((g : F) → calls f item Continue g → MayVisit takes calls g items)

-- the callback may be called on each item in order, up to the first answer `Stop`; a record round
-- `MayVisit`, so that a proof finds the calls in it
pub record CanVisit {F A : Type 0} (takes : F → A → Type 0)
    (calls : F → A → CallbackProgression → F → Type 0) (f : F) (items : List A) : Type 0 where
  pub visits : MayVisit takes calls f items
