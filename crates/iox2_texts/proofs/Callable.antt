-- Callbacks that may be called on items in turn, for as long as they answer `Continue`.
use Rattle.std.proofs.Common.{List, [], ◌∷◌, refl, sym, subst, inl, inr}
use Rattle.std.specs.Fn.{Mut, CalledAt, TakesAt}
use denote.Ref.{Bor}
use denote.Param.Always.{always_mut, mut_next}
use Rattle.iox2_texts.specs.Attribute.{Visits}
use Rattle.iox2_texts.specs.Callbacks.{MayVisit, CanVisit}
use Rattle.iox2_texts.specs.declared.bounded.CallbackProgression.{CallbackProgression}
use Rattle.iox2_texts.specs.declared.bounded.CallbackProgression.TheVariants.{Continue, Stop}

-- what each state takes, and what each call leaves it in, gives it for any items
module _ {F A : Type 0} (takes : F → A → Type 0) (calls : F → A → CallbackProgression → F → Type 0)
    (I : F → List A → Type 0)
    (asks : (f : F) (x : A) (xs : List A) → I f (x ∷ xs) → takes f x)
    (keeps : (f : F) (x : A) (xs : List A) (h : F) → I f (x ∷ xs) → calls f x Continue h
    → I h xs) where
  may_visit_by : (f : F) (items : List A) → I f items → MayVisit takes calls f items
  may_visit_by f [] i = tt
  may_visit_by f (x ∷ xs) i = (asks f x xs i, λ h c. may_visit_by h xs (keeps f x xs h i c))

  pub CanVisit-by : (f : F) (items : List A) → I f items → CanVisit takes calls f items
  CanVisit-by f items i = record { visits = may_visit_by f items i }

-- a callback that may always be called takes any item, and may always be called afterwards
module _ {F A R : Type 0} (g : Mut F (Bor A × Unit {0}) R) where
  pub takes_always : (f : F) (x : A) → always_mut g f → TakesAt g f x
  takes_always f x m = λ y e. (m.at ((y, tt) ∷ [])).0

  pub next_always : (f : F) (x : A) (r : R) (h : F) → always_mut g f → CalledAt g f x r h
      → always_mut g h
  next_always f x r h m c = mut_next g f (c.shown, tt) r h h c.called refl m

module _ {F A : Type 0} (g : Mut F (Bor A × Unit {0}) CallbackProgression) where
  pub CanVisit-from_always : (f : F) (items : List A) → always_mut g f
      → CanVisit (TakesAt g) (CalledAt g) f items
  CanVisit-from_always = search (CanVisit-by, takes_always, next_always)

  pub always_after_visits : (f : F) (items : List A) (h : F) → always_mut g f
      → Visits (CalledAt g) f items h → always_mut g h
  always_after_visits f [] h m done = subst (always_mut g) (sym done) m
  always_after_visits f (x ∷ xs) h m (inl stopped) = next_always g f x Stop h m stopped
  always_after_visits f (x ∷ xs) h m (inr goes) =
      always_after_visits goes.0 xs h (next_always g f x Continue goes.0 m goes.1) goes.2

-- a callback that takes any item in any state
pub CanVisit-from_total : {F A : Type 0} {takes : F → A → Type 0} {calls : F → A
    → CallbackProgression → F → Type 0} {f : F} {items : List A} → ((g : F) (x : A) → takes g x)
    → CanVisit takes calls f items
CanVisit-from_total {takes = takes} {calls = calls} {f = f} {items = items} h =
    CanVisit-by takes calls (λ _ _. Unit {0}) (λ g x xs i. h g x) (λ g x xs k i c. tt) f items tt

-- what a caller's proofs need whose callback may always be called: to be named by `using` on a
-- crate, so that its calls need no answer
pub ruleset callbacks = (CanVisit-from_total, CanVisit-from_always)
