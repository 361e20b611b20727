-- What is judged leads from one state to another.
use Rattle.service_conformance.proofs.Names.{All-map, All-weaker, AllocError, Bool, Contains, Err, IfOk, List, Ok, Result, [], ap, arith, false, length, map, refl, slice_get, slice_get_within, subst, sym, true, ℕ, ◌+◌, ◌<◌, ◌==◌, ◌↔◌, ◌∙◌, ◌∷◌, ◌≡◌, eqb-true, nil_from_length, same_Some, IfOk-weaker, All, AllPairs, ◌≢◌, get_or, inl, inr, length-map, AreAll, Call, CallLeaves, CallStep, ChangesNothing, HasNumber, IsIdle, IsIdleCall, IsIdleJudged, IsMade, IsWatched, IsWithin, Judged, JudgedStep, LacksNumber, Left, Look, Service, Watched, WindowStep, states_in, watched, AreEnough}
use Rattle.std.proofs.Math.ListN.{get_or-map}
use Rattle.histories.proofs.Lists.{contains_map_of, enough}
use Rattle.std.proofs.lemmas.List.{get_or_default}
use Rattle.service_conformance.proofs.Calls.{all_as, all_of_none, enough_as}

-- the call leaves these, and the weak listings look at them
module _ (c : Call) (w : Watched) (is : IsWatched w) (xs : List Service) where
  each_leaves : All (CallStep c w.service) xs
      → All (CallLeaves c w) (map (λ s. watched s w.looks) xs)
  each_leaves all =
      All-map (CallLeaves c w) (λ s. watched s w.looks) xs
      (All-weaker (CallStep c w.service) (λ s. CallLeaves c w (watched s w.looks))
      (λ s step. (is, step, refl)) xs all)

  has_leaves : ((s : Service) → CallStep c w.service s → Contains xs s) → (v : Watched)
      → CallLeaves c w v → Contains (map (λ s. watched s w.looks) xs) v
  has_leaves all v leaves =
      subst (λ (x : Watched). Contains (map (λ s. watched s w.looks) xs) x) (sym leaves.2)
      (contains_map_of (λ s. watched s w.looks) xs v.service (all v.service leaves.1))

  -- services that differ, differ where they are looked at
  differ_watched : AllPairs (λ a b. a ≢ b) xs
      → AllPairs (λ a b. a ≢ b) (map (λ s. watched s w.looks) xs)
  differ_watched differ i j d less below same =
      let look : Service → Watched = λ s. watched s w.looks in
      let within : j < length xs = omega (arith, below, length-map xs look) in
      let at : (k : ℕ) → k < length xs → (get_or (map look xs) k d).service
      ≡ get_or xs k d.service = λ k h.
      ap (λ (v : Watched). v.service)
      (get_or_default (map look xs) k d (look d.service) (omega (arith, h, length-map xs look))
      ∙ get_or-map look xs k d.service) in
      differ i j d.service less within
      (sym (at i (omega (arith, less, within)))
      ∙ (ap (λ (v : Watched). v.service) same ∙ at j within))

  call_leaves : AreAll (CallStep c w.service) xs
      → AreAll (CallLeaves c w) (map (λ s. watched s w.looks) xs)
  call_leaves all = (each_leaves all.0, has_leaves all.1)

  enough_leaves : AreEnough (CallStep c w.service) xs
      → AreEnough (CallLeaves c w) (map (λ s. watched s w.looks) xs)
  enough_leaves are = (
    each_leaves are.0,
    differ_watched are.1,
    elim are.2 [
      | inl all ↦ inl (has_leaves all)
      | inr many ↦ inr (omega (arith, many, length-map xs (λ s. watched s w.looks)))
    ],
  )

-- what is left by what the call leaves of the service
pub follow_leaves : (c : Call) (w : Watched) → IsWatched w → (s : Service) → s ≡ w.service
    → (xs : List Service) → AreEnough (CallStep c s) xs → (ys : List Watched)
    → ys ≡ map (λ s. watched s w.looks) xs → AreEnough (CallLeaves c w) ys
follow_leaves c w is s same xs are ys they =
    subst (λ (l : List Watched). AreEnough (CallLeaves c w) l) (sym they)
    (enough_leaves c w is xs (subst (λ (x : Service). AreEnough (CallStep c x) xs) same are))

-- a call that is made where no weak listing looks
pub made_leaves : (c : Call) (w : Watched) (made : Result Bool AllocError) (s : Service)
    → IsWatched w → w.looks ≡ [] → IfOk made (IsMade (CallStep c w.service) w.service s)
    → IfOk made (IsMade (CallLeaves c w) w (record { service = s; looks = w.looks }))
made_leaves c w (Ok true) s is none all =
    let same : watched s w.looks ≡ record { service = s; looks = w.looks } = rw none refl in
    subst (λ (x : Watched). AreAll (CallLeaves c w) (x ∷ [])) same
    (call_leaves c w is (s ∷ []) all)
made_leaves c w (Ok false) s is none same =
    ap (λ (x : Service). record { service = x; looks = w.looks }) same
made_leaves c w (Err e) s is none all = tt

pub none_of : (looks : List Look) (b : Bool) → b ≡ (length looks == 0) → b ≡ true → looks ≡ []
none_of looks b is t = nil_from_length looks (eqb-true (length looks) 0 (sym is ∙ t))

-- a call that changes nothing
pub changes_none : (c : Call) → ChangesNothing c → (old new : Watched) → CallLeaves c old new
    → new ≡ old
changes_none c none old new (i, step, is) =
    is ∙ (ap (λ (s : Service). watched s old.looks) (none old.service new.service step)
    ∙ ap (λ (l : List Look). record { service = old.service; looks = l }) i)

pub idle_leaves : (c : Call) (w : Watched) → IsWatched w → IsIdleCall c w.service
    → CallLeaves c w w × ((old new : Watched) → CallLeaves c old new → new ≡ old)
idle_leaves c w is idle = (
  (is, idle.0, ap (λ (l : List Look). record { service = w.service; looks = l }) (sym is)),
  changes_none c idle.1,
)

module _ (first : ℕ) (calls : List Judged) (number : ℕ) where
  pub one_call : (a b : Judged) → HasNumber first calls number a → HasNumber first calls number b
      → b ≡ a
  one_call a b p q = grind (arith, same_Some)

  module _ (call : Judged) (has : HasNumber first calls number call) (s : Watched) where
    step_there : (x : Watched) → JudgedStep number call s x → WindowStep first calls s number x
    step_there x step = (call, has, step)

    step_back : (x : Watched) → WindowStep first calls s number x → JudgedStep number call s x
    step_back x step = subst (λ c. JudgedStep number c s x) (one_call call step.0 has step.1) step.2

    pub window_followed : (found : Result (Left Watched) AllocError)
        → IfOk found (λ left. AreEnough (JudgedStep number call s) (states_in left))
        → IfOk found
        (λ left. AreEnough (λ new. WindowStep first calls s number new) (states_in left))
    window_followed found = grind (arith, IfOk-weaker, enough_as, step_there, step_back)

    pub window_made : (made : Result Bool AllocError) (new : Watched)
        → IfOk made (IsMade (JudgedStep number call s) s new)
        → IfOk made (IsMade (λ x. WindowStep first calls s number x) s new)
    window_made (Ok true) new all = grind (arith, all_as, step_there, step_back)
    window_made (Ok false) new same = same
    window_made (Err e) new is = tt

    idle_there : JudgedStep number call s s × IsIdleJudged number call
        → WindowStep first calls s number s
        × IsIdle (WindowStep first calls) number
    idle_there idle = grind (arith, one_call)

    pub window_idle : (found : Result Bool AllocError)
        → IfOk found
        (λ idle. idle ≡ true → JudgedStep number call s s × IsIdleJudged number call)
        → IfOk found (λ idle. idle ≡ true
        → WindowStep first calls s number s × IsIdle (WindowStep first calls) number)
    window_idle found = grind (arith, IfOk-weaker, idle_there)

  pub window_none : LacksNumber first calls number → (s : Watched)
      → AreEnough (λ new. WindowStep first calls s number new) []
  window_none lacks s =
      enough (λ new. WindowStep first calls s number new) [] (omega arith)
      (all_of_none (λ new. WindowStep first calls s number new) (λ x step. lacks step.0 step.1))

pub windows_agree : (first : ℕ) (calls all : List Judged)
    → ((at : ℕ) → at < length calls → slice_get calls at ≡ slice_get all (first + at))
    → (number : ℕ) → IsWithin first (length calls) number → (old new : Watched)
    → WindowStep first calls old number new ↔ WindowStep 0 all old number new
windows_agree first calls all same number within old new = grind (arith, slice_get_within)
