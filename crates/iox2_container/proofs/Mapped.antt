-- What a call does, it does with other details too, and through a callback that holds another.
use Rattle.iox2_container.proofs.Prelude.{AddStep, Adds, All-map, AllPairs, AllPairs-cons, Bool, CallbackProgression, CalledInTurn, Changes, ContainerAddFailure, ContainerRemoveError, ContainerState, Entry, Err, Handle, HasEntry, InsertsOne, IsLocked, IsRegistry, IsUnknownHandle, List, Ok, OutOfSpace, RecoverStep, RecoversBy, RegistryState, ReleaseMode, ReleaseState, RemoveStep, Removes, Result, Stop, Visit, Visits, [], ap, arith, candidates, container_as, details_where, entries_of, entry_as, filter_agree, handle_of, inl, inr, is_of, length, length-map, map, map-append, map-id, map-map, marks_of, refl, registry_as, staying, ℕ, ◌<◌, ◌==◌, ◌∙◌, ◌∷◌, ◌≡◌, ◌≢◌}
use Rattle.iox2_container.proofs.Lists.{filter-map, AllPairs-head, AllPairs-tail}
use Rattle.iox2_container.proofs.Callable.{CalledInTurn-keeps}

AllPairs-map : {A B : Type 0} (R : B → B → Type 0) (g : A → B) (xs : List A)
    → AllPairs (λ x y. R (g x) (g y)) xs → AllPairs R (map g xs)
AllPairs-map R g [] p = λ i j d h l. absurd (omega (arith, l))
AllPairs-map R g (x ∷ xs) p =
    AllPairs-cons R (g x) (map g xs)
    (All-map (R (g x)) g xs (AllPairs-head (λ x y. R (g x) (g y)) x xs p))
    (AllPairs-map R g xs (AllPairs-tail (λ x y. R (g x) (g y)) x xs p))

-- an entry, a registry or a container with other details
module _ {T U : Type 0} (g : T → U) where
  IsRegistry-as : (r : RegistryState T) → IsRegistry r → IsRegistry (registry_as g r)
  IsRegistry-as r h = record {
    slots_rise = AllPairs-map (λ (a b : Entry U). a.slot < b.slot) (entry_as g) _ h.slots_rise;
    slots_below = All-map (λ (e : Entry U). e.slot < r.capacity) (entry_as g) _ h.slots_below;
    tickets_differ =
        AllPairs-map (λ (a b : Entry U). a.ticket ≢ b.ticket) (entry_as g) _ h.tickets_differ;
    tickets_used = All-map (λ (e : Entry U). e.ticket < r.used) (entry_as g) _ h.tickets_used;
    budget_kept = h.budget_kept;
    locked_is_empty = λ t. ap (map (entry_as g)) (h.locked_is_empty t);
  }

  -- a change of which the step is one with other details too
  pub Changes-as : {Step : RegistryState T → RegistryState T → Type 0}
      {Step' : RegistryState U → RegistryState U → Type 0} (old new : ContainerState T)
      → (Step old.registry new.registry
      → Step' (registry_as g old.registry) (registry_as g new.registry))
      → Changes Step old new → Changes Step' (container_as g old) (container_as g new)
  Changes-as old new step c = grind (arith, IsRegistry-as)

  InsertsOne-as : (old new : List (Entry T)) (x : Entry T) → InsertsOne old new x
      → InsertsOne (map (entry_as g) old) (map (entry_as g) new) (entry_as g x)
  InsertsOne-as old new x h = grind (arith, map-append)

  AddStep-as : (old : RegistryState T) (details : T) (answer : Result Handle ContainerAddFailure)
      (new : RegistryState T) → AddStep old details answer new
      → AddStep (registry_as g old) (g details) answer (registry_as g new)
  AddStep-as old details (Err IsLocked) new h = (h.0, ap (registry_as g) h.1)
  AddStep-as old details (Err OutOfSpace) new h = grind (arith, length-map)
  AddStep-as old details (Ok handle) new h = (
    h.0,
    rw (length-map old.entries (entry_as g)) h.1,
    (
      h.2.0,
      All-map (λ e. e.slot ≢ handle.slot) (entry_as g) old.entries h.2.1,
      InsertsOne-as old.entries new.entries _ h.2.2,
      ap (registry_as g) h.2.3,
    ),
  )

  -- who has a handle
  pub IsUnknownHandle-as : (r : RegistryState T) (handle : Handle) → IsUnknownHandle r handle
      → IsUnknownHandle (registry_as g r) handle
  IsUnknownHandle-as r handle h =
      All-map (λ x. handle ≢ handle_of (registry_as g r) x) (entry_as g) r.entries h

  pub HasEntry-as : (r : RegistryState T) (handle : Handle) (details : T)
      → HasEntry r handle details → HasEntry (registry_as g r) handle (g details)
  HasEntry-as r handle details h = (
    entry_as g h.0,
    h.1,
    ap g h.2,
    (map (entry_as g) h.3.0, InsertsOne-as h.3.0 r.entries h.0 h.3.1),
  )

  RemoveStep-as : (old : RegistryState T) (handle : Handle) (mode : ReleaseMode)
      (answer : Result ReleaseState ContainerRemoveError) (new : RegistryState T)
      → RemoveStep old handle mode answer new
      → RemoveStep (registry_as g old) handle mode answer (registry_as g new)
  RemoveStep-as old handle mode (Err e) new h =
      (IsUnknownHandle-as old handle h.0, ap (registry_as g) h.1)
  RemoveStep-as old handle mode (Ok state) new h = (
    (
      entry_as g h.0.0,
      h.0.1,
      InsertsOne-as new.entries old.entries h.0.0 h.0.2,
      rw (length-map old.entries (entry_as g), length-map new.entries (entry_as g))
          (ap (registry_as g) h.0.3),
    ),
    h.1,
  )

  pub Adds-as : (old : ContainerState T) (details : T) (answer : Result Handle ContainerAddFailure)
      (new : ContainerState T) → Adds old details answer new
      → Adds (container_as g old) (g details) answer (container_as g new)
  Adds-as old details answer new =
      Changes-as old new (AddStep-as old.registry details answer new.registry)

  pub Removes-as : (old : ContainerState T) (handle : Handle) (mode : ReleaseMode)
      (answer : Result ReleaseState ContainerRemoveError) (new : ContainerState T)
      → Removes old handle mode answer new
      → Removes (container_as g old) handle mode answer (container_as g new)
  Removes-as old handle mode answer new =
      Changes-as old new (RemoveStep-as old.registry handle mode answer new.registry)

  pub listed-as : (es : List (Entry T))
      → map (λ e. e.details) (map (entry_as g) es) ≡ map g (map (λ e. e.details) es)
  listed-as es = simp map-map

  -- the candidates
  pub candidates-as : (is_dead : T → Bool) (is_dead' : U → Bool)
      → ((x : T) → is_dead' (g x) ≡ is_dead x) → (es : List (Entry T))
      → candidates is_dead' (map (entry_as g) es) ≡ map (entry_as g) (candidates is_dead es)
  candidates-as is_dead is_dead' same es = grind (arith, filter-map, filter_agree)

  pub entries_of-as : (node : T → ℕ) (node' : U → ℕ) → ((x : T) → node' (g x) ≡ node x)
      → (id : ℕ) (r : RegistryState T)
      → entries_of node' id (registry_as g r) ≡ entries_of node id r
  entries_of-as node node' same id r =
      ap length
      (candidates-as (is_of node id) (is_of node' id) (λ x. ap (λ n. n == id) (same x)) r.entries)
      ∙ length-map (candidates (is_of node id) r.entries) (entry_as g)

-- what each call keeps is true at the end, and each call is one of others
pub CalledInTurn-as : {F G A B R : Type 0} (calls : F → A → R → F → Type 0)
    (others : G → B → R → G → Type 0) (k : F → G) (u : A → B) (I : F → Type 0)
    → ((f : F) (x : A) (r : R) (h : F) → I f → calls f x r h → others (k f) (u x) r (k h) × I h)
    → (f : F) (items : List A) (answers : List R) (h : F) → I f
    → CalledInTurn calls f items answers h
    → CalledInTurn others (k f) (map u items) answers (k h) × I h
CalledInTurn-as calls others k u I step f items answers h i a =
    let t = CalledInTurn-keeps calls
    (λ q xs rs. I q × (CalledInTurn others (k q) (map u xs) rs (k h)
    → CalledInTurn others (k f) (map u items) answers (k h)))
    (λ q x xs r rs v p c.
    let s = step q x r v p.0 c in (s.1, λ rest. p.1 (k v, s.0, rest)))
    f items answers h (i, λ rest. rest) a in (t.1 refl, t.0)

-- a recovery by a callback that holds another one
pub RecoversBy-through : {F G T : Type 0} (calls : F → T → Bool → F → Type 0)
    (others : G → T → Bool → G → Type 0) (k : F → G) (I : F → Type 0)
    → ((f : F) (x : T) (r : Bool) (h : F) → I f → calls f x r h → others (k f) x r (k h) × I h)
    → (is_dead : T → Bool) (old : ContainerState T) (f : F) (mode : ReleaseMode)
    (state : ReleaseState) (new : ContainerState T) (h : F)
    → I f → RecoversBy calls is_dead old f mode state new h
    → RecoversBy others is_dead old (k f) mode state new (k h) × I h
RecoversBy-through calls others k I step is_dead old f mode state new h i r =
    let s = r.step in
    let a = CalledInTurn-as calls others k (λ x. x) I step f (details_where is_dead old.registry)
    (marks_of is_dead s.marked old.registry.entries) h i s.called in (
      record {
        step = record {
          marked = s.marked;
          called = rw map-id at a.0;
          recovers = s.recovers;
        };
        kept = r.kept;
        touched = r.touched;
      },
      a.1,
    )

-- candidates and what stays, with other details
module _ {T U : Type 0} (g : T → U) (is_dead : T → Bool) (is_dead' : U → Bool)
    (same : (x : T) → is_dead' (g x) ≡ is_dead x) where
  pub called-as : (es : List (Entry T))
      → map (λ e. e.details) (candidates is_dead' (map (entry_as g) es))
      ≡ map g (map (λ e. e.details) (candidates is_dead es))
  called-as es = ap (map (λ e. e.details)) (candidates-as g is_dead is_dead' same es)
      ∙ listed-as g (candidates is_dead es)

  marks-as : (marked : ℕ → Bool) (es : List (Entry T))
      → marks_of is_dead' marked (map (entry_as g) es) ≡ marks_of is_dead marked es
  marks-as marked es =
      ap (map (λ e. marked e.slot)) (candidates-as g is_dead is_dead' same es)
      ∙ map-map (λ e. marked e.slot) (entry_as g) (candidates is_dead es)

  staying-as : (marked : ℕ → Bool) (es : List (Entry T))
      → staying is_dead' marked (map (entry_as g) es) ≡ map (entry_as g) (staying is_dead marked es)
  staying-as marked es = grind (arith, filter-map, filter_agree)

  pub RecoverStep-as : {F : Type 0} (calls : F → T → Bool → F → Type 0)
      (others : F → U → Bool → F → Type 0)
      → ((f : F) (x : T) (r : Bool) (h : F) → calls f x r h → others f (g x) r h)
      → (old : RegistryState T) (f : F) (mode : ReleaseMode) (state : ReleaseState)
      (new : RegistryState T) (h : F)
      → RecoverStep calls is_dead old f mode state new h
      → RecoverStep others is_dead' (registry_as g old) f mode state (registry_as g new) h
  RecoverStep-as {F} calls others step old f mode state new h r =
      let a = CalledInTurn-as calls others (λ s. s) g (λ _. Unit {0})
      (λ s x b t i c. (step s x b t c, tt)) f (details_where is_dead old)
      (marks_of is_dead r.marked old.entries) h tt r.called in
      record {
        marked = r.marked;
        called = rw (called-as old.entries, marks-as r.marked old.entries) a.0;
        recovers = (
          rw (
            staying-as r.marked old.entries,
            length-map old.entries (entry_as g),
            length-map new.entries (entry_as g),
          ) (ap (registry_as g) r.recovers.0),
          r.recovers.1,
        );
      }

-- a recovery by a callback that holds a `&mut` to another one
pub RecoversBy-lent : {F G T : Type 0} (calls : F → T → Bool → F → Type 0)
    (others : G → T → Bool → G → Type 0) (k : F → G) (name : F → ℕ)
    → ((f : F) (x : T) (r : Bool) (h : F) → calls f x r h → (name h ≡ name f)
    × others (k f) x r (k h))
    → (is_dead : T → Bool) (old : ContainerState T) (f : F) (mode : ReleaseMode)
    (state : ReleaseState) (new : ContainerState T) (h : F)
    → RecoversBy calls is_dead old f mode state new h → (name h ≡ name f)
    × RecoversBy others is_dead old (k f) mode state new (k h)
RecoversBy-lent calls others k name step is_dead old f mode state new h r =
    let t = RecoversBy-through calls others k (λ s. name s ≡ name f)
    (λ s x b u i c. let e = step s x b u c in (e.1, e.0 ∙ i)) is_dead old f mode state new h refl r
    in (t.1, t.0)

-- a visit by a callback that holds a `&mut` to another one, which sees other details
module _ {F G A B : Type 0} (calls : F → A → CallbackProgression → F → Type 0)
    (others : G → B → CallbackProgression → G → Type 0) (k : F → G) (u : A → B) (name : F → ℕ)
    (step : (f : F) (x : A) (r : CallbackProgression) (h : F) → calls f x r h → (name h ≡ name f)
    × others (k f) (u x) r (k h)) where
  visits-lent : (f : F) (items : List A) (h : F) → Visits calls f items h
      → (name h ≡ name f) × Visits others (k f) (map u items) (k h)
  visits-lent f [] h done = (ap name done, ap k done)
  visits-lent f (x ∷ xs) h (inl stopped) = let s = step f x Stop h stopped in (s.0, inl s.1)
  visits-lent f (x ∷ xs) h (inr goes) = grind (arith, step, visits-lent goes.0 xs h goes.2)

  pub Visit-lent : (f : F) (items : List A) (h : F) → Visit calls f items h
      → (name h ≡ name f) × Visit others (k f) (map u items) (k h)
  Visit-lent f items h visit = grind (arith, visits-lent)
