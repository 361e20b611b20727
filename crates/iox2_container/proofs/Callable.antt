-- Callbacks that may be called on items in turn; those that collect or count what they are called
-- on, or answer by what they hold.
use Rattle.iox2_container.proofs.Prelude.{Bool, CallbackProgression, Called, CalledAt, CalledInTurn, CanBeCalled, CanVisit, Continue, IsTrue, List, MayCall, MayVisit, Mut, Takes, TakesAt, Visit, Visits, [], ap, append-nil, append_assoc, arith, false, filter, if◌then◌else◌, inl, inr, length, length-map, map, refl, sym, true, ℕ, ◌++◌, ◌+◌, ◌<◌, ◌∙◌, ◌∷◌, ◌≡◌, ◌≤◌}
use Rattle.std.specs.Global.{Vec}
use denote.Ref.{Bor}
use denote.Param.Always.{always_mut, mut_next}
use Rattle.iox2_texts.proofs.Callable.{takes_always, next_always, always_after_visits}
pub use Rattle.iox2_texts.proofs.Callable.{CanVisit-by, CanVisit-from_always, CanVisit-from_total}

-- what each state takes, and what each call leaves it in, gives it for any items
module _ {F A R : Type 0} (takes : F → A → Type 0) (calls : F → A → R → F → Type 0)
    (I : F → List A → Type 0)
    (may_call : (f : F) (x : A) (xs : List A) → I f (x ∷ xs) → takes f x)
    (keeps : (f : F) (x : A) (xs : List A) (r : R) (h : F) → I f (x ∷ xs) → calls f x r h
    → I h xs) where
  may_call_by : (f : F) (items : List A) → I f items → MayCall takes calls f items
  may_call_by f [] i = tt
  may_call_by f (x ∷ xs) i = (may_call f x xs i, λ r h c. may_call_by h xs (keeps f x xs r h i c))

  pub CanBeCalled-by : (f : F) (items : List A) → I f items → CanBeCalled takes calls f items
  CanBeCalled-by f items i = record { may_call = may_call_by f items i }

-- what holds at first, and what each call keeps, holds in the end
pub CalledInTurn-keeps : {F A R : Type 0} (calls : F → A → R → F → Type 0)
    (I : F → List A → List R → Type 0)
    → ((f : F) (x : A) (xs : List A) (r : R) (rs : List R) (h : F) → I f (x ∷ xs) (r ∷ rs)
    → calls f x r h → I h xs rs)
    → (f : F) (items : List A) (answers : List R) (h : F) → I f items answers
    → CalledInTurn calls f items answers h → I h [] []
CalledInTurn-keeps calls I keeps f [] [] h i a = rw a i
CalledInTurn-keeps calls I keeps f (x ∷ xs) (r ∷ rs) h i a =
    CalledInTurn-keeps calls I keeps a.0 xs rs h (keeps f x xs r rs a.0 i a.1) a.2
CalledInTurn-keeps calls I keeps f items answers h i a = absurd a

-- a callback that may always be called: it is called on
-- any items in turn, and may always be called afterwards
module _ {F A R : Type 0} (g : Mut F (Bor A × Unit {0}) R) where
  pub CanBeCalled-from_always : (f : F) (items : List A) → always_mut g f
      → CanBeCalled (TakesAt g) (CalledAt g) f items
  CanBeCalled-from_always =
      CanBeCalled-by (TakesAt g) (CalledAt g) (λ f _. always_mut g f)
      (λ f x xs m. takes_always g f x m) (λ f x xs r h m c. next_always g f x r h m c)

  pub always_after_CalledInTurn : (f : F) (items : List A) (answers : List R) (h : F)
      → always_mut g f
      → CalledInTurn (CalledAt g) f items answers h → always_mut g h
  always_after_CalledInTurn =
      CalledInTurn-keeps (CalledAt g) (λ f _ _. always_mut g f)
      (λ f x xs r rs h m c. next_always g f x r h m c)

-- the same, where it takes the items by value
pub CanBeCalled-from_always_values : {F A R : Type 0} (g : Mut F (A × Unit {0}) R) (f : F)
    (items : List A) → always_mut g f
    → CanBeCalled (λ h x. Takes g h (x, tt)) (λ h x r h'. Called g h (x, tt) r h') f items
CanBeCalled-from_always_values g =
    CanBeCalled-by (λ h x. Takes g h (x, tt)) (λ h x r h'. Called g h (x, tt) r h')
    (λ f _. always_mut g f) (λ f x xs m. (m.at ((x, tt) ∷ [])).0)
    (λ f x xs r h m c. mut_next g f (x, tt) r h h c refl m)

-- and where it is shown items
pub always_after_Visit : {F A : Type 0} (g : Mut F (Bor A × Unit {0}) CallbackProgression)
    (f : F) (items : List A) (h : F) → always_mut g f → Visit (CalledAt g) f items h
    → always_mut g h
always_after_Visit g f items h m visit = always_after_visits g f items h m visit.visits

-- a callback that takes any item in any state
pub CanBeCalled-from_total : {F A R : Type 0} {takes : F → A → Type 0} {calls : F → A → R → F
    → Type 0} {f : F} {items : List A} → ((g : F) (x : A) → takes g x)
    → CanBeCalled takes calls f items
CanBeCalled-from_total {takes = takes} {calls = calls} {f = f} {items = items} h =
    CanBeCalled-by takes calls (λ _ _. Unit {0}) (λ g x xs i. h g x)
    (λ g x xs r k i c. tt) f items tt

-- a callback that calls another one about each item, seen in another way
module _ {F G A B R S : Type 0} (takes : F → A → Type 0) (calls : F → A → R → F → Type 0)
    (takes' : G → B → Type 0) (others : G → B → S → G → Type 0) (k : F → G) (u : A → B)
    (may_call : (f : F) (x : A) → takes' (k f) (u x) → takes f x)
    (steps : (f : F) (x : A) (r : R) (h : F) → calls f x r h → (s : S)
    × others (k f) (u x) s (k h)) where
  pub CanBeCalled-lent : (f : F) (items : List A) → CanBeCalled takes' others (k f) (map u items)
      → CanBeCalled takes calls f items
  CanBeCalled-lent f items m =
      CanBeCalled-by takes calls (λ f xs. MayCall takes' others (k f) (map u xs))
      (λ f x xs m. may_call f x m.0)
      (λ f x xs r h m c. let s = steps f x r h c in m.1 s.0 (k h) s.1) f items m.may_call

module _ {F G A B : Type 0} (takes : F → A → Type 0)
    (calls : F → A → CallbackProgression → F → Type 0) (takes' : G → B → Type 0)
    (others : G → B → CallbackProgression → G → Type 0) (k : F → G) (u : A → B)
    (may_call : (f : F) (x : A) → takes' (k f) (u x) → takes f x)
    (steps : (f : F) (x : A) (h : F) → calls f x Continue h
    → others (k f) (u x) Continue (k h)) where
  pub CanVisit-lent : (f : F) (items : List A) → CanVisit takes' others (k f) (map u items)
      → CanVisit takes calls f items
  CanVisit-lent f items m =
      CanVisit-by takes calls (λ f xs. MayVisit takes' others (k f) (map u xs))
      (λ f x xs m. may_call f x m.0) (λ f x xs h m c. m.1 (k h) (steps f x h c)) f items m.visits

-- called on the first items by such a callback, it may be called on the others
module _ {F A B R S : Type 0} (takes : F → B → Type 0) (calls : F → B → S → F → Type 0)
    (called : F → A → R → F → Type 0) (u : A → B)
    (steps : (f : F) (x : A) (r : R) (h : F) → called f x r h → (s : S) × calls f (u x) s h) where
  pub CanBeCalled-after : (f : F) (xs : List A) (ys : List B) (answers : List R) (g : F)
      → CanBeCalled takes calls f (map u xs ++ ys) → CalledInTurn called f xs answers g
      → CanBeCalled takes calls g ys
  CanBeCalled-after f xs ys answers g m a = record {
    may_call = CalledInTurn-keeps called (λ f xs _. MayCall takes calls f (map u xs ++ ys))
        (λ f x xs r rs h m c. let s = steps f x r h c in m.1 s.0 h s.1) f xs answers g m.may_call a;
  }

pub CanBeCalled-first : {F A R : Type 0} (takes : F → A → Type 0) (calls : F → A → R → F → Type 0)
    (f : F) (xs ys : List A) → CanBeCalled takes calls f (xs ++ ys) → CanBeCalled takes calls f xs
CanBeCalled-first takes calls f xs ys m =
    CanBeCalled-by takes calls (λ f xs. MayCall takes calls f (xs ++ ys)) (λ f x xs m. m.0)
    (λ f x xs r h m c. m.1 r h c) f xs m.may_call

-- what a caller's proofs need whose callback may always be called: to be named by `using` on a
-- crate, so that its calls need no answer
pub ruleset callbacks = (
  CanVisit-from_total,
  CanBeCalled-from_total,
  CanVisit-from_always,
  CanBeCalled-from_always,
  CanBeCalled-from_always_values,
  always_after_Visit,
  always_after_CalledInTurn,
)

-- a callback that puts what it makes of each item that
-- passes a test at the end of a list, and goes on
module _ {F A B N : Type 0} (calls : F → A → CallbackProgression → F → Type 0) (name : F → N)
    (keeps : F → Type 0) (items_of : F → List B) (len room : F → ℕ) (p : A → Bool) (u : A → B)
    (step : (q : F) (x : A) (r : CallbackProgression) (v : F) → keeps q → calls q x r v
    → (name v ≡ name q) × (r ≡ Continue)
    × (items_of v ≡ (if p x then items_of q ++ u x ∷ [] else items_of q))
    × (len v ≡ (if p x then len q + 1 else len q)) × (room v ≡ room q) × keeps v) where
  abbrev made : List A → List B
  made items = map u (filter p items)

  put_more : (f g : F) (b : Bool) (x : A) (xs : List A) (ys : List B) → ys ≡ items_of g ++ made xs
      → items_of g ≡ (if b then items_of f ++ u x ∷ [] else items_of f)
      → ys ≡ items_of f ++ map u (if b then x ∷ filter p xs else filter p xs)
  put_more f g true x xs ys e s = rw (e, s, append_assoc) refl
  put_more f g false x xs ys e s = rw (e, s) refl

  count_more : (f g : F) (n : ℕ) (b : Bool) (x : A) (xs : List A) → n ≡ len g + length (filter p xs)
      → len g ≡ (if b then len f + 1 else len f)
      → n ≡ len f + length (if b then x ∷ filter p xs else filter p xs)
  count_more f g n true x xs e s = omega (arith, e, s)
  count_more f g n false x xs e s = omega (arith, e, s)

  collects_more : (f : F) (items : List A) (f' : F) → keeps f → Visits calls f items f'
      → (name f' ≡ name f) × (items_of f' ≡ items_of f ++ made items)
      × (len f' ≡ len f + length (filter p items)) × (room f' ≡ room f)
  collects_more f [] f' k done = grind (arith, append-nil)
  collects_more f (x ∷ xs) f' k (inl stopped) = grind (arith, step)
  collects_more f (x ∷ xs) f' k (inr goes) =
      let s = step f x Continue goes.0 k goes.1 in
      let rest = collects_more goes.0 xs f' s.5 goes.2 in (
        rest.0 ∙ s.0,
        put_more f goes.0 (p x) x xs (items_of f') rest.1 s.2,
        count_more f goes.0 (len f') (p x) x xs rest.2 s.3,
        rest.3 ∙ s.4,
      )

  pub collects : (f : F) (items : List A) (f' : F) → keeps f → Visit calls f items f'
      → (name f' ≡ name f) × (items_of f' ≡ items_of f ++ map u (filter p items))
      × (len f' ≡ len f + length (filter p items)) × (room f' ≡ room f)
  collects f items f' k visit = collects_more f items f' k visit.visits

  -- it may be called while there is room
  module _ (takes : F → A → Type 0)
      (may_call : (f : F) (x : A) → keeps f → (IsTrue (p x) → len f < room f) → takes f x) where
    room_left : (f g : F) (b : Bool) (x : A) (xs : List A)
        → len f + length (if b then x ∷ filter p xs else filter p xs) ≤ room f
        → len g ≡ (if b then len f + 1 else len f) → room g ≡ room f
        → len g + length (filter p xs) ≤ room g
    room_left f g true x xs fits s e = omega (arith, fits, s, e)
    room_left f g false x xs fits s e = omega (arith, fits, s, e)

    room_for : (f : F) (b : Bool) (x : A) (xs : List A)
        → len f + length (if b then x ∷ filter p xs else filter p xs) ≤ room f → IsTrue b
        → len f < room f
    room_for f true x xs fits t = omega (arith, fits)
    room_for f false x xs fits t = (let z : false ≡ true = t in cc)

    pub CanVisit-collecting : (f : F) (items : List A) → keeps f
        × (len f + length (filter p items) ≤ room f) → CanVisit takes calls f items
    CanVisit-collecting =
        CanVisit-by takes calls (λ f xs. keeps f × (len f + length (filter p xs) ≤ room f))
        (λ f x xs k. may_call f x k.0 (room_for f (p x) x xs k.1))
        (λ f x xs h k c.
        (let s = step f x Continue h k.0 c in (s.5, room_left f h (p x) x xs k.1 s.3 s.4)))

-- what all pass is the whole list
pub passes_all : {A : Type 0} (items : List A) → filter (λ (x : A). true) items ≡ items
passes_all [] = refl
passes_all {A} (x ∷ xs) = ap (λ (l : List A). x ∷ l) (passes_all xs)

pub all_pass : {A B : Type 0} (u : A → B) (items : List A)
    → map u (filter (λ (x : A). true) items) ≡ map u items
all_pass u items = ap (map u) (passes_all items)

-- these were put at the end of a list, and no memory was taken for them
abbrev pub PutsAll : {B : Type 0} → List B → Vec B → Vec B → Type 0
PutsAll added old new =
    (new.items ≡ old.items ++ added) × (new.len ≡ old.len + length added) × (new.cap ≡ old.cap)

-- a callback that puts what it makes of each item at the end of a list, and goes on
module _ {F A B N : Type 0} (calls : F → A → CallbackProgression → F → Type 0) (name : F → N)
    (list_of : F → Vec B) (u : A → B)
    (step : (q : F) (x : A) (r : CallbackProgression) (v : F) → calls q x r v
    → (name v ≡ name q) × (r ≡ Continue) × PutsAll (u x ∷ []) (list_of q) (list_of v)) where
  pub all_put : (f : F) (items : List A) (h : F) → Visit calls f items h → (name h ≡ name f)
      × PutsAll (map u items) (list_of f) (list_of h)
  all_put f items h visit =
      let t = collects calls name (λ _. Unit {0}) (λ q. (list_of q).items) (λ q. (list_of q).len)
      (λ q. (list_of q).cap) (λ _. true) u
      (λ q x r v k e. (let s = step q x r v e in (s.0, s.1, s.2.0, s.2.1, s.2.2, tt))) f
      items h tt visit in (
        t.0,
        (
          t.1 ∙ ap (λ l. (list_of f).items ++ l) (all_pass u items),
          t.2
              ∙ ap (λ n. (list_of f).len + n)
              (ap length (passes_all items) ∙ sym (length-map items u)),
          t.3,
        ),
      )

  -- into an empty list with the capacity for just these
  pub all_listed : (f : F) (items : List A) (h : F) → Visit calls f items h
      → (list_of f).items ≡ [] → (list_of f).cap ≡ length items
      → (name h ≡ name f) × ((list_of h).items ≡ map u items)
      × ((list_of h).cap ≡ length (list_of h).items)
  all_listed f items h visit none room = grind (arith, all_put, length-map)

  -- it may be called while there is room
  module _ (takes : F → A → Type 0)
      (called : (f : F) (x : A) → (list_of f).len < (list_of f).cap → takes f x) where
    pub room_to_put : (f : F) (items : List A)
        → (list_of f).len + length (map u items) ≤ (list_of f).cap → CanVisit takes calls f items
    room_to_put f items fits =
        CanVisit-collecting calls name (λ _. Unit {0}) (λ q. (list_of q).items)
        (λ q. (list_of q).len) (λ q. (list_of q).cap) (λ _. true) u
        (λ q x r v k e. (let s = step q x r v e in (s.0, s.1, s.2.0, s.2.1, s.2.2, tt)))
        takes (λ q x k i. called q x (i refl)) f items
        (tt, omega (arith, fits, ap length (passes_all items), length-map items u))

-- a callback whose answers are those of a function of what it holds
pub answers_by : {F A R K : Type 0} (calls : F → A → R → F → Type 0) (held : F → K)
    (answer : K → A → R)
    → ((q : F) (x : A) (r : R) (v : F) → calls q x r v → (held v ≡ held q)
    × (r ≡ answer (held q) x)) → (f : F) (items : List A) (answers : List R) (g : F)
    → CalledInTurn calls f items answers g → answers ≡ map (answer (held f)) items
answers_by calls held answer step f items answers g a =
    (CalledInTurn-keeps calls (λ q xs rs. (held q ≡ held f)
    × (rs ≡ map (answer (held f)) xs → answers ≡ map (answer (held f)) items))
    (λ q x xs r rs v i c. let s = step q x r v c in (s.0 ∙ i.0, λ e. i.1 (cc))) f items answers g
    (refl, λ e. e) a).1 refl

-- a callback that counts one more at each call, and may be called while the count is below a bound
module _ {F A R : Type 0} (takes : F → A → Type 0) (calls : F → A → R → F → Type 0) (count : F → ℕ)
    (top : ℕ)
    (may_call : (f : F) (x : A) → count f + 1 < top → takes f x)
    (counts : (f : F) (x : A) (r : R) (h : F) → calls f x r h → count h ≡ count f + 1) where
  pub CanBeCalled-counting : (f : F) (items : List A) → count f + length items < top
      → CanBeCalled takes calls f items
  CanBeCalled-counting =
      CanBeCalled-by takes calls (λ f xs. count f + length xs < top)
      (λ f x xs i. may_call f x (omega (arith, i)))
      (λ f x xs r h i c. omega (arith, i, counts f x r h c))

module _ {F A : Type 0} (takes : F → A → Type 0) (calls : F → A → CallbackProgression → F → Type 0)
    (count : F → ℕ) (top : ℕ)
    (may_call : (f : F) (x : A) → count f + 1 < top → takes f x)
    (counts : (f : F) (x : A) (h : F) → calls f x Continue h → count h ≡ count f + 1) where
  pub CanVisit-counting : (f : F) (items : List A) → count f + length items < top
      → CanVisit takes calls f items
  CanVisit-counting =
      CanVisit-by takes calls (λ f xs. count f + length xs < top)
      (λ f x xs i. may_call f x (omega (arith, i)))
      (λ f x xs h i c. omega (arith, i, counts f x h c))

-- what it has counted in the end
pub tallied : {F A R N : Type 0} (calls : F → A → R → F → Type 0) (name : F → N) (count : F → ℕ)
    → ((q : F) (x : A) (r : R) (v : F) → calls q x r v → (name v ≡ name q)
    × (count v ≡ count q + 1))
    → (f : F) (items : List A) (answers : List R) (h : F) → CalledInTurn calls f items answers h
    → (name h ≡ name f) × (count h ≡ count f + length items)
tallied calls name count step f items answers h a =
    let t = CalledInTurn-keeps calls (λ q xs _. (name q ≡ name f)
    × (count q + length xs ≡ count f + length items))
    (λ q x xs r rs v i c. let s = step q x r v c in (s.0 ∙ i.0, omega (arith, i.1, s.1)))
    f items answers h (refl, refl) a in (t.0, omega (arith, t.1))

module _ {F A N : Type 0} (calls : F → A → CallbackProgression → F → Type 0) (name : F → N)
    (count : F → ℕ)
    (step : (q : F) (x : A) (r : CallbackProgression) (v : F) → calls q x r v → (name v ≡ name q)
    × (r ≡ Continue) × (count v ≡ count q + 1)) where
  tallied_visits : (f : F) (items : List A) (h : F) → Visits calls f items h → (name h ≡ name f)
      × (count h ≡ count f + length items)
  tallied_visits f [] h done = (ap name done, omega (arith, ap count done))
  tallied_visits f (x ∷ xs) h (inl stopped) = grind (arith, step)
  tallied_visits f (x ∷ xs) h (inr goes) = grind (arith, step, tallied_visits goes.0 xs h goes.2)

  pub tallied_visit : (f : F) (items : List A) (h : F) → Visit calls f items h → (name h ≡ name f)
      × (count h ≡ count f + length items)
  tallied_visit f items h visit = tallied_visits f items h visit.visits
