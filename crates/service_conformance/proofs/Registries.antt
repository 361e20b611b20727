-- Registries: lists of entries by rising slot, adds that take a given slot, and removals.
use Rattle.service_conformance.proofs.Names.{All, All-head, All-tail, AllPairs, AllPairs-cons, Err, HoldsAt, IfNone, IfSome, IsBinarySearchResult, IsSearchInRange, List, MatchOption, None, Ok, Option, Result, Some, [], ap, arith, cases_lt, get_or, get_or-drop, get_or-take, inl, inr, length, length-drop, length-take, nat_cmp, nat_tests, ordering_index, ranked, result_err, slice_get_cases, subst, sym, ℕ, ◌++◌, ◌+◌, ◌<◌, ◌∷◌, ◌≡◌, ◌≢◌, ◌≤◌, false_from_ne_true, if◌then◌else◌, lt-ltb, ltb-true, nat_lt, refl, ◌∙◌, Entry, HasAt, IsAt, IsFreePosition, InsertsOne, All-append, All-cons, All-nil, All-weaker, cases_order, drop, insert, suc, take, take-append-drop, AddStep, ContainerAddFailure, Handle, HasRoom, IsFull, IsLocked, IsRegistry, MayGive, OutOfSpace, RegistryState, TakesEntry, handle_of, slot_entry, Bool, get_or_from_slice_get, remove, slice_get_within, split_at, HasEntry, ReleaseMode, ReleaseState, RemoveStep, StandsAt, lock_after, release_state, with_left, slice_get, All-filter, AllPairs-filter, false, filter, length-filter_both, list_any, not, true, ◌&&◌, ◌||◌, PortDetails, candidates, goes, has_ports_of, is_of, node_of, stays, without_ports, ports_at_rest}
use Rattle.iox2_container.proofs.Lists.{AllPairs-head, AllPairs-tail, All-back, All-put, length-InsertsOne}
use Rattle.iox2_container.proofs.Keeping.{kept_add, All-gain, kept_remove, All-loss, nothing_left, locks_empty}

-- the entries stand by rising slot
abbrev pub Rise : {T : Type 0} → List (Entry T) → Type 0
Rise es = AllPairs (λ a b. a.slot < b.slot) es

-- an entry among others by rising slot
abbrev put : {T : Type 0} → Entry T → List (Entry T) → List (Entry T)
put x [] = x ∷ []
put x (y ∷ ys) = if nat_lt x.slot y.slot then x ∷ y ∷ ys else y ∷ put x ys

put_is : {T : Type 0} (b a : List (Entry T)) (x : Entry T) → Rise (b ++ x ∷ a)
    → b ++ x ∷ a ≡ put x (b ++ a)
put_is [] [] x r = refl
put_is {T} [] (y ∷ a) x r =
    let less =
    All-head (λ w. x.slot < w.slot) y a
    (AllPairs-head (λ (v w : Entry T). v.slot < w.slot) x (y ∷ a) r) in
    rw (lt-ltb x.slot y.slot less) refl
put_is {T} (y ∷ b) a x r =
    let R : Entry T → Entry T → Type 0 = λ v w. v.slot < w.slot in
    let less = All-head (R y) x a (All-back (R y) b (x ∷ a) (AllPairs-head R y (b ++ x ∷ a) r)) in
    let later = false_from_ne_true (nat_lt x.slot y.slot)
    (λ t. omega (arith, less, ltb-true x.slot y.slot t)) in
    rw later (ap (λ (l : List (Entry T)). y ∷ l) (put_is b a x (AllPairs-tail R y (b ++ x ∷ a) r)))

-- an entry has one position among others
pub one_position : {T : Type 0} (old new : List (Entry T)) (x : Entry T) → InsertsOne old new x
    → Rise new → new ≡ put x old
one_position old new x g r =
    g.new_is ∙ (put_is g.before g.after x (rw g.new_is at r) ∙ ap (put x) (sym g.old_is))

-- where an entry is put between those below and those above, they rise
pub rise_put : {T : Type 0} (b a : List (Entry T)) (x : Entry T) → Rise (b ++ a)
    → All (λ e. e.slot < x.slot) b → All (λ e. x.slot < e.slot) a → Rise (b ++ x ∷ a)
rise_put {T} [] a x r below above = AllPairs-cons (λ (v w : Entry T). v.slot < w.slot) x a above r
rise_put {T} (y ∷ b) a x r below above =
    let R : Entry T → Entry T → Type 0 = λ v w. v.slot < w.slot in
    AllPairs-cons R y (b ++ x ∷ a)
    (All-put (R y) b a x (AllPairs-head R y (b ++ a) r)
    (All-head (λ (e : Entry T). e.slot < x.slot) y b below))
    (rise_put b a x (AllPairs-tail R y (b ++ a) r)
    (All-tail (λ (e : Entry T). e.slot < x.slot) y b below) above)

module _ {T : Type 0} (es : List (Entry T)) (rises : Rise es) (slot : ℕ) where
  orders_rise : (i j : ℕ) (d : Entry T) → i ≤ j → j < length es
      → ordering_index (nat_cmp (get_or es i d).slot slot)
      ≤ ordering_index (nat_cmp (get_or es j d).slot slot)
  orders_rise i j d le h = grind (arith, cases_lt, nat_tests)

  -- what a binary search for the slot finds
  pub searched : (found : Result ℕ ℕ) (position : Option ℕ) → position ≡ result_err found
      → IsSearchInRange found (length es)
      → IsBinarySearchResult (λ e. nat_cmp e.slot slot) es found
      → record {
        none : IfNone position (¬ (All (λ e. e.slot ≢ slot) es));
        some : IfSome position (IsFreePosition es slot);
      }
  searched (Ok at) p e within is = rw e (record {
    none = taken es at within (λ d. ranked _ slot _ (sym (is d)));
    some = tt;
  })
    where
      taken : (es : List (Entry T)) (at : ℕ) → at < length es
          → HoldsAt (λ e. e.slot ≡ slot) es at → ¬ (All (λ e. e.slot ≢ slot) es)
      taken [] at h is free = omega (arith, h)
      taken (e ∷ es) at h is free = free at e h (is e)
  searched (Err at) p e within is =
      let parts = is (λ i j d le h. orders_rise i j d le h) in
      rw e (record {
        none = tt;
        some = record {
          within = within;
          below = λ k d h. (
              let short : k < at = omega (arith, length-take at es) in
              let less : (get_or es k d).slot < slot =
              ranked _ slot _ (sym (parts.0 k d (omega arith) short)) in
              rw (get_or-take at es k d short) less);
          above = λ k d h. (
              let there : at + k < length es = omega (arith, length-drop at es) in
              let more : slot < (get_or es (at + k) d).slot =
              ranked _ slot _ (sym (parts.1 (at + k) d (omega arith) there)) in
              rw (get_or-drop at es k d) more);
        };
      })

-- what is found in a position stands there
pub first_at : {T : Type 0} (es : List (Entry T)) (slot ticket : ℕ) (None_is : Type 0)
    (Before : ℕ → Type 0) (found : Option ℕ)
    → MatchOption found None_is (λ i. (i < length es) × HoldsAt (IsAt slot ticket) es i × Before i)
    → IfSome found (HasAt es slot ticket)
first_at es slot ticket None_is Before None is = tt
first_at es slot ticket None_is Before (Some i) is = elim (slice_get_cases es i).1 [
  | inl at ↦ (at.0, at.2, subst (IsAt slot ticket) at.3 (is.1 at.0))
  | inr past ↦ absurd (omega (arith, past.0, is.0))
]

-- an entry has one position: without it, the others are the same
pub one_gone : {T : Type 0} (b a c d : List (Entry T)) (x y : Entry T) → b ++ x ∷ a ≡ c ++ y ∷ d
    → x.slot ≡ y.slot → Rise (b ++ x ∷ a) → b ++ a ≡ c ++ d
one_gone {T} [] a [] d x y e s r = cc
one_gone {T} [] a (z ∷ c) d x y e s r =
    let R : Entry T → Entry T → Type 0 = λ v w. v.slot < w.slot in
    let rest : a ≡ c ++ y ∷ d = cc in
    let up : All (R x) (c ++ y ∷ d) =
    subst (λ (l : List (Entry T)). All (R x) l) rest (AllPairs-head R x a r) in
    let one : x.slot < y.slot = All-head (R x) y d (All-back (R x) c (y ∷ d) up) in
    absurd (omega arith)
one_gone {T} (z ∷ b) a [] d x y e s r =
    let R : Entry T → Entry T → Type 0 = λ v w. v.slot < w.slot in
    let first : z ≡ y = cc in
    let one : z.slot < x.slot =
    All-head (R z) x a (All-back (R z) b (x ∷ a) (AllPairs-head R z (b ++ x ∷ a) r)) in
    absurd (omega (arith, ap (λ (v : Entry T). v.slot) first))
one_gone {T} (z ∷ b) a (w ∷ c) d x y e s r =
    let R : Entry T → Entry T → Type 0 = λ v w. v.slot < w.slot in
    let first : z ≡ w = cc in
    let others : b ++ x ∷ a ≡ c ++ y ∷ d = cc in
    let rest : b ++ a ≡ c ++ d = one_gone b a c d x y others s (AllPairs-tail R z (b ++ x ∷ a) r) in
    cc

-- a full registry has no room
pub no_room : {T : Type 0} (r : RegistryState T) → IsFull r → HasRoom r → ⊥
no_room r (inl f) room = absurd (omega (arith, f, room.0))
no_room r (inr f) room = absurd (omega (arith, f, room.1))

-- one add leaves one registry
pub add_once : {T : Type 0} (r n m : RegistryState T) (d : T)
    (answer : Result Handle ContainerAddFailure)
    → AddStep r d answer n → AddStep r d answer m → IsRegistry n → IsRegistry m → n ≡ m
add_once r n m d (Err IsLocked) s t k l = s.1 ∙ sym t.1
add_once r n m d (Err OutOfSpace) s t k l = s.2 ∙ sym t.2
add_once {T} r n m d (Ok handle) s t k l =
    let x : Entry T = record { slot = handle.slot; ticket = r.used; details = d } in
    let entries : n.entries ≡ m.entries = one_position r.entries n.entries x s.2.2 k.slots_rise
    ∙ sym (one_position r.entries m.entries x t.2.2 l.slots_rise) in
    s.2.3
    ∙ (ap (λ (es : List (Entry T)). record r { entries = es; used = r.used + 1 }) entries
    ∙ sym t.2.3)

-- the handle that an add gave is one that it may give
pub was_given : {T : Type 0} (r new : RegistryState T) (details : T) (handle : Handle)
    → AddStep r details (Ok handle) new → IsRegistry new → MayGive r handle
was_given {T} r new details handle s k =
    let x : Entry T = slot_entry handle.slot r.used details in
    let e : handle ≡ handle_of r x = s.2.0 in
    let g : InsertsOne r.entries new.entries x = s.2.2 in
    let one : x.slot < new.capacity =
    All-head (λ y. y.slot < new.capacity) x g.after
    (All-back (λ y. y.slot < new.capacity) g.before (x ∷ g.after)
    (rw g.new_is at k.slots_below)) in
    let same : new.capacity ≡ r.capacity = ap (λ (s : RegistryState T). s.capacity) s.2.3 in
    record {
      service = ap (λ (k : Handle). k.service) e;
      role = ap (λ (k : Handle). k.role) e;
      ticket = ap (λ (k : Handle). k.ticket) e;
      fits = omega arith;
      free = s.2.1;
    }

-- the registry after an entry came
abbrev pub with_entry : {T : Type 0} → RegistryState T → ℕ → Entry T → RegistryState T
with_entry r position x =
    record r { entries = take position r.entries ++ x ∷ drop position r.entries; used = r.used + 1 }

handle_is : {T : Type 0} (r : RegistryState T) (handle : Handle) (details : T) → MayGive r handle
    → handle ≡ handle_of r (slot_entry handle.slot r.used details)
handle_is r handle details m = rw (← m.service, ← m.role, ← m.ticket) refl

-- what may be given can be, in a position that is free
pub given : {T : Type 0} (r : RegistryState T) (details : T) (handle : Handle) (position : ℕ)
    → IsRegistry r → TakesEntry r → MayGive r handle → IsFreePosition r.entries handle.slot position
    → AddStep r details (Ok handle)
    (with_entry r position (slot_entry handle.slot r.used details))
    × IsRegistry (with_entry r position
    (slot_entry handle.slot r.used details))
given {T} r details handle position k takes m there =
    let x : Entry T = slot_entry handle.slot r.used details in
    let es = take position r.entries ++ x ∷ drop position r.entries in
    let g : InsertsOne r.entries es x = record {
      before = take position r.entries;
      after = drop position r.entries;
      old_is = sym (take-append-drop position r.entries);
      new_is = refl;
    } in
    let rises : Rise es =
    rise_put (take position r.entries) (drop position r.entries) x
    (subst (λ (l : List (Entry T)). Rise l)
    (sym (take-append-drop position r.entries)) k.slots_rise)
    there.below there.above in (
      (takes.0, takes.1, (handle_is r handle details m, m.free, g, refl)),
      kept_add r r.capacity es x k g takes.0 takes.1.1 refl rises
          (All-gain (λ (e : Entry T). e.slot < r.capacity) r.entries es x g k.slots_below m.fits),
    )

-- a free slot has a position
position_for : {T : Type 0} (es : List (Entry T)) (slot : ℕ) → Rise es → All (λ e. e.slot ≢ slot) es
    → (position : ℕ) × IsFreePosition es slot position
position_for [] slot rises free = grind (arith, All-nil)
position_for {T} (e ∷ es) slot rises free =
    let R : Entry T → Entry T → Type 0 = λ v w. v.slot < w.slot in
    let rest = position_for es slot (AllPairs-tail R e es rises)
    (All-tail (λ (e : Entry T). e.slot ≢ slot) e es free) in
    elim (cases_order e.slot slot) [
      | inl same ↦ absurd (All-head (λ (e : Entry T). e.slot ≢ slot) e es free same)
      | inr (inl less) ↦ (
        suc rest.0,
        record {
          within = omega (arith, rest.1.within);
          below = All-cons (λ (e : Entry T). e.slot < slot) e (take rest.0 es) less rest.1.below;
          above = rest.1.above;
        },
      )
      | inr (inr more) ↦ (
        0,
        record {
          within = omega arith;
          below = All-nil (λ (e : Entry T). e.slot < slot);
          above = All-cons (λ (e : Entry T). slot < e.slot) e es more
              (All-weaker (R e) (λ (w : Entry T). slot < w.slot) (λ w h. omega arith) es
              (AllPairs-head R e es rises));
        },
      )
    ]

-- what may be given can be
pub can_give : {T : Type 0} (r : RegistryState T) (details : T) (handle : Handle) → IsRegistry r
    → TakesEntry r → MayGive r handle
    → (new : RegistryState T) × AddStep r details (Ok handle) new × IsRegistry new
can_give r details handle k takes m =
    let there = position_for r.entries handle.slot k.slots_rise m.free in
    let so = given r details handle there.0 k takes m there.1 in (
      with_entry r there.0
          (slot_entry handle.slot r.used details),
      so.0,
      so.1,
    )

-- the registry after the entry of a handle came, by the fields
pub with_entry_is : {T : Type 0} (s r : RegistryState T) (position : ℕ) (handle : Handle)
    (details : T)
    (l : List (Entry T)) → s ≡ r → MayGive r handle
    → l ≡ insert s.entries position (slot_entry handle.slot handle.ticket details)
    → record s { entries = l; used = s.used + 1 }
    ≡ with_entry r position (slot_entry handle.slot r.used details)
with_entry_is s r position handle details l e m i = rw (i, e, m.ticket) refl

pub not_free : {T : Type 0} (r : RegistryState T) (es : List (Entry T)) (slot : ℕ) → es ≡ r.entries
    → (All (λ e. e.slot ≢ slot) es → ⊥) → (h : Handle) → h.slot ≡ slot → MayGive r h → ⊥
not_free {T} r es slot same n h e m = grind arith

pub free_in : {T : Type 0} (r : RegistryState T) (es : List (Entry T)) (slot k position : ℕ)
    → es ≡ r.entries
    → slot ≡ k → IsFreePosition es slot position → All (λ e. e.slot ≢ k) r.entries
free_in {T} r es slot k position same is f =
    let P : Entry T → Type 0 = λ e. e.slot ≢ k in
    subst (λ (l : List (Entry T)). All P l) (take-append-drop position es ∙ same)
    (All-append P (take position es) (drop position es)
    (All-weaker (λ (e : Entry T). e.slot < slot) P (λ e h q. omega arith)
    (take position es) f.below)
    (All-weaker (λ (e : Entry T). slot < e.slot) P (λ e h q. omega arith)
    (drop position es) f.above))

pub has_handle : {T : Type 0} (r : RegistryState T) (handle : Handle) (x : Entry T)
    → handle.service ≡ r.service → handle.role ≡ r.role → IsAt handle.slot handle.ticket x
    → handle ≡ handle_of r x
has_handle r handle x s o a = rw (← s, ← o, a.0, a.1) refl

-- what went stood in its position
abbrev pub gone : {T : Type 0} (es : List (Entry T)) (position : ℕ) (x : Entry T)
    → slice_get es position ≡ Some x → InsertsOne (remove es position) es x
gone {T} es position x e = record {
  before = take position es;
  after = drop (suc position) es;
  old_is = refl;
  new_is = split_at es position x (slice_get_within es position x e)
      ∙ ap (λ y. take position es ++ y ∷ drop (suc position) es)
      (get_or_from_slice_get es position x x e);
}

-- what stands in a position has its handle
pub stands : {T : Type 0} (r : RegistryState T) (handle : Handle) (position : ℕ)
    (s : StandsAt r handle position) → HasEntry r handle s.0.details
stands r handle position s =
    (s.0, s.2, refl, (remove r.entries position, gone r.entries position s.0 s.1))

-- one removal leaves one registry, whatever it answers
pub remove_once : {T : Type 0} (r n m : RegistryState T) (handle : Handle) (mode : ReleaseMode)
    (one two : ReleaseState) → IsRegistry r → RemoveStep r handle mode (Ok one) n
    → RemoveStep r handle mode (Ok two) m → n ≡ m
remove_once {T} r n m handle mode one two k s t =
    let x = s.0.0 in
    let y = t.0.0 in
    let g : InsertsOne n.entries r.entries x = s.0.2 in
    let j : InsertsOne m.entries r.entries y = t.0.2 in
    let slots : x.slot ≡ y.slot = ap (λ (q : Handle). q.slot) (sym s.0.1 ∙ t.0.1) in
    let entries : n.entries ≡ m.entries = g.old_is
    ∙ (one_gone g.before g.after j.before j.after x y (sym g.new_is ∙ j.new_is) slots
    (rw g.new_is at k.slots_rise) ∙ sym j.old_is) in
    s.0.3 ∙ (ap (with_left r mode) entries ∙ sym t.0.3)

-- without one entry it is a registry still
pub kept_without : {T : Type 0} (r : RegistryState T) (mode : ReleaseMode) (rest : List (Entry T))
    (x : Entry T)
    → IsRegistry r → InsertsOne rest r.entries x → IsRegistry (with_left r mode rest)
kept_without {T} r mode rest x k g =
    let one : length r.entries ≡ length rest + 1 = length-InsertsOne rest r.entries x g in
    kept_remove r r.capacity rest x (lock_after mode (length r.entries) (length rest) r.locked) k g
    (All-loss (λ (q : Entry T). q.slot < r.capacity) rest r.entries x g k.slots_below)
    (λ t. nothing_left rest
    (locks_empty mode (length r.entries) (length rest) r.locked t
    (λ l. ap length (k.locked_is_empty l)) (omega arith)))

-- the entry of a handle can be removed
pub can_remove : {T : Type 0} (r : RegistryState T) (handle : Handle) (mode : ReleaseMode)
    (details : T)
    → IsRegistry r → (has : HasEntry r handle details)
    → RemoveStep r handle mode (Ok (release_state (with_left r mode has.3.0).locked))
    (with_left r mode has.3.0)
    × IsRegistry (with_left r mode has.3.0)
can_remove r handle mode details k has =
    (((has.0, has.1, has.3.1, refl), refl), kept_without r mode has.3.0 has.0 k has.3.1)

-- the registry after entries went, by the fields
pub with_left_is : {T : Type 0} (s r : RegistryState T) (mode : ReleaseMode)
    (f : List (Entry T) → List (Entry T)) (l : List (Entry T)) (before left : ℕ) (locked : Bool)
    → s ≡ r → l ≡ f s.entries → before ≡ length s.entries → left ≡ length l
    → locked ≡ lock_after mode before left s.locked
    → record s { entries = l; locked = locked } ≡ with_left r mode (f r.entries)
with_left_is s r mode f l before left locked e i b n k = rw (← e, k, b, n, i) refl

-- the entry in a position goes, and nothing else does
pub only_gone : {T : Type 0} (s r : RegistryState T) (handle : Handle) (position : ℕ)
    (mode : ReleaseMode) (l : List (Entry T)) (before left : ℕ) (locked : Bool)
    → s ≡ r → IsRegistry s → StandsAt r handle position → l ≡ remove s.entries position
    → before ≡ length s.entries → left ≡ length l → locked ≡ lock_after mode before left s.locked
    → IsRegistry (record s { entries = l; locked = locked })
    × ((state : ReleaseState) (new : RegistryState T)
    → RemoveStep r handle mode (Ok state) new → new ≡ record s { entries = l; locked = locked })
only_gone {T} s r handle position mode l before left locked e k at i b n j =
    let there = gone r.entries position at.0 at.1 in
    let registry : IsRegistry r = subst IsRegistry e k in
    rw (with_left_is s r mode (λ es. remove es position) l before left locked e i b n j) (
      kept_without r mode _ at.0 registry there,
      λ state new step. remove_once r new _ handle mode state _ registry step
          ((at.0, at.2, there, refl), refl),
    )

pub stands_at : {T : Type 0} (r : RegistryState T) (handle : Handle) (es : List (Entry T))
    (slot ticket position : ℕ) → handle.service ≡ r.service → handle.role ≡ r.role → es ≡ r.entries
    → slot ≡ handle.slot → ticket ≡ handle.ticket → HasAt es slot ticket position
    → StandsAt r handle position
stands_at {T} r handle es slot ticket position s o e a b h = (
  h.0,
  subst (λ (l : List (Entry T)). slice_get l position ≡ Some h.0) e h.1,
  has_handle r handle
      h.0 s o (h.2.0 ∙ a, h.2.1 ∙ b),
)

-- its details, as they are read
pub has_read : {T : Type 0} (r : RegistryState T) (handle : Handle) (position : ℕ) (x : Entry T)
    (d : T) → StandsAt r handle position → x ≡ get_or r.entries position x → d ≡ x.details
    → HasEntry r handle d
has_read r handle position x d s e is =
    let same : s.0 ≡ x = sym (get_or_from_slice_get r.entries position s.0 x s.1) ∙ sym e in
    subst (HasEntry r handle) (ap (λ y. y.details) same ∙ sym is) (stands r handle position s)

pub kept_filter : {T : Type 0} (r : RegistryState T) (mode : ReleaseMode) (p : Entry T → Bool)
    → IsRegistry r → IsRegistry (with_left r mode (filter p r.entries))
kept_filter {T} r mode p k = record {
  slots_rise = AllPairs-filter (λ (a b : Entry T). a.slot < b.slot) p r.entries k.slots_rise;
  slots_below = All-filter p (λ (e : Entry T). e.slot < r.capacity) r.entries k.slots_below;
  tickets_differ = AllPairs-filter
      (λ (a b : Entry T). a.ticket ≢ b.ticket) p r.entries k.tickets_differ;
  tickets_used = All-filter p (λ (e : Entry T). e.ticket < r.used) r.entries k.tickets_used;
  budget_kept = k.budget_kept;
  locked_is_empty = grind (arith, nothing_left, locks_empty, length-filter_both);
}

-- one port more, by whether it is one of the dead node and whether it is kept
left_more : (b k : Bool) (e : Entry PortDetails) (left : List (Entry PortDetails)) (any : Bool)
    (is_dead : Entry PortDetails → Bool) → is_dead e ≡ b
    → any ≡ nat_lt 0 (length (filter is_dead left))
    → ((b && k) || any)
    ≡ nat_lt 0 (length (filter is_dead (if not (b && not k) then e ∷ left else left)))
left_more true true e left any is_dead is rest = grind (arith, lt-ltb)
left_more true false e left any is_dead is rest = rest
left_more false k e left any is_dead is rest = grind arith

-- a port of the dead node is left where one of them stays
stays_left : (dead : ℕ) (kept : List ℕ) (es : List (Entry PortDetails))
    → list_any (λ e. stays dead kept e.details) es
    ≡ nat_lt 0 (length (candidates (is_of node_of dead)
    (filter (λ e. not (goes dead kept e.details)) es)))
stays_left dead kept [] = refl
stays_left dead kept (e ∷ es) = grind (arith, left_more, stays_left dead kept es)

-- the same of both kinds of ports
pub some_left : (dead : ℕ) (kept : List ℕ) (first second : RegistryState PortDetails)
    → (list_any (λ e. stays dead kept e.details) first.entries
    || list_any (λ e. stays dead kept e.details) second.entries)
    ≡ has_ports_of dead
    (ports_at_rest (without_ports dead kept first) (without_ports dead kept second))
some_left dead kept first second =
    rw (stays_left dead kept first.entries, stays_left dead kept second.entries) refl
