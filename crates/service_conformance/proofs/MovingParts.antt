-- Changes of one registry of a service, and two of them in either order.
use Rattle.service_conformance.proofs.Names.{Bool, List, Ok, [], ap, arith, length, refl, subst, sym, true, ℕ, ◌++◌, ◌||◌, ◌∙◌, ◌∷◌, ◌≡◌, inl, inr, map, ◌==◌, ◌≢◌, ◌⊎◌, Entry, Handle, InsertsOne, IsRegistry, RegistryState, ReleaseMode, ReleaseState, RemoveStep, handle_of, lock_after, release_state, with_left, First, IsService, PortDetails, Second, Service, Side, is_among, port_ids, port_of, port_value}
use Rattle.iox2_container.proofs.Lists.{gains_later, length-InsertsOne}
use Rattle.service_conformance.proofs.Registries.{kept_without}
use Rattle.service_conformance.proofs.Looking.{by_cases, IsBetween, LosesIds, loses_between}
use Rattle.service_conformance.specs.declared.conformance.possible.Part.TheVariants as part
use Rattle.service_conformance.proofs.Taking.{its_ports, Item, Place, Takes, TakesPorts, ports_are, registry_at, with_at}
use Rattle.service_conformance.proofs.Taking.Place.{of_nodes, of_ports}

-- the entries without the second alone
record WithoutSecond {T : Type 0} (whole left : List (Entry T)) (first second : Entry T) : Type 0
  where
    pub rest : List (Entry T)
    pub whole_has : InsertsOne rest whole second
    pub rest_has : InsertsOne left rest first

without_second : {T : Type 0} (a b c d : List (Entry T)) (x y : Entry T) → a ++ b ≡ c ++ y ∷ d
    → WithoutSecond (a ++ x ∷ b) (c ++ d) x y
without_second {T} [] b c d x y e = record {
  rest = x ∷ (c ++ d);
  whole_has = grind (arith, gains_later);
  rest_has = record { before = []; after = c ++ d; old_is = refl; new_is = refl };
}
without_second {T} (z ∷ a) b [] d x y e =
    let first : z ≡ y = cc in
    let others : d ≡ a ++ b = cc in
    rw (first, others) (record {
      rest = a ++ x ∷ b;
      whole_has = record { before = []; after = a ++ x ∷ b; old_is = refl; new_is = refl };
      rest_has = record { before = a; after = b; old_is = refl; new_is = refl };
    })
without_second {T} (z ∷ a) b (w ∷ c) d x y e =
    let first : z ≡ w = cc in
    let s = without_second a b c d x y (cc) in
    rw first (record {
      rest = w ∷ s.rest;
      whole_has = gains_later _ _ y w s.whole_has;
      rest_has = gains_later _ _ x w s.rest_has;
    })

-- the registry without the second entry alone
pub record RemovesOther {T : Type 0} (r m : RegistryState T) (first second : Handle)
    (mode : ReleaseMode) (one two : ReleaseState) : Type 0 where
  pub mid : RegistryState T
  pub before : RemoveStep r second mode (Ok one) mid
  pub after : RemoveStep mid first mode (Ok two) m
  pub kept : IsRegistry mid

module _ {T : Type 0} (r n m : RegistryState T) (first second : Handle) (mode : ReleaseMode)
    (one two : ReleaseState) (k : IsRegistry r) (s : RemoveStep r first mode (Ok one) n)
    (t : RemoveStep n second mode (Ok two) m) where
  pub entries_swap : RemovesOther r m first second mode one two
  entries_swap =
      let x = s.0.0 in
      let y = t.0.0 in
      let g : InsertsOne n.entries r.entries x = s.0.2 in
      let j : InsertsOne m.entries n.entries y = t.0.2 in
      let w = without_second g.before g.after j.before j.after x y (sym g.old_is ∙ j.new_is) in
      let whole : InsertsOne w.rest r.entries y =
      subst (λ (l : List (Entry T)). InsertsOne w.rest l y) (sym g.new_is) w.whole_has in
      let left : InsertsOne m.entries w.rest x =
      subst (λ (l : List (Entry T)). InsertsOne l w.rest x) (sym j.old_is) w.rest_has in
      let mid = with_left r mode w.rest in
      let long : length w.rest ≡ length n.entries =
      omega (
        arith,
        length-InsertsOne n.entries r.entries x g,
        length-InsertsOne w.rest r.entries y whole,
      ) in
      let lock : mid.locked ≡ n.locked =
      ap (λ (q : ℕ). lock_after mode (length r.entries) q r.locked) long
      ∙ sym (ap (λ (q : RegistryState T). q.locked) s.0.3) in
      let named : second ≡ handle_of r y =
      t.0.1 ∙ ap (λ (q : RegistryState T). handle_of q y) s.0.3 in
      let of_fields : RegistryState T → ℕ → Bool → RegistryState T =
      λ q count locked.
      record q {
        entries = m.entries;
        locked = lock_after mode count (length m.entries) locked;
      } in
      let last : m ≡ with_left mid mode m.entries =
      t.0.3
      ∙ (ap (λ (q : RegistryState T). of_fields q (length n.entries) n.locked) s.0.3
      ∙ (ap (λ (q : ℕ). of_fields r q n.locked) (sym long)
      ∙ ap (λ (q : Bool). of_fields r (length w.rest) q) (sym lock))) in
      record {
        mid = mid;
        before = ((y, named, whole, refl), s.1 ∙ ap release_state (sym lock));
        after = ((x, s.0.1, left, last), t.1);
        kept = kept_without r mode w.rest y k whole;
      }

-- what holds of some entry of the rest holds of some entry of the whole
module _ {T : Type 0} (some : List (Entry T) → Bool) (test : Entry T → Bool)
    (each : (x : Entry T) (l : List (Entry T)) → some (x ∷ l) ≡ (test x || some l)) where
  in_put : (b a : List (Entry T)) (x : Entry T) → some (b ++ a) ≡ true → some (b ++ x ∷ a) ≡ true
  in_put [] a x e = by_cases _ (test x) (λ t. each x a ∙ rw t refl) (λ f. each x a ∙ rw f e)
  in_put (y ∷ b) a x e = grind (arith, by_cases, in_put b a x)

  pub in_whole : (rest whole : List (Entry T)) (x : Entry T) → InsertsOne rest whole x
      → some rest ≡ true → some whole ≡ true
  in_whole rest whole x g e =
      ap some g.new_is ∙ in_put g.before g.after x (sym (ap some g.old_is) ∙ e)

-- of two changes the second is made first
pub record Exchange (First Second : Service → Service → Type 0) (old mid new : Service) : Type 0
  where
    pub between : Service
    pub before : Second old between
    pub after : First between new
    pub first : IsBetween old mid new
    pub second : IsBetween old between new

-- an exchange of the same steps, said in another way
pub exchanged : {A B First Second : Service → Service → Type 0} {old mid new : Service}
    (w : Exchange A B old mid new) → Second old w.between → First w.between new
    → Exchange First Second old mid new
exchanged w before after = grind arith

-- what is put in one place leaves another as it is
apart : (p q : Place) → p ≢ q → (s : Service) (n : RegistryState (Item p))
    (m : RegistryState (Item q)) → (registry_at q (with_at p s n) ≡ registry_at q s)
    × (with_at q (with_at p s n) m ≡ with_at p (with_at q s m) n)
apart of_nodes of_nodes differ s n m = absurd (differ refl)
apart of_nodes (of_ports First) differ s n m = (refl, refl)
apart of_nodes (of_ports Second) differ s n m = (refl, refl)
apart (of_ports First) of_nodes differ s n m = (refl, refl)
apart (of_ports Second) of_nodes differ s n m = (refl, refl)
apart (of_ports First) (of_ports First) differ s n m = absurd (differ refl)
apart (of_ports First) (of_ports Second) differ s n m = (refl, refl)
apart (of_ports Second) (of_ports First) differ s n m = (refl, refl)
apart (of_ports Second) (of_ports Second) differ s n m = absurd (differ refl)

stays_between : (p q : Place) → p ≢ q → (s : Service) (n : RegistryState (Item p))
    (m : RegistryState (Item q)) → IsBetween s (with_at p s n) (with_at q (with_at p s n) m)
stays_between of_nodes of_nodes differ s n m at id = absurd (differ refl)
stays_between of_nodes (of_ports side) differ s n m part.Nodes id = inr refl
stays_between of_nodes (of_ports side) differ s n m _ id = inl refl
stays_between (of_ports side) of_nodes differ s n m part.Nodes id = inl refl
stays_between (of_ports side) of_nodes differ s n m _ id = inr refl
stays_between (of_ports First) (of_ports First) differ s n m at id = absurd (differ refl)
stays_between (of_ports First) (of_ports Second) differ s n m part.First id = inr refl
stays_between (of_ports First) (of_ports Second) differ s n m _ id = inl refl
stays_between (of_ports Second) (of_ports First) differ s n m part.Second id = inr refl
stays_between (of_ports Second) (of_ports First) differ s n m _ id = inl refl
stays_between (of_ports Second) (of_ports Second) differ s n m at id = absurd (differ refl)

-- of steps in two places the second can be made first
module _ (p q : Place) (differ : p ≢ q)
    (One : RegistryState (Item p) → RegistryState (Item p) → Type 0)
    (Two : RegistryState (Item q) → RegistryState (Item q) → Type 0) (s mid t : Service)
  where
    places_swap : Takes p One s mid → Takes q Two mid t
        → Exchange (Takes p One) (Takes q Two) s mid t
    places_swap a b =
        let n = a.registry in
        let m = b.registry in
        let back : q ≢ p = λ e. differ (sym e) in
        let there = apart p q differ s n m in
        let left : t ≡ with_at p (with_at q s m) n =
        b.left ∙ (ap (λ (x : Service). with_at q x m) a.left ∙ there.1) in
        record {
          between = with_at q s m;
          before = grind (arith, apart);
          after = grind (arith, apart);
          first = grind (arith, stays_between);
          second = grind (arith, stays_between);
        }

module _ (Nodes : RegistryState ℕ → RegistryState ℕ → Type 0)
    (Ports : RegistryState PortDetails → RegistryState PortDetails → Type 0) (s mid t : Service)
  where
    pub ports_first : Takes of_nodes Nodes s mid → TakesPorts Ports mid t
        → Exchange (Takes of_nodes Nodes) (TakesPorts Ports) s mid t
    ports_first a (side, b) =
        let w = places_swap of_nodes (of_ports side) (λ e. (cc)) Nodes Ports s mid t a b in
        exchanged w (side, w.before) w.after

    pub nodes_first : TakesPorts Ports s mid → Takes of_nodes Nodes mid t
        → Exchange (TakesPorts Ports) (Takes of_nodes Nodes) s mid t
    nodes_first (side, a) b =
        let w = places_swap (of_ports side) of_nodes (λ e. (cc)) Ports Nodes s mid t a b in
        exchanged w w.before (side, w.after)

-- ports of two kinds
module _ (One Two : RegistryState PortDetails → RegistryState PortDetails → Type 0)
    (s mid t : Service) (a : TakesPorts One s mid) (b : TakesPorts Two mid t) where
  pub others_first : a.0 ≢ b.0 → Exchange (TakesPorts One) (TakesPorts Two) s mid t
  others_first differ =
      let w =
      places_swap (of_ports a.0) (of_ports b.0) (λ e. differ (cc)) One Two s mid t a.1 b.1 in
      exchanged w (b.0, w.before) (a.0, w.after)

  -- steps of handles of two roles are steps of two kinds of ports
  pub roles_apart : (h k : Handle)
      → ((r m : RegistryState PortDetails) → One r m → h.role ≡ r.role)
      → ((r m : RegistryState PortDetails) → Two r m → k.role ≡ r.role)
      → IsService s → IsService mid → h.role ≢ k.role → a.0 ≢ b.0
  roles_apart h k one two i j differ e = grind (arith, ports_are)

-- the entry of a handle is removed, with an answer that may be given, and others are left
abbrev pub Removal : {T : Type 0} → Handle → ReleaseMode → (ReleaseState → Type 0)
    → RegistryState T → RegistryState T → Type 0
Removal h mode May r m = (state : ReleaseState) × May state × RemoveStep r h mode (Ok state) m

-- what is put in a place stands there alone
there : (p : Place) (s : Service) (n : RegistryState (Item p))
    → registry_at p (with_at p s n) ≡ n
there of_nodes s n = refl
there (of_ports side) s n = its_ports side s n

again : (p : Place) (s : Service) (n m : RegistryState (Item p))
    → with_at p (with_at p s n) m ≡ with_at p s m
again of_nodes s n m = refl
again (of_ports First) s n m = refl
again (of_ports Second) s n m = refl

-- where an entry went, no id came
port_lost : (r n : RegistryState PortDetails) (x : Entry PortDetails)
    → InsertsOne n.entries r.entries x → (id : ℕ) → is_among (port_ids n) id ≡ true
    → is_among (port_ids r) id ≡ true
port_lost r n x g id e =
    in_whole (λ (l : List (Entry PortDetails)). is_among (port_ids (record r { entries = l })) id)
    (λ x. port_value (port_of x.details) == id) (λ x l. refl) n.entries r.entries x g e

loses : (p : Place) (s : Service) (n : RegistryState (Item p)) (x : Entry (Item p))
    → InsertsOne n.entries (registry_at p s).entries x → LosesIds s (with_at p s n)
loses of_nodes s n x g part.Nodes id e =
    in_whole (λ (l : List (Entry ℕ)). is_among (map (λ x. x.details) l) id)
    (λ x. x.details == id) (λ x l. refl) n.entries s.nodes.registry.entries x g e
loses (of_ports First) s n x g part.First id e = port_lost s.ports.first.registry n x g id e
loses (of_ports Second) s n x g part.Second id e = port_lost s.ports.second.registry n x g id e
loses _ s n x g _ id e = e

-- of two removals from one place the second can be made first
module _ (p : Place) (mode : ReleaseMode) (May : ReleaseState → Type 0) where
  loss : (h : Handle) (s t : Service) → Takes p (Removal h mode May) s t → LosesIds s t
  loss h s t a =
      subst (λ (x : Service). LosesIds s x) (sym a.left)
      (loses p s a.registry a.step.2.0.0 a.step.2.0.2)

  pub removals_swap : (h k : Handle) (s mid t : Service) → IsRegistry (registry_at p s)
      → Takes p (Removal h mode May) s mid → Takes p (Removal k mode May) mid t
      → Exchange (Takes p (Removal h mode May)) (Takes p (Removal k mode May)) s mid t
  removals_swap h k s mid t whole a b =
      let n = a.registry in
      let m = b.registry in
      let now : registry_at p mid ≡ n = ap (registry_at p) a.left ∙ there p s n in
      let w =
      entries_swap (registry_at p s) n m h k mode a.step.0 b.step.0 whole a.step.2
      (subst (λ (r : RegistryState (Item p)). RemoveStep r k mode (Ok b.step.0) m) now b.step.2) in
      let x = with_at p s w.mid in
      let before : Takes p (Removal k mode May) s x = record {
        registry = w.mid;
        step = (a.step.0, a.step.1, w.before);
        whole = w.kept;
        left = refl;
      } in
      let after : Takes p (Removal h mode May) x t = record {
        registry = m;
        step = (
          b.step.0,
          b.step.1,
          subst (λ (r : RegistryState (Item p)). RemoveStep r h mode (Ok b.step.0) m)
              (sym (there p s w.mid)) w.after,
        );
        whole = b.whole;
        left = grind (arith, again);
      } in
      record {
        between = x;
        before = before;
        after = after;
        first = loses_between s mid t (loss h s mid a) (loss k mid t b);
        second = loses_between s x t (loss k s x before) (loss h x t after);
      }

side_cases : (side other : Side) → (side ≡ other) ⊎ (side ≢ other)
side_cases _ _ = grind arith

pub ports_swap : (May : ReleaseState → Type 0) (mode : ReleaseMode) (h k : Handle)
    (s mid t : Service) → IsService s → TakesPorts (Removal h mode May) s mid
    → TakesPorts (Removal k mode May) mid t
    → Exchange (TakesPorts (Removal h mode May)) (TakesPorts (Removal k mode May)) s mid t
ports_swap May mode h k s mid t i (side, a) (other, b) = elim (side_cases side other) [
  | inl same ↦
      let w =
      removals_swap (of_ports side) mode May h k s mid t (ports_are s side i).is_registry a
      (subst (λ (q : Side). Takes (of_ports q) (Removal k mode May) mid t) (sym same) b) in
      exchanged w (side, w.before) (side, w.after)
  | inr differ ↦ others_first (Removal h mode May) (Removal k mode May) s mid t (side, a) (other, b)
      differ
]
