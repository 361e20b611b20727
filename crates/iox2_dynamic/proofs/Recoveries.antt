-- What becomes of the ports of a dead node, by the answers of a callback.
use Rattle.iox2_dynamic.proofs.Names.{UniquePortId, Default, ReleaseState, RecoversBy, ContainerState, is_of, DeregisterNodeState, PortCleanupAction, PortDetails, CallsCleanup, RecoversPorts, node_of, port_of, container_as, Service, DeadStep, registry_as, Entry, RegistryState, CalledInTurn, RecoverStep, candidates, entries_of, marks_of, staying}
use Rattle.std.proofs.Common.{◌≡◌, ℕ, Bool, ap, ◌∙◌, ◌+◌, true, false, List, [], ◌∷◌, map, refl, sym, arith}
use Rattle.std.specs.Prelude.{◌==◌, if◌then◌else◌, nat_lt, not, ◌||◌, count_by}
use Rattle.std.specs.Fn.{Mut, Called}
use Rattle.iox2_container.proofs.Mapped.{RecoverStep-as, RecoversBy-through, Changes-as, entries_of-as}
use Rattle.std.proofs.lemmas.Bool.Decides.{nat_tests}
use Rattle.std.proofs.lemmas.List.Sums.{sum_by-cons}
use Rattle.iox2_container.specs.declared.container.registry.ReleaseMode.{ReleaseMode}
use Rattle.iox2_container.proofs.Counting.{counted, one_if, counted-cons}

pub RecoversPorts-as : {F T : Type 0} (calls : F → UniquePortId → PortCleanupAction → F → Type 0)
    (g : T → PortDetails) (node : T → ℕ) → ((x : T) → node_of (g x) ≡ node x)
    → (dead : ℕ) (old : ContainerState T) (f : F) (state : ReleaseState) (new : ContainerState T)
    (h : F)
    → RecoversBy (λ i d goes j. CallsCleanup calls i (port_of (g d)) goes j)
    (is_of node dead) old f Default state new h
    → RecoversPorts calls dead (container_as g old) f (container_as g new) h
RecoversPorts-as {F} {T} calls g node same dead old f state new h r = (
  state,
  Changes-as g old new
      (RecoverStep-as g (is_of node dead) (is_of node_of dead)
      (λ x. ap (λ n. n == dead) (same x))
      (λ i d goes j. CallsCleanup calls i (port_of (g d)) goes j)
      (λ i d goes j. CallsCleanup calls i (port_of d) goes j)
      (λ i x b j c. c) old.registry f Default state new.registry h) r,
)

-- a dead node's recovery by a callback of which each call is one of others, while the first state
-- stands for the second
module _ {F G : Type 0} (calls : F → UniquePortId → PortCleanupAction → F → Type 0)
    (others : G → UniquePortId → PortCleanupAction → G → Type 0) (k : F → G) (I : F → Type 0)
    (step : (f : F) (x : UniquePortId) (r : PortCleanupAction) (h : F) → I f → calls f x r h
    → others (k f) x r (k h) × I h) where
  RecoversPorts-through : (dead : ℕ) (old : ContainerState PortDetails) (f : F)
      (new : ContainerState PortDetails) (h : F)
      → I f → RecoversPorts calls dead old f new h → RecoversPorts others dead old (k f) new (k h)
      × I h
  RecoversPorts-through dead old f new h i r =
      let called : F → PortDetails → Bool → F → Type 0 =
      λ i d goes j. CallsCleanup calls i (port_of d) goes j in
      let called' : G → PortDetails → Bool → G → Type 0 =
      λ i d goes j. CallsCleanup others i (port_of d) goes j in
      let t = RecoversBy-through called called' k I
      (λ s d goes j u e. let q = step s (port_of d) e.0 j u e.1 in ((e.0, q.0, e.2), q.1))
      (is_of node_of dead) old f Default r.0 new h i r.1 in
      ((r.0, t.0), t.1)

  pub DeadStep-through : (old : Service) (f : F) (dead : ℕ) (answer : DeregisterNodeState)
      (new : Service) (h : F)
      → I f → DeadStep calls old f dead answer new h
      → DeadStep others old (k f) dead answer new (k h) × I h
  DeadStep-through old f dead answer new h i r =
      let p = r.ports in
      let a = RecoversPorts-through dead old.ports.first f new.ports.first p.0 i p.1 in
      let b = RecoversPorts-through dead old.ports.second p.0 new.ports.second h a.1 p.2 in
      (record { ports = (k p.0, a.0, b.0); nodes = r.nodes; others = r.others }, b.1)

-- the same, where the calls are those of a closure
pub DeadStep-called : {F G : Type 0} (g : Mut F (UniquePortId × Unit {0}) PortCleanupAction)
    (others : G → UniquePortId → PortCleanupAction → G → Type 0) (k : F → G) (I : F → Type 0)
    (old : Service) (f : F) (dead : ℕ) (answer : DeregisterNodeState) (new : Service) (h : F)
    → DeadStep (λ f x r h. Called g f (x, tt) r h) old f dead answer new h → I f
    → ((f : F) (x : UniquePortId) (r : PortCleanupAction) (h : F) → I f → Called g f (x, tt) r h
    → others (k f) x r (k h) × I h)
    → DeadStep others old (k f) dead answer new (k h) × I h
DeadStep-called {F} g others k I old f dead answer new h r i step =
    DeadStep-through (λ f x r h. Called g f (x, tt) r h) others k I step old f dead answer new h i r

skips-cons : (b : Bool) (bs : List Bool) → count_by not (b ∷ bs) ≡ one_if (not b) + count_by not bs
skips-cons true bs = sum_by-cons (λ (x : Bool). if not x then 1 else 0) true bs
skips-cons false bs = sum_by-cons (λ (x : Bool). if not x then 1 else 0) false bs

pub skipped_are_left : {T : Type 0} (p : T → Bool) (marked : ℕ → Bool) (es : List (Entry T))
    → counted p (staying p marked es) ≡ count_by not (marks_of p marked es)
skipped_are_left p marked [] = refl
skipped_are_left p marked (e ∷ es) =
    grind (
      arith,
      counted-cons p e (staying p marked es),
      skips-cons true (marks_of p marked es),
      skips-cons false (marks_of p marked es),
      skipped_are_left p marked es,
    )

or_none : (b : Bool) → b ≡ (b || nat_lt 0 (count_by not []))
or_none true = refl
or_none false = refl

or_more : (b answer : Bool) (answers : List Bool)
    → ((b || not answer) || nat_lt 0 (count_by not answers))
    ≡ (b || nat_lt 0 (count_by not (answer ∷ answers)))
or_more true answer answers = refl
or_more false answer answers =
    grind (arith, nat_tests, skips-cons true answers, skips-cons false answers)

-- a callback that notes each no
module _ {F A N : Type 0} (calls : F → A → Bool → F → Type 0) (name : F → N) (noted : F → Bool)
    (step : (q : F) (x : A) (r : Bool) (v : F) → calls q x r v → (name v ≡ name q)
    × (noted v ≡ (noted q || not r))) where
  pub notes_no : (f : F) (items : List A) (answers : List Bool) (g : F)
      → CalledInTurn calls f items answers g → (name g ≡ name f)
      × (noted g ≡ (noted f || nat_lt 0 (count_by not answers)))
  notes_no f [] [] g a = (ap name a, ap noted a ∙ or_none (noted f))
  notes_no f [] (r ∷ rs) g a = absurd a
  notes_no f (x ∷ xs) [] g a = absurd a
  notes_no f (x ∷ xs) (r ∷ rs) g a =
      let s = step f x r a.0 a.1 in
      let t = notes_no a.0 xs rs g a.2 in
      (t.0 ∙ s.0, t.1 ∙ (ap (λ b. b || nat_lt 0 (count_by not rs)) s.1 ∙ or_more (noted f) r rs))

-- it has noted in the end whether a port of the node is left
pub left_noted : {F T N : Type 0} (calls : F → T → Bool → F → Type 0) (name : F → N)
    (noted : F → Bool)
    → ((q : F) (x : T) (r : Bool) (v : F) → calls q x r v → (name v ≡ name q)
    × (noted v ≡ (noted q || not r)))
    → (g : T → PortDetails) (node : T → ℕ) → ((x : T) → node_of (g x) ≡ node x)
    → (dead : ℕ) (old : RegistryState T) (f : F) (mode : ReleaseMode) (state : ReleaseState)
    (new : RegistryState T) (h : F)
    → noted f ≡ false → RecoverStep calls (is_of node dead) old f mode state new h
    → (name h ≡ name f) × (noted h ≡ nat_lt 0 (entries_of node_of dead (registry_as g new)))
left_noted {F} {T} calls name noted step g node same dead old f mode state new h none r =
    let items = map (λ e. e.details) (candidates (is_of node dead) old.entries) in
    let marks = marks_of (is_of node dead) r.marked old.entries in
    let a = notes_no calls name noted step f items marks h r.called in
    let left : entries_of node_of dead (registry_as g new) ≡ count_by not marks =
    entries_of-as g node node_of same dead new
    ∙ (ap (λ (q : RegistryState T). counted (is_of node dead) q.entries) r.recovers.0
    ∙ skipped_are_left (is_of node dead) r.marked old.entries) in
    (a.0, a.1 ∙ (ap (λ b. b || nat_lt 0 (count_by not marks)) none ∙ ap (nat_lt 0) (sym left)))
