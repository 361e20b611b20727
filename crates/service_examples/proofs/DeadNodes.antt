-- What stays of entries, and what removals of dead nodes leave of a service.
use Rattle.std.proofs.Common.{◌≡◌, ◌∙◌, ℕ, zero, suc, ◌≤◌, Bool, true, false, List, [], ◌∷◌, ◌++◌, length, filter, map, refl, sym, ap, arith}
use Rattle.std.specs.Prelude.{not, ◌||◌, ◌&&◌, ◌==◌, nat_lt}
use Rattle.std.proofs.Math.Bool.{or-false, and-true}
use Rattle.std.proofs.lemmas.Bool.Decides.{nat_tests}
use Rattle.std.proofs.lemmas.List.Sums.{count_by-le-length, length-filter}
use Rattle.std.proofs.lemmas.List.Elements.{filter_agree}
use Rattle.std.proofs.lemmas.List.Folds.{list_any-append}
use Rattle.iox2_dynamic.proofs.Names.{Default, LockIfLastIndex, Entry, CalledInTurn, candidates, is_of, marks_of, staying, UniquePortId, ReleaseState, ContainerState, RegistryState}
use Rattle.iox2_container.specs.Calls.{is_outside}
use Rattle.iox2_container.specs.Steps.{RecoverStep, lock_after}
use Rattle.iox2_container.proofs.Callable.{answers_by, passes_all}
use Rattle.iox2_container.proofs.SameEntries.{passing, staying_by}
use Rattle.iox2_container.proofs.SameEntries.{staying_by}
use Rattle.service_examples.specs.Removal.{others, OnlyOthersStay, ports_without, nodes_without}
use Rattle.iox2_dynamic.specs.declared.dynamic_config.answers.DeregisterNodeState.{DeregisterNodeState}
use Rattle.iox2_dynamic.specs.declared.dynamic_config.answers.PortCleanupAction.{PortCleanupAction}
use Rattle.iox2_dynamic.specs.declared.dynamic_config.port_details.PortDetails.{PortDetails}
use Rattle.iox2_dynamic.specs.Ports.{CallsCleanup, RecoversPorts, RecoversNodes, removes, has_ports_of}
use Rattle.iox2_dynamic.specs.Details.{node_of, port_of}
use Rattle.iox2_dynamic.specs.Service.{Service}
use Rattle.iox2_dynamic.specs.Steps.{DeadStep, state_of}
use Rattle.iox2_dynamic.specs.declared.dynamic_config.answers.PortCleanupAction.TheVariants.{RemovePort}

same_order : (a b : ℕ) → (a == b) ≡ (b == a)
same_order a b = grind (arith, nat_tests)

-- whether one node is meant
is_other : {T : Type 0} (node : T → ℕ) (d : ℕ) (x : T)
    → not (is_of node d x) ≡ is_outside node (d ∷ []) x
is_other node d x = ap not (same_order (node x) d ∙ sym (or-false (d == node x)))

-- where each answer is yes, all candidates go
all_go : {F T : Type 0} (calls : F → T → Bool → F → Type 0)
    → ((f : F) (x : T) (r : Bool) (h : F) → calls f x r h → r ≡ true)
    → (node : T → ℕ) (d : ℕ) (marked : ℕ → Bool) (es : List (Entry T)) (f h : F)
    → CalledInTurn calls f (map (λ e. e.details) (candidates (is_of node d) es))
    (marks_of (is_of node d) marked es) h
    → staying (is_of node d) marked es ≡ others node (d ∷ []) es
all_go calls agrees node d marked es f h a =
    staying_by (is_of node d) (λ _. true) marked es
    (answers_by {K = Unit {0}} calls (λ _. tt) (λ _ _. true)
    (λ q x r v c. (refl, agrees q x r v c)) f _ _ h a)
    ∙ filter_agree (λ e. not (is_of node d e.details && true))
    (λ e. is_outside node (d ∷ []) e.details)
    (λ e. ap not (and-true (is_of node d e.details)) ∙ is_other node d e.details) es

-- none of the node's is left
none_left : {T : Type 0} (node : T → ℕ) (d : ℕ) (es : List (Entry T))
    → candidates (is_of node d) (others node (d ∷ []) es) ≡ []
none_left node d [] = refl
none_left node d (e ∷ es) = grind (arith, is_other node d e.details, none_left node d es)

-- first some dead nodes are removed, and then others
others_then : {T : Type 0} (node : T → ℕ) (ds ms : List ℕ) (es : List (Entry T))
    → others node ms (others node ds es) ≡ others node (ds ++ ms) es
others_then node ds ms [] = refl
others_then node ds ms (e ∷ es) =
    grind (
      arith,
      list_any-append (λ (d : ℕ). d == node e.details) ds ms,
      others_then node ds ms es,
    )

fewer : {T : Type 0} (node : T → ℕ) (ds : List ℕ) (es : List (Entry T))
    → length (others node ds es) ≤ length es
fewer {T} node ds es =
    let kept : Entry T → Bool = λ e. is_outside node ds e.details in
    omega (arith, length-filter kept es, count_by-le-length kept es)

-- the lock, where some entries go and then others
lock_then : (locked : Bool) (all some few : ℕ) → some ≤ all → few ≤ some
    → lock_after LockIfLastIndex some few (lock_after LockIfLastIndex all some locked)
    ≡ lock_after LockIfLastIndex all few locked
lock_then locked zero zero few a b = refl
lock_then locked zero (suc some) few a b = absurd (omega arith)
lock_then locked (suc all) zero zero a b = refl
lock_then locked (suc all) zero (suc few) a b = absurd (omega arith)
lock_then locked (suc all) (suc some) zero a b = refl
lock_then locked (suc all) (suc some) (suc few) a b = refl

still_locked : (locked : Bool) (n : ℕ) → lock_after LockIfLastIndex n n locked ≡ locked
still_locked locked zero = refl
still_locked locked (suc n) = refl

-- all ports of the node go where each answer is that they do
ports_go : {F : Type 0} (calls : F → UniquePortId → PortCleanupAction → F → Type 0)
    → ((f : F) (x : UniquePortId) (r : PortCleanupAction) (h : F) → calls f x r h → r ≡ RemovePort)
    → (dead : ℕ) (old : ContainerState PortDetails) (f : F) (new : ContainerState PortDetails)
    (h : F) → RecoversPorts calls dead old f new h
    → new.registry ≡ ports_without (dead ∷ []) old.registry
ports_go {F} calls agrees dead old f new h r =
    let called : F → PortDetails → Bool → F → Type 0 =
    λ g d goes j. CallsCleanup calls g (port_of d) goes j in
    let go = all_go called
    (λ g d goes j a. a.2 ∙ ap removes (agrees g (port_of d) a.0 j a.1)) node_of dead
    r.1.step.marked old.registry.entries f h r.1.step.called in
    r.1.step.recovers.0
    ∙ ap (λ (es : List (Entry PortDetails)). record old.registry { entries = es }) go

-- so do all entries of it
nodes_go : (dead : ℕ) (old : ContainerState ℕ) (state : ReleaseState) (new : ContainerState ℕ)
    → RecoversNodes dead old state new → new.registry ≡ nodes_without (dead ∷ []) old.registry
nodes_go dead old state new r =
    let node : ℕ → ℕ = λ id. id in
    let before = old.registry.entries in
    let locked = old.registry.locked in
    let is = r.step.recovers.0 in
    let go =
    all_go {F = Unit {0}} (λ _ _ goes _. goes ≡ true) (λ f x r h a. a) node dead r.step.marked
    before tt tt r.step.called in
    let lock =
    ap (λ (es : List (Entry ℕ)). lock_after LockIfLastIndex (length before) (length es) locked)
    (ap (λ (n : RegistryState ℕ). n.entries) is ∙ go) in
    is ∙ (λ i. record old.registry { entries = go i; locked = lock i })

none_of : (dead : ℕ) (old new : RegistryState PortDetails) → new ≡ ports_without (dead ∷ []) old
    → length (candidates (is_of node_of dead) new.entries) ≡ 0
none_of dead old new e =
    ap (λ (r : RegistryState PortDetails). length (candidates (is_of node_of dead) r.entries)) e
    ∙ ap length (none_left node_of dead old.entries)

-- one dead node is removed, and all its ports
pub one_removed : {F : Type 0} (calls : F → UniquePortId → PortCleanupAction → F → Type 0)
    (old : Service) (f : F) (dead : ℕ) (answer : DeregisterNodeState) (new : Service) (h : F)
    → DeadStep calls old f dead answer new h
    → ((f : F) (x : UniquePortId) (r : PortCleanupAction) (h : F) → calls f x r h → r ≡ RemovePort)
    → OnlyOthersStay (dead ∷ []) old new
one_removed calls old f dead answer new h r agrees =
    let first = ports_go calls agrees dead old.ports.first f new.ports.first r.ports.0
    r.ports.1 in
    let second = ports_go calls agrees dead old.ports.second r.ports.0 new.ports.second
    h r.ports.2 in
    let a = none_of dead old.ports.first.registry new.ports.first.registry first in
    let b = none_of dead old.ports.second.registry new.ports.second.registry second in
    let none : has_ports_of dead new.ports ≡ false =
    ap (λ n. nat_lt 0 n || nat_lt 0
    (length (candidates (is_of node_of dead) new.ports.second.registry.entries))) a
    ∙ ap (λ n. nat_lt 0 0 || nat_lt 0 n) b in
    record {
      pattern = ap (λ (s : Service). s.pattern) r.others;
      nodes = nodes_go dead old.nodes (state_of answer) new.nodes (rw none at r.nodes);
      first_ports = first;
      second_ports = second;
    }

-- no node is removed
pub none_removed : (s : Service) → OnlyOthersStay [] s s
none_removed s =
    let n : RegistryState ℕ = s.nodes.registry in
    let all = passes_all n.entries in
    let lock = ap (λ (es : List (Entry ℕ)). lock_after LockIfLastIndex (length n.entries)
    (length es) n.locked) all ∙ still_locked n.locked (length n.entries) in
    record {
      pattern = refl;
      nodes = sym (λ i. record n { entries = all i; locked = lock i });
      first_ports = sym (same_ports s.ports.first.registry);
      second_ports = sym (same_ports s.ports.second.registry);
    }
  where
    same_ports : (r : RegistryState PortDetails) → ports_without [] r ≡ r
    same_ports r = λ i. record r { entries = passes_all r.entries i }

ports_then : (ds ms : List ℕ) (r : RegistryState PortDetails)
    → ports_without ms (ports_without ds r) ≡ ports_without (ds ++ ms) r
ports_then ds ms r = λ i. record r { entries = others_then node_of ds ms r.entries i }

nodes_then : (ds ms : List ℕ) (n : RegistryState ℕ)
    → nodes_without ms (nodes_without ds n) ≡ nodes_without (ds ++ ms) n
nodes_then ds ms n =
    let node : ℕ → ℕ = λ id. id in
    let some : List (Entry ℕ) = others node ds n.entries in
    let few = others_then node ds ms n.entries in
    let lock = lock_then n.locked (length n.entries) (length some) (length (others node ms some))
    (fewer node ds n.entries) (fewer node ms some)
    ∙ ap (λ (es : List (Entry ℕ)). lock_after LockIfLastIndex (length n.entries) (length es)
    n.locked) few in
    λ i. record n { entries = few i; locked = lock i }

-- first some dead nodes are removed, and then others
pub more_removed : (ds ms : List ℕ) (old mid new : Service) → OnlyOthersStay ds old mid
    → OnlyOthersStay ms mid new → OnlyOthersStay (ds ++ ms) old new
more_removed ds ms old mid new r s = record {
  pattern = s.pattern ∙ r.pattern;
  nodes = s.nodes ∙ ap (nodes_without ms) r.nodes ∙ nodes_then ds ms old.nodes.registry;
  first_ports = s.first_ports ∙ ap (ports_without ms) r.first_ports
      ∙ ports_then ds ms old.ports.first.registry;
  second_ports = s.second_ports ∙ ap (ports_without ms) r.second_ports
      ∙ ports_then ds ms old.ports.second.registry;
}

passes_whole : {T : Type 0} (is_dead : T → Bool) (es : List (Entry T))
    → passing (λ d. not (is_dead d && false)) es ≡ es
passes_whole is_dead [] = refl
passes_whole is_dead (e ∷ es) = grind (arith, filter, passes_whole is_dead es)

-- where the callback never says that an entry goes, all stay
pub all_stay : {F T : Type 0} (calls : F → T → Bool → F → Type 0) (is_dead : T → Bool)
    → ((q : F) (x : T) (r : Bool) (v : F) → calls q x r v → r ≡ false)
    → (old new : RegistryState T) (f g : F) (state : ReleaseState)
    → RecoverStep calls is_dead old f Default state new g → new ≡ old
all_stay {F} {T} calls is_dead never old new f g state r =
    let same =
    staying_by is_dead (λ _. false) r.marked old.entries
    (answers_by {K = Unit {0}} calls (λ q. tt) (λ _ _. false)
    (λ q x a v c. (refl, never q x a v c)) f _ _ g r.called)
    ∙ passes_whole is_dead old.entries in
    r.recovers.0 ∙ ap (λ es. record old { entries = es }) same
