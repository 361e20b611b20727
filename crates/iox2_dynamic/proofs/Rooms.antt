-- What is registered or attached is what there is room for, and ports only of the pattern's roles.
use Rattle.iox2_dynamic.proofs.Names.{PatternKind, Role, HasRole, LacksRole, role_at, side_of, ContainerAddFailure, IsLocked, OutOfSpace, Handle, RegistryState, AddStep, TakesEntry, PortDetails, node_of, role_of, AddsTo, Ports, TakesIn, Side, of_side, First, Second, Service, TakesPort, entries_of_node, first_role, second_role, AttachStep, RegisterStep, ContainerState, IsService, IsRegistry, Admits, AttachesTo, NoSpace, is_of}
use Rattle.std.proofs.Common.{◌≡◌, Bool, true, false, Option, Some, None, inl, inr, refl, sym, ◌≢◌, ℕ, ◌<◌, ap, true≢false, Result, Ok, Err, ◌∙◌, arith}
use Rattle.std.specs.Prelude.{◌↔◌, IfNone, IfSome, IsTrue, is_some, IsOk}
use Rattle.std.specs.Result.{result_or}
use Rattle.iox2_dynamic.specs.declared.dynamic_config.answers.AttachError.{AttachError}
use Rattle.iox2_dynamic.specs.declared.dynamic_config.answers.RegisterNodeResult.{RegisterNodeResult}
use Rattle.iox2_dynamic.specs.declared.dynamic_config.answers.RegisterNodeResult.TheVariants.{MarkedForDestruction, ExceedsMaxNumberOfNodes}
use Rattle.iox2_config.specs.declared.hash.input.PatternKind.TheVariants as kind
use Rattle.iox2_dynamic.specs.declared.dynamic_config.answers.AttachError.TheVariants as attach
use Rattle.iox2_container.proofs.Counting.{counted}
use Rattle.iox2_dynamic.proofs.Keeping.{not_false, unlocked}

lacks : (p : PatternKind) (role : Role) → LacksRole p role → HasRole p role → ⊥
lacks p role none (inl e) = none.0 e
lacks p role none (inr e) = none.1 e

-- a role of the pattern is that of one kind of its ports
pub has_side : (p : PatternKind) (role : Role) (side : Option Bool)
    → IfSome side (λ first. role ≡ role_at p (side_of first)) → IfNone side (LacksRole p role)
    → IsTrue (is_some side) ↔ HasRole p role
has_side p role (Some true) some none = ((λ _. inl some), (λ _. refl))
has_side p role (Some false) some none = ((λ _. inr some), (λ _. refl))
has_side p role None some none =
    ((λ t. absurd (not_false (sym t))), (λ has. absurd (lacks p role none has)))

pub roles_differ : (pattern : PatternKind) → first_role pattern ≢ second_role pattern
roles_differ kind.PublishSubscribe e = (cc)
roles_differ kind.Event e = (cc)
roles_differ kind.RequestResponse e = (cc)
roles_differ kind.Blackboard e = (cc)

added_where : {T : Type 0} (old : RegistryState T) (details : T)
    (answer : Result Handle ContainerAddFailure) (new : RegistryState T)
    → AddStep old details answer new
    → (IsOk answer → TakesEntry old) × (TakesEntry old → IsOk answer)
added_where old details (Ok handle) new s = (λ _. (s.0, s.1), λ _. refl)
added_where old details (Err IsLocked) new s =
    (λ e. absurd (true≢false (sym e)), λ t. absurd (true≢false (sym s.0 ∙ t.0)))
added_where old details (Err OutOfSpace) new s =
    (λ e. absurd (true≢false (sym e)), λ t. grind (arith, s.1, t))

pub registered_where : (old : Service) (id : ℕ) (answer : Result Handle RegisterNodeResult)
    (new : Service) → RegisterStep old id answer new
    → (IsOk answer → TakesEntry old.nodes.registry) × (TakesEntry old.nodes.registry → IsOk answer)
registered_where old id (Ok handle) new s =
    added_where old.nodes.registry id (Ok handle) new.nodes.registry s.0.step
registered_where old id (Err MarkedForDestruction) new s =
    added_where old.nodes.registry id (Err IsLocked) new.nodes.registry s.0.step
registered_where old id (Err ExceedsMaxNumberOfNodes) new s =
    added_where old.nodes.registry id (Err OutOfSpace) new.nodes.registry s.0.step

-- a port that was added, and one that was not
taken : (side : Side) (pattern : PatternKind) (old : Ports) (role : Role)
    → role ≡ of_side side (first_role pattern) (second_role pattern)
    → TakesEntry (of_side side old.first old.second).registry
    → TakesIn (first_role pattern) (second_role pattern) old role
taken First pattern old role r t = inl (r, t)
taken Second pattern old role r t = inr (r, t)

taken_by : (side : Side) (pattern : PatternKind) (old : Ports) (role : Role)
    → role ≡ of_side side (first_role pattern) (second_role pattern)
    → TakesIn (first_role pattern) (second_role pattern) old role
    → TakesEntry (of_side side old.first old.second).registry
taken_by First pattern old role r (inl t) = t.1
taken_by First pattern old role r (inr t) = absurd (roles_differ pattern (sym r ∙ t.0))
taken_by Second pattern old role r (inl t) = absurd (roles_differ pattern (sym t.0 ∙ r))
taken_by Second pattern old role r (inr t) = t.1

not_taken : (pattern : PatternKind) (old new : Ports) (details : PortDetails)
    → AddsTo (first_role pattern) (second_role pattern) old details (Err OutOfSpace) new
    → TakesIn (first_role pattern) (second_role pattern) old (role_of details) → ⊥
not_taken pattern old new details a t =
    true≢false
    (sym ((added_where _ details (Err OutOfSpace) _ a.step.step).1
    (taken_by a.side pattern old (role_of details) a.role_is t)))

pub attached_where : (old : Service) (details : PortDetails) (answer : Result Handle AttachError)
    (new : Service) → 0 < entries_of_node (node_of details) old.nodes.registry
    → AttachStep old details answer new
    → (IsOk answer → TakesPort old (role_of details))
    × (TakesPort old (role_of details) → IsOk answer)
attached_where old details (Ok handle) new there s = (
  λ _. (
    s.0.0,
    taken s.1.0.side old.pattern old.ports (role_of details) s.1.0.role_is
        (s.1.0.step.step.0, s.1.0.step.step.1),
  ),
  λ _. refl,
)
attached_where old details (Err attach.ServiceIsLocked) new there s =
    (λ e. absurd (true≢false (sym e)), λ t. absurd (true≢false (sym s.0 ∙ t.0)))
attached_where old details (Err attach.NodeNotRegistered) new there s =
    (λ e. absurd (true≢false (sym e)), λ t. absurd (omega (arith, there, s.1)))
attached_where old details (Err attach.OutOfSpace) new there s =
    (λ e. absurd (true≢false (sym e)), λ t. absurd (not_taken _ _ _ details s.1.0 t.1))

-- a service in which the node is registered is not locked
pub admitted : (nodes : ContainerState ℕ) (id : ℕ) → IsRegistry nodes.registry
    → 0 < entries_of_node id nodes.registry → Admits nodes id (Ok tt)
admitted nodes id k there = (
  unlocked nodes.registry.locked (λ t.
      let none : entries_of_node id nodes.registry ≡ 0 =
      ap (counted (is_of (λ i. i) id)) (k.locked_is_empty t) in
      absurd (omega arith)),
  there,
)

-- no registry of ports is locked
is_open : (side : Side) (s : Service) → IsService s
    → (of_side side s.ports.first s.ports.second).registry.locked ≡ false
is_open First s i = i.ports_are.first.is_open
is_open Second s i = i.ports_are.second.is_open

module _ (a b : Role) (nodes : ContainerState ℕ) (old new : Ports) (d : PortDetails)
    (admits : Admits nodes (node_of d) (Ok tt)) where
  pub attaches : (answer : Result Handle ContainerAddFailure) → AddsTo a b old d answer new
      → AttachesTo a b nodes old d (result_or answer (Err NoSpace)) new
  attaches (Ok handle) adds pattern first second i = (admits, (rw (first, second) adds, refl))
  attaches (Err OutOfSpace) adds pattern first second i = (admits, (rw (first, second) adds, refl))
  attaches (Err IsLocked) adds pattern first second i =
      let s : Service = record { pattern = pattern; ports = old; nodes = nodes } in
      absurd (not_false (sym adds.step.step.0 ∙ is_open adds.side s i))
