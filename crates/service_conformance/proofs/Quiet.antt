-- Steps do not depend on how often slots were touched.
use Rattle.service_conformance.proofs.Names.{Bool, List, None, Option, Result, Some, [], ap, arith, inl, inr, ℕ, ◌∷◌, ◌≡◌, AddsPort, Changes, Cleans, Cleanup, Command, ContainerAddFailure, ContainerRemoveError, ContainerState, DeadStep, DeregisterNodeState, Description, First, Handle, IsRegistry, IsService, NodesAfter, OnSide, PortCleanupAction, PortDetails, Ports, RegistryState, ReleaseState, RemovesPort, Reply, Role, Run, Second, Serves, ServesAdd, ServesDead, ServesDeregister, ServesRegister, ServesRelease, Service, ServiceStep, Side, State, UniquePortId, container, named, of_side, other_side, ports_at_rest, quiet, quiet_state, untouched}
use Rattle.iox2_container.specs.declared.container.registry.ContainerAddFailure.TheVariants as container
use Rattle.iox2_dynamic.specs.declared.dynamic_config.answers.DeregisterNodeState.TheVariants as nodes
use Rattle.service_descriptions.specs.declared.replay.machine.command.Command.TheVariants as command
use Rattle.service_descriptions.specs.declared.replay.machine.reply.Reply.TheVariants as reply

-- a change goes along with one of which no touch is counted
changes : {T : Type 0} (Step : RegistryState T → RegistryState T → Type 0)
    (old new : ContainerState T)
    → Changes Step old new → Changes Step (untouched old.registry) (untouched new.registry)
changes Step old new s =
    record { step = s.step; kept = s.kept; touched = (omega arith, omega arith) }

-- a step that touches nothing
pub untouching : {T : Type 0} (Step : RegistryState T → RegistryState T → Type 0)
    (old : ContainerState T) (new : RegistryState T) → Step old.registry new → IsRegistry new
    → Changes Step old (container new old.touches)
untouching Step old new step kept =
    record { step = step; kept = kept; touched = (omega arith, omega arith) }

abbrev quiet_ports : Ports → Ports
quiet_ports p = ports_at_rest p.first.registry p.second.registry

rest : {a b : ContainerState PortDetails} → a ≡ b → untouched a.registry ≡ untouched b.registry
rest e = ap (λ (c : ContainerState PortDetails). untouched c.registry) e

-- a change of one kind of ports
module _ (Step : RegistryState PortDetails → RegistryState PortDetails → Type 0) (a b : Role) where
  at_side : (side : Side) (old new : Ports) (role : Role) → role ≡ of_side side a b
      → Changes Step (of_side side old.first old.second) (of_side side new.first new.second)
      → of_side (other_side side) new.first new.second ≡ of_side
      (other_side side) old.first old.second
      → OnSide a b (quiet_ports old) role (λ o n. Changes Step o n) (quiet_ports new)
  at_side First old new role e c o =
      record { side = First; role_is = e; step = changes _ _ _ c; others = rest o }
  at_side Second old new role e c o =
      record { side = Second; role_is = e; step = changes _ _ _ c; others = rest o }

  on_side : (old new : Ports) (role : Role) → OnSide a b old role (λ o n. Changes Step o n) new
      → OnSide a b (quiet_ports old) role (λ o n. Changes Step o n) (quiet_ports new)
  on_side old new role s = at_side s.side old new role s.role_is s.step s.others

module _ (old new : Service) where
  registers : (id : ℕ) (r : Reply) → ServesRegister old id r new
      → ServesRegister (quiet old) id r (quiet new)
  registers id _ s = grind (arith, changes)

  deregisters : (handle : Option Handle) (r : Reply) → ServesDeregister old handle r new
      → ServesDeregister (quiet old) handle r (quiet new)
  deregisters None _ s = grind arith
  deregisters (Some h) _ s = grind (arith, changes)

  adds_port : (d : PortDetails) (answer : Result Handle ContainerAddFailure)
      → AddsPort old d answer new → AddsPort (quiet old) d answer (quiet new)
  adds_port d answer s = grind (arith, on_side)

  adds : (d : PortDetails) (r : Reply) → ServesAdd old d r new
      → ServesAdd (quiet old) d r (quiet new)
  adds d _ s = grind (arith, adds_port)

  removes_port : (h : Handle) (answer : Result ReleaseState ContainerRemoveError)
      → RemovesPort old h answer new → RemovesPort (quiet old) h answer (quiet new)
  removes_port h answer (inl a, e) = grind (arith, on_side)
  removes_port h answer (inr a, e) = (inr (a.0, a.1, ap quiet_ports a.2), ap quiet e)

  releases : (handle : Option Handle) (r : Reply) → ServesRelease old handle r new
      → ServesRelease (quiet old) handle r (quiet new)
  releases None _ s = grind arith
  releases (Some h) _ s = grind (arith, removes_port)

  nodes_after : (dead : ℕ) (left : Bool) (state : ReleaseState)
      → NodesAfter dead left old.nodes state new.nodes
      → NodesAfter dead left (untouched old.nodes.registry) state (untouched new.nodes.registry)
  nodes_after dead left state s = grind (arith, changes)

  dies : {F : Type 0} (calls : F → UniquePortId → PortCleanupAction → F → Type 0) (f : F) (dead : ℕ)
      (answer : DeregisterNodeState) (h : F) → DeadStep calls old f dead answer new h
      → DeadStep calls (quiet old) f dead answer (quiet new) h
  dies calls f dead answer h s = grind (arith, changes, nodes_after)

  cleans : (dead : ℕ) (cleanup : Cleanup) (r : Reply) → ServesDead old dead cleanup r new
      → ServesDead (quiet old) dead cleanup r (quiet new)
  cleans dead cleanup reply.HasOwners s =
      (s.0, dies (Cleans cleanup) _ dead nodes.HasOwners s.0 s.1)
  cleans dead cleanup reply.NoMoreOwners s =
      (s.0, dies (Cleans cleanup) _ dead nodes.NoMoreOwners s.0 s.1)
  cleans dead cleanup _ s = absurd s

pub serves_quiet : (old : Service) (about : Option Description) (handles : List (Option Handle))
    (c : Command) (r : Reply) (new : Service) → Serves old about handles c r new
    → Serves (quiet old) about handles c r (quiet new)
serves_quiet old about handles (command.Register id) r new s = registers old new id r s
serves_quiet old about handles (command.Deregister k) r new s =
    deregisters old new (named handles k) r s
serves_quiet old about handles (command.Add d) r new s = adds old new d r s
serves_quiet old about handles (command.Release k) r new s = releases old new (named handles k) r s
serves_quiet old about handles (command.Dead dead cleanup) r new s = cleans old new dead cleanup r s
serves_quiet old about handles _ _ new s = grind arith

pub service_quiet : (s : Service) → IsService s → IsService (quiet s)
service_quiet s i = grind arith

pub step_quiet : (old new : State) (c : Command) (r : Reply) → ServiceStep old c r new
    → ServiceStep (quiet_state old) c r (quiet_state new)
step_quiet old new c r s = grind (arith, serves_quiet, service_quiet)

-- a run of quiet states goes along with each run
pub run_quiet : (old new : State) (commands : List Command) (replies : List Reply)
    → Run old commands replies new → Run (quiet_state old) commands replies (quiet_state new)
run_quiet old new [] [] e = ap quiet_state e
run_quiet old new (c ∷ cs) (r ∷ rs) s =
    (quiet_state s.0, step_quiet old s.0 c r s.1, run_quiet s.0 new cs rs s.2)
run_quiet old new [] (r ∷ rs) s = absurd s
run_quiet old new (c ∷ cs) [] s = absurd s
