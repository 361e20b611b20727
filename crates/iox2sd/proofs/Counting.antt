-- How many ports of each of a pattern's two kinds there are, and that none comes by the removal of
-- a dead node.
use Rattle.iox2sd.proofs.Names.{Bool, ContainerState, CountsIn, Entry, Keeps, List, PatternKind, PortDetails, PortId, Ports, Role, Service, Some, Went, ap, arith, count_by-le-length, counted, first_role, inl, inr, is_leaving, is_of, length, length-filter, node_of, not, roles_differ, second_role, sym, ℕ, ◌-◌, ◌∙◌, ◌≡◌, ◌≤◌}
use Rattle.iox2_ids.specs.declared.identifiers.port_id.UniquePortId.{UniquePortId}
use Rattle.iox2_dynamic.specs.declared.dynamic_config.answers.DeregisterNodeState.{DeregisterNodeState}
use Rattle.iox2_dynamic.specs.declared.dynamic_config.answers.PortCleanupAction.{PortCleanupAction}
use Rattle.iox2_dynamic.specs.Ports.{RecoversPorts}
use Rattle.iox2_dynamic.specs.Steps.{DeadStep}
use Rattle.iox2sd.specs.declared.service.roles.Counts.{Counts}

pub first_count : (pattern : PatternKind) (p : Ports) (role : Role) (n : ℕ)
    → CountsIn (first_role pattern) (second_role pattern) p role (Some n)
    → role ≡ first_role pattern → n ≡ length p.first.registry.entries
first_count pattern p role n (inl c) e = c.1
first_count pattern p role n (inr c) e = absurd (roles_differ pattern (sym e ∙ c.0))

pub second_count : (pattern : PatternKind) (p : Ports) (role : Role) (n : ℕ)
    → CountsIn (first_role pattern) (second_role pattern) p role (Some n)
    → role ≡ second_role pattern → n ≡ length p.second.registry.entries
second_count pattern p role n (inl c) e = absurd (roles_differ pattern (sym c.0 ∙ e))
second_count pattern p role n (inr c) e = c.1

pub ruleset counts = (first_count, second_count)

-- the removal of a dead node leaves no more of them
recovered_fewer : {F : Type 0} (calls : F → UniquePortId → PortCleanupAction → F → Type 0)
    (dead : ℕ) (old : ContainerState PortDetails) (f : F) (new : ContainerState PortDetails)
    (h : F)
    → RecoversPorts calls dead old f new h
    → length new.registry.entries ≤ length old.registry.entries
recovered_fewer calls dead old f new h r =
    let step = r.1.step in
    let stays : Entry PortDetails → Bool =
    λ e. not (is_leaving (is_of node_of dead) step.marked e) in
    omega (
      arith,
      ap (λ s. length s.entries) step.recovers.0,
      length-filter stays old.registry.entries,
      count_by-le-length stays old.registry.entries,
    )

-- no port comes, by numbers that were counted before and after
pub fewer : (kept : List PortId) (old new : Service) (dead : ℕ) (answer : DeregisterNodeState)
    (before after : Counts) → before ≡ counted old → after ≡ counted new
    → DeadStep (Keeps kept) old tt dead answer new tt
    → (after.first ≤ before.first) × (after.second ≤ before.second)
fewer kept old new dead answer before after b a s =
    rw (b, a) (
      recovered_fewer (Keeps kept) dead old.ports.first tt new.ports.first s.ports.0 s.ports.1,
      recovered_fewer (Keeps kept) dead old.ports.second s.ports.0 new.ports.second tt s.ports.2,
    )

pub so_many_went : (kept : List PortId) (old new : Service) (dead : ℕ)
    (answer : DeregisterNodeState) (before after : Counts) → before ≡ counted old
    → after ≡ counted new
    → DeadStep (Keeps kept) old tt dead answer new tt
    → Went (counted old)
    (record { first = before.first - after.first; second = before.second - after.second })
    (counted new)
so_many_went kept old new dead answer before after b a s =
    let less = fewer kept old new dead answer before after b a s in
    rw (sym b, sym a) (record { first = omega (arith, less.0); second = omega (arith, less.1) })
