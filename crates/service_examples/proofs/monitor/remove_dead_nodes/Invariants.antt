use Rattle.std.proofs.Common.{◌≡◌, [], take}
use Rattle.std.specs.Prelude.{MatchOption}
use Rattle.iox2_container.specs.Steps.{release_state}
use Rattle.iox2_dynamic.specs.Steps.{state_of}
use Rattle.service_examples.specs.Removal.{OnlyOthersStay}
use Rattle.service_examples.proofs.monitor.remove_dead_nodes.Given as goal

abbrev pub invariant-loop-id : goal.invariant-loop-id
invariant-loop-id l = record {
  removed : OnlyOthersStay (take l.id-index l.dead) l.fn.service l.service;
  reported : MatchOption l.reported (take l.id-index l.dead ≡ [])
      (λ state. state_of state ≡ release_state l.service.nodes.registry.locked);
}
