use Rattle.std.proofs.Common.{◌≡◌, ◌∙◌, ap, refl, subst, sym, take, ◌+◌, ◌++◌, [], ◌∷◌}
use Rattle.std.proofs.lemmas.List.{take_more}
use Rattle.service_examples.specs.Removal.{OnlyOthersStay}
use Rattle.service_examples.proofs.DeadNodes.{none_removed, more_removed}
use Rattle.service_examples.proofs.monitor.remove_dead_nodes.Goals as goal

pub loop-id-init : goal.loop-id-init
loop-id-init c = record { removed = none_removed c.args.service.now; reported = refl }

pub loop-id-preserved : goal.loop-id-preserved
loop-id-preserved c =
    let dead = c.args.dead.now in
    let i = c.loop-id.id-index in
    let now = c.id-item.result in
    let more : take (i + 1) dead ≡ take i dead ++ now ∷ [] =
    take_more dead i now c.loop-id-test.true
    ∙ ap (λ id. take i dead ++ id ∷ []) (sym c.id-item.is) in
    record {
      removed =
          subst (λ ids. OnlyOthersStay ids c.args.service.now c.remove_dead_node.new.service)
          (sym more)
          (more_removed (take i dead)
          (now ∷ []) c.args.service.now c.loop-id.service c.remove_dead_node.new.service
          c.loop-id.invariant.removed c.remove_dead_node.ensures.removed);
      reported = c.remove_dead_node.ensures.reported;
    }
