use Rattle.std.proofs.Common.{rules, subst}
use Rattle.service_descriptions.proofs.Names.{DeadStep, Cleans, DeadStep-called}
use Rattle.service_descriptions.specs.declared.replay.machine.command.Cleanup.TheVariants as cleanups
use Rattle.service_descriptions.proofs.replay.machine.cleanup.by_order.Goals as goal

pub returns-clause-cleaned : goal.returns-clause-cleaned
returns-clause-cleaned c =
    let old = c.args.service.now in
    let new = c.remove_dead_node_id.new.self in
    let answers = Cleans (cleanups.ByOrder c.args.actions.now) in
    let t = DeadStep-called _ answers (λ s. s.0.now)
    (λ _. Unit {0}) old _ c.args.dead.now c.remove_dead_node_id.result new
    c.remove_dead_node_id.new.f c.remove_dead_node_id.ensures.step tt
    (λ f x r h i e. search rules) in (
      c.remove_dead_node_id.new.f.0.now,
      subst (λ l.
          DeadStep answers old l c.args.dead.now c.remove_dead_node_id.result new
          c.remove_dead_node_id.new.f.0.now) c.as_slice-left.ensures.value t.0,
    )
