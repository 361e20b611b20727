use Rattle.std.proofs.Common.{◌≡◌, ◌∙◌, rules, []}
use Rattle.service_descriptions.proofs.Names.{Cleans, DeadStep-called}
use Rattle.service_descriptions.specs.declared.replay.machine.command.Cleanup.TheVariants as cleanups
use Rattle.service_descriptions.proofs.replay.machine.cleanup.by_port.Goals as goal

pub returns-clause-cleaned : goal.returns-clause-cleaned
returns-clause-cleaned c = (
  [],
  (DeadStep-called _ (Cleans (cleanups.ByPort c.args.kept.now)) (λ _. [])
      (λ s. s.0.now ≡ c.args.kept.now.items) c.args.service.now _ c.args.dead.now
      c.remove_dead_node_id.result c.remove_dead_node_id.new.self c.remove_dead_node_id.new.f
      c.remove_dead_node_id.ensures.step (c.of.ensures ∙ c.as_slice.ensures.value)
      (λ f x r h i e. search rules)).0,
)
