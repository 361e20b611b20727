use Rattle.iox2sd.proofs.Names.{Keeps, rules, ◌≡◌}
use Rattle.iox2_dynamic.proofs.Recoveries.{DeadStep-called}
use Rattle.iox2sd.proofs.service.dead_node.clean_up.Goals as goal

pub returns : goal.returns
returns c =
    (DeadStep-called _ (Keeps c.args.kept.now) (λ _. tt)
    (λ s. s.0.now ≡ c.args.kept.now) c.args.service.now _ c.args.dead.now
    c.remove_dead_node_id.result c.remove_dead_node_id.new.self c.remove_dead_node_id.new.f
    c.remove_dead_node_id.ensures.step c.of.ensures (λ f x r h i e. search rules)).0
