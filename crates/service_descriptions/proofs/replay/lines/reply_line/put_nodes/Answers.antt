use Rattle.std.proofs.Common.{rules, sym}
use Rattle.service_descriptions.proofs.Names.{listed, id_word}
use Rattle.service_descriptions.proofs.ReplyLines.{all_put}
use Rattle.service_descriptions.proofs.replay.lines.reply_line.put_nodes.Goals as goal

pub returns : goal.returns
returns c =
    let all =
    all_put _ (λ s. (s.0.now.items, s.1.now)) (λ s. s.0.ghost_name) (λ s. s.1.ghost_name) id_word
    (λ s x r u e. search rules) _ (listed c.args.service.now.nodes.registry)
    c.list_node_ids.new.f c.list_node_ids.ensures.visit in
    rw (c.out-1.given.1 (sym all.0)) (rw (c.done-1.given.1 (sym all.1)) all.2)
