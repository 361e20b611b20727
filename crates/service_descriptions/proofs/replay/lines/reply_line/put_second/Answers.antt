use Rattle.std.proofs.Common.{rules, sym}
use Rattle.service_descriptions.proofs.ReplyLines.{kind_put}
use Rattle.service_descriptions.proofs.replay.lines.reply_line.put_second.Goals as goal

pub returns : goal.returns
returns g c =
    let all =
    kind_put g.B.PortKind.details _ (λ s. (s.0.now.items, s.1.now)) (λ s. s.0.ghost_name)
    (λ s. s.1.ghost_name) (λ s x r u e. search rules) c.args.ports.now.second _
    c.list_second.new.f c.list_second.ensures in
    rw (c.out-1.given.1 (sym all.0)) (rw (c.done-1.given.1 (sym all.1)) all.2)
