use Rattle.std.proofs.Common.{rules, sym}
use Rattle.service_descriptions.proofs.ReplyLines.{kind_put}
use Rattle.service_descriptions.proofs.replay.lines.reply_line.put_first.Goals as goal

pub returns : goal.returns
returns g c =
    let all =
    kind_put g.A.PortKind.details _ (λ s. (s.0.now.items, s.1.now)) (λ s. s.0.ghost_name)
    (λ s. s.1.ghost_name) (λ s x r u e. search rules) c.args.ports.now.first _
    c.list_first.new.f c.list_first.ensures in
    rw (c.out-1.given.1 (sym all.0)) (rw (c.done-1.given.1 (sym all.1)) all.2)
