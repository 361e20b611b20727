use Rattle.std.proofs.Common.{arith, subst}
use Rattle.service_descriptions.specs.Steps.{ServiceStep}
use Rattle.service_descriptions.proofs.Scripts.{did_more}
use Rattle.service_descriptions.proofs.replay.machine.state.replay.Goals as goal

pub loop-command-preserved : goal.loop-command-preserved
loop-command-preserved c =
    let mid = c.loop-command.state in
    let new = c.serve.new.self in
    let step =
    subst (λ x. ServiceStep mid x c.in_ok-reply.reply new) c.command-item.is
    c.in_ok-reply.ensures.ok in
    let more =
    did_more c.args.state.now mid new c.args.commands.now c.args.replies.now.items
    c.loop-command.replies.items _ c.in_ok-reply.reply c.loop-command.command-index
    c.loop-command.invariant.did
    (omega (
      arith,
      c.loop-command.replies.ok.0,
      c.args.replies.now.ok.0,
      c.loop-command.invariant.count,
    ))
    (omega arith) step in
    record {
      is_state = c.serve.ensures.state;
      did = rw (c.push_reserved.ensures.items, c.in_ok-reserve.ensures.items) more;
      count = omega (
        arith,
        c.push_reserved.ensures.len,
        c.in_ok-reserve.ensures.len,
        c.loop-command.invariant.count,
      );
    }
