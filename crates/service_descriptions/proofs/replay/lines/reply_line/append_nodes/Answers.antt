use Rattle.std.proofs.Common.{rules}
use Rattle.service_descriptions.proofs.ReplyLines.{nodes_line}
use Rattle.service_descriptions.proofs.replay.lines.reply_line.append_nodes.Goals as goal

pub returns-clause-ok : goal.returns-clause-ok
returns-clause-ok c =
    let line =
    nodes_line c.args.service.now c.args.out.now.items c.extend_from_slice.new.self.items
    c.put_nodes.new.out.items c.extend_from_slice-2.new.self in
    search (rules, line)
