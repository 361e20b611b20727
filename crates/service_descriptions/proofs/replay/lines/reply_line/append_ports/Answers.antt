use Rattle.std.proofs.Common.{rules}
use Rattle.service_descriptions.proofs.ReplyLines.{lacks_line, ports_line}
use Rattle.service_descriptions.proofs.replay.lines.reply_line.append_ports.Goals as goal

pub returns-in_default-clause-ok : goal.returns-in_default-clause-ok
returns-in_default-clause-ok c =
    lacks_line c.args.service.now c.args.role c.args.out.now.items
    c.extend_from_slice.new.self.items c.extend_from_slice.result
    (rw c.kind.ensures.kind at c.in_default.ensures.none) c.extend_from_slice.ensures.items

pub returns-clause-ok : goal.returns-clause-ok
returns-clause-ok c =
    let line =
    ports_line c.args.service.now c.args.role c.in-Some.is_first
    (rw c.kind.ensures.kind at c.in-Some.ensures.some)
    c.args.out.now.items c.extend_from_slice-2.new.self.items c.put_ports.new.out.items
    c.extend_from_slice-3.new.self in
    search (rules, line)
