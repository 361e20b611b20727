use Rattle.std.proofs.Common.{◌≡◌, rules, length, take, vec_len}
use Rattle.service_descriptions.proofs.ReplyLines.{front_stays}
use Rattle.service_descriptions.proofs.replay.lines.reply_line.append_ids.Goals as goal

pub returns-in_err-append_id-clause-err : goal.returns-in_err-append_id-clause-err
returns-in_err-append_id-clause-err g c =
    let before = c.args.out.now.items in
    let now = c.append_id.new.out.items in
    let items = c.loop-item.out.items in
    let kept : take (length items) now ≡ items = search rules in
    let front = front_stays before _ items now c.loop-item.invariant kept in
    let reported : take (vec_len c.args.out.now) now ≡ before = search (rules, front) in
    search (rules, reported)
