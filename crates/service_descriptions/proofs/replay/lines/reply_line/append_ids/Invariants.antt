use Rattle.std.proofs.Common.{◌≡◌, ◌++◌, codes, take}
use Rattle.service_descriptions.proofs.Names.{flat_map, id_word}
use Rattle.service_descriptions.proofs.replay.lines.reply_line.append_ids.Given as goal

abbrev pub invariant-loop-item : goal.invariant-loop-item
invariant-loop-item g l = l.out.items ≡ l.fn.out.items
    ++ (codes "list"
    ++ flat_map (λ item. id_word (g.T.Attached.number item)) (take l.item-index l.items))
