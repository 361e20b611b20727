use Rattle.std.proofs.Common.{arith}
use Rattle.history_logs.proofs.Callers.{begun_open}
use Rattle.history_logs.proofs.logs.callers.Callers.begin.Goals as goal

pub overflow_add-index_mut : goal.overflow_add-index_mut
overflow_add-index_mut c =
    let begun = begun_open c.self.inside.counts.items c.make_room.new.counts.items
    c.self.inside.states.entries c.put.new.states.entries c.args.name.now _ c.args.at c.args.number
    _ c.self.invariant c.make_room.ensures.same (rw c.self.view_is c.requires)
    c.in_ok-put.ensures.puts c.in_ok-make_room.ensures.room c.index_mut.ensures.value in
    omega (arith, begun.0, c.len-few.ensures.len, c.len-few.ensures.small)

pub invariant_of-self-2 : goal.invariant_of-self-2
invariant_of-self-2 c =
    (begun_open c.self.inside.counts.items c.make_room.new.counts.items
    c.self.inside.states.entries c.put.new.states.entries c.args.name.now _ c.args.at c.args.number
    _ c.self.invariant c.make_room.ensures.same (rw c.self.view_is c.requires)
    c.in_ok-put.ensures.puts c.in_ok-make_room.ensures.room c.index_mut.ensures.value).1
