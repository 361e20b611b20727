use Rattle.std.proofs.Common.{arith}
use Rattle.history_logs.proofs.Callers.{ended_open, same_open}
use Rattle.history_logs.proofs.logs.callers.Callers.set.Goals as goal

pub index_mut-requires : goal.index_mut-requires
index_mut-requires c =
    let calls = c.in-Some.ensures.some in
    let ended = ended_open c.self.inside.counts.items c.self.inside.states.entries _ _ _ _ _
    c.self.invariant c.requires (rw calls.1 at c.in_ok-was.ensures.puts) in
    omega (arith, ended.0, c.self.inside.counts.ok.0)

pub overflow_sub-index_mut : goal.overflow_sub-index_mut
overflow_sub-index_mut c =
    let calls = c.in-Some.ensures.some in
    let ended = ended_open c.self.inside.counts.items c.self.inside.states.entries _ _ _ _ _
    c.self.invariant c.requires (rw calls.1 at c.in_ok-was.ensures.puts) in
    (ended.1 _ c.index_mut.ensures.value).0

pub invariant_of-self-2 : goal.invariant_of-self-2
invariant_of-self-2 c =
    let calls = c.in-Some.ensures.some in
    let ended = ended_open c.self.inside.counts.items c.self.inside.states.entries _ _ _ _ _
    c.self.invariant c.requires (rw calls.1 at c.in_ok-was.ensures.puts) in
    (ended.1 _ c.index_mut.ensures.value).1

pub invariant_of-self-in_default : goal.invariant_of-self-in_default
invariant_of-self-in_default c =
    same_open c.self.inside.counts.items c.self.inside.states.entries
    c.put.new.states.entries c.args.name.now c.args.state _ c.self.invariant c.requires
    c.in_default.ensures.none c.in_ok-was.ensures.puts
