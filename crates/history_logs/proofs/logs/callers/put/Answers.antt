use Rattle.std.proofs.Common.{None, rules, ◌≡◌}
use Rattle.history_logs.specs.Parts.{callers_of}
use Rattle.history_logs.proofs.Callers.{puts_known, puts_new}
use Rattle.history_logs.proofs.logs.callers.put.Goals as goal

pub returns-in-Some-clause-puts : goal.returns-in-Some-clause-puts
returns-in-Some-clause-puts c =
    puts_known c.args.name.now _ c.args.state c.args.states.now
    (c.get_mut.follows.lender c.args.state) (search rules)
    (c.get_mut.follows.holds c.args.state).0
    ((c.get_mut.follows.holds c.args.state).3 (search rules))

pub returns-clause-puts : goal.returns-clause-puts
returns-clause-puts c =
    let none : callers_of c.args.states.now.entries c.args.name.now ≡ None = search rules in
    let puts = puts_new c.in_ok-name.name c.args.state c.get_mut.follows.lender-at-none
    c.insert.new.self c.insert.ensures.was_ordered
    (rw (c.in_ok-name.ensures.items, c.get_mut.follows.holds-at-none) none)
    c.in_ok-insert.ensures.entries c.in_ok-insert.ensures.updates in
    rw (c.in_ok-name.ensures.items, c.get_mut.follows.holds-at-none) at puts
