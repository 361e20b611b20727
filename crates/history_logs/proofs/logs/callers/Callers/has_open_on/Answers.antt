use Rattle.std.proofs.Common.{refl, rules, sym, tests}
use Rattle.std.proofs.lemmas.List.{get_or_past}
use Rattle.history_logs.proofs.Callers.{says_open}
use Rattle.history_logs.proofs.logs.callers.Callers.has_open_on.Goals as goal

pub returns-in-Some-clause-yes : goal.returns-in-Some-clause-yes
returns-in-Some-clause-yes c more =
    (says_open c.self.inside.counts.items _ _ c.args.at c.in-Some.count.now
    c.len-ordered.ensures.ordered c.self.invariant c.self.view_is
    (rw (← c.deref.ensures.value) (c.in-Some.ensures.lookup.3.1 0))).0 (search (rules, tests))

pub returns-in-Some-clause-no : goal.returns-in-Some-clause-no
returns-in-Some-clause-no c none =
    (says_open c.self.inside.counts.items _ _ c.args.at c.in-Some.count.now
    c.len-ordered.ensures.ordered c.self.invariant c.self.view_is
    (rw (← c.deref.ensures.value) (c.in-Some.ensures.lookup.3.1 0))).1 (search (rules, tests))

pub returns-in-None-clause-no : goal.returns-in-None-clause-no
returns-in-None-clause-no c none =
    (says_open c.self.inside.counts.items _ _ c.args.at 0 c.len-ordered.ensures.ordered
    c.self.invariant c.self.view_is
    (rw (← c.deref.ensures.value)
    (sym (get_or_past c.deref.result.now c.args.at 0 c.in-None.ensures.lookup.3)))).1 refl
