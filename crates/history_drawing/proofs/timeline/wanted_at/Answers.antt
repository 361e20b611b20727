use Rattle.std.proofs.Common.{◌+◌, Option, ℕ, subst}
use Rattle.history_drawing.proofs.Begins.{same_service}
use Rattle.history_drawing.specs.Timelines.{IsOn}
use Rattle.history_drawing.proofs.timeline.wanted_at.Goals as goal

pub returns-in_default-clause-none : goal.returns-in_default-clause-none
returns-in_default-clause-none c = λ seen wanted.
    let none = rw c.in_default.is at c.in_ok-call.ensures.none in
    none seen wanted.0

pub returns-clause-none : goal.returns-clause-none
returns-clause-none c = λ seen wanted.
    let begins = rw c.in-Some.is at c.in_ok-call.ensures.some in
    let same = same_service c.args.lines.now c.args.line (c.args.window.now.last + 1) seen
    c.in-Some.call wanted.0 begins in
    let on = c.is_on.ensures.no (subst (λ (n : Option ℕ).
    IsOn c.args.window.now.wanted c.args.window.now.service n) same wanted.1) in
    let off = c.if-is_on.false in
    absurd (cc)
