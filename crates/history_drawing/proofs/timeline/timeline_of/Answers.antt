use Rattle.std.proofs.Common.{◌≡◌, ◌+◌, ◌≤◌, ℕ, arith, refl, rules, subst}
use Rattle.history_drawing.proofs.Shown.{none_above}
use Rattle.history_drawing.specs.Timelines.{AreBars}
use Rattle.history_drawing.proofs.timeline.timeline_of.Goals.{else-loop-line-test, then-loop-line-test+in_ok-add_line+else-not-branch+else-line-line-end}
use Rattle.history_drawing.proofs.timeline.timeline_of.Goals as goal

pub returns-clause-some : goal.returns-clause-some
returns-clause-some c =
    let lines = c.args.lines.now in
    let window = c.args.window.now in
    let l = c.loop-line in
    let t = c.loop-line-test in
    record {
      bars = elim t.branch as (λ _. AreBars lines window (window.last + 1) t.rows.items
          t.bars.items) [
            | else-loop-line-test w ↦
                let (are, behind) = l.invariant in
                let past = w.loop-line-test.false in
                let early : l.line ≤ window.first = grind arith in
                rw (w.rows-is, w.bars-is) (none_above lines window l.line (window.last + 1)
                _ _ early (omega (arith, past)) are)
            | then-loop-line-test+in_ok-add_line+else-not-branch+else-line-line-end w ↦
                let same : l.line ≡ window.last = search rules in
                rw (w.rows-is, w.bars-is) (subst (λ (n : ℕ). AreBars lines window (n + 1)
                w.add_line.new.rows.items w.add_line.new.bars.items) same
                (w.in_ok-add_line.ensures.fits w.if-not-branch.false))
          ];
      points = c.new.ensures.items;
      refused = refl;
    }
