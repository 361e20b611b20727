use Rattle.config_report.proofs.Prelude.{append-nil, on_ok_weaker, map, candidate_view, contradiction_view}
use Rattle.config_report.proofs.Lines.{then}
use Rattle.config_report.proofs.contradictions.add_defaults.Goals as goal

pub returns : goal.returns
returns c =
    let before = map contradiction_view c.args.list.now.items in
    let one = map contradiction_view c.add_all.new.list.items in
    let two = map contradiction_view c.add_all-2.new.list.items in
    let all = map contradiction_view c.add_all-3.new.list.items in
    let alone = append-nil (candidate_view c.history.result) in
    on_ok_weaker c.add_all-3.result
    (λ last. then before one all _ _
    (rw (alone, c.history.ensures) at c.in_ok-add_all.ensures)
    (then one two all _ _ (rw c.events.ensures at c.in_ok-add_all-2.ensures)
    (rw c.limits.ensures at last)))
    c.add_all-3.ensures
