use Rattle.config_report.proofs.Prelude.{◌≡◌, ◌++◌, drop, map, contradiction_note, contradiction_view, finding_view}
use Rattle.config_report.proofs.check.add_contradictions.Given as goal

abbrev pub invariant-loop-contradiction : goal.invariant-loop-contradiction
invariant-loop-contradiction l =
    let text = l.initial.positions in
    (l.positions ≡ text)
    × (map finding_view l.list.items
    ++ map (contradiction_note text)
    (map contradiction_view (drop l.contradiction-index l.contradictions))
    ≡ map finding_view l.initial.list.items
    ++ map (contradiction_note text) (map contradiction_view l.contradictions))
