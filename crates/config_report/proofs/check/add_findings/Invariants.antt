use Rattle.config_report.proofs.Prelude.{◌≡◌, ◌++◌, drop, map, finding_view, note_in}
use Rattle.config_report.proofs.check.add_findings.Given as goal

abbrev pub invariant-loop-subject : goal.invariant-loop-subject
invariant-loop-subject g l =
    let topic = g.T.Subject.topic in
    let text = l.initial.positions in
    (l.positions ≡ text)
    × (map finding_view l.list.items
    ++ map (note_in text) (map topic (drop l.subject-index l.subjects))
    ≡ map finding_view l.initial.list.items ++ map (note_in text) (map topic l.subjects))
