use Rattle.config_report.proofs.Prelude.{◌≡◌, ◌++◌, drop, flat_map, map, candidate_view, contradiction_view}
use Rattle.config_report.proofs.contradictions.add_all.Given as goal

abbrev pub invariant-loop-candidate : goal.invariant-loop-candidate
invariant-loop-candidate l =
    map contradiction_view l.list.items
    ++ flat_map candidate_view (drop l.candidate-index l.candidates)
    ≡ map contradiction_view l.initial.list.items ++ flat_map candidate_view l.candidates
