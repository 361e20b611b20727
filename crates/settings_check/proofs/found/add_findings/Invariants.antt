use Rattle.std.proofs.Common.{◌≡◌, ◌++◌, length, map}
use Rattle.std.specs.Vec.Iter.{into_iter_items, into_iter_len}
use Rattle.settings_check.specs.Found.{report_of, reports_of}
use Rattle.settings_check.proofs.found.add_findings.Given as goal

abbrev pub invariant-loop-finding : goal.invariant-loop-finding
invariant-loop-finding l =
    (reports_of l.reports.items
    ++ map (report_of l.file) (into_iter_items l.finding-iterator)
    ≡ reports_of l.initial.reports.items
    ++ map (report_of l.file) (into_iter_items l.initial.finding-iterator))
    × (into_iter_len l.finding-iterator ≡ length (into_iter_items l.finding-iterator))
