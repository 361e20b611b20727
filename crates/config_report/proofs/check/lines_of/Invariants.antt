use Rattle.config_report.proofs.Prelude.{◌≡◌, ◌++◌, drop, string_bytes, lines_of}
use Rattle.config_report.proofs.check.lines_of.Given as goal

abbrev pub invariant-loop-finding : goal.invariant-loop-finding
invariant-loop-finding l =
    string_bytes l.lines ++ lines_of (drop l.finding-index l.list) ≡ lines_of l.list
