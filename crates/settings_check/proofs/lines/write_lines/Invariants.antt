use Rattle.std.proofs.Common.{◌≡◌, ◌++◌, drop, string_bytes}
use Rattle.settings_check.specs.Found.{reports_of}
use Rattle.settings_check.specs.Lines.{lines_in}
use Rattle.settings_check.proofs.lines.write_lines.Given as goal

abbrev pub invariant-loop-report : goal.invariant-loop-report
invariant-loop-report l =
    string_bytes l.out ++ lines_in l.style (reports_of (drop l.report-index l.reports))
    ≡ string_bytes l.initial.out ++ lines_in l.style (reports_of l.reports)
