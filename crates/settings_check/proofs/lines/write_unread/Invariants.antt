use Rattle.std.proofs.Common.{◌≡◌, ◌++◌, drop, string_bytes}
use Rattle.std.specs.Prelude.{flat_map}
use Rattle.settings_check.specs.Found.{unread_of}
use Rattle.settings_check.specs.Lines.{unread_line}
use Rattle.settings_check.proofs.lines.write_unread.Given as goal

abbrev pub invariant-loop-file : goal.invariant-loop-file
invariant-loop-file l =
    string_bytes l.out ++ flat_map unread_line (unread_of (drop l.file-index l.unread))
    ≡ string_bytes l.initial.out ++ flat_map unread_line (unread_of l.unread)
