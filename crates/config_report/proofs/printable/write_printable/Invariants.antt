use Rattle.std.specs.Str.Iter.{chars_rest}
use Rattle.config_report.proofs.Prelude.{◌≡◌, ◌++◌, IsUtf8, chars, string_bytes, flat_map, printable_char}
use Rattle.config_report.proofs.printable.write_printable.Given as goal

abbrev pub invariant-loop-c : goal.invariant-loop-c
invariant-loop-c l =
    IsUtf8 (chars_rest l.c-iterator)
    × (string_bytes l.out ++ flat_map printable_char (chars (chars_rest l.c-iterator))
    ≡ string_bytes l.initial.out
    ++ flat_map printable_char (chars (chars_rest l.initial.c-iterator)))
