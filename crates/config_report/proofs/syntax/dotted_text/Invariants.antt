use Rattle.config_report.proofs.Prelude.{◌≡◌, ◌++◌, codes, drop, flat_map, map, string_bytes}
use Rattle.config_report.proofs.syntax.dotted_text.Given as goal
use Rattle.toml_writer.specs.Text.{key_text}

abbrev pub invariant-loop-part : goal.invariant-loop-part
invariant-loop-part l =
    let written = flat_map (λ part. key_text part ++ codes ".") in
    string_bytes l.text ++ written (map string_bytes (drop l.part-index l.key.path.items))
    ≡ written (map string_bytes l.key.path.items)
