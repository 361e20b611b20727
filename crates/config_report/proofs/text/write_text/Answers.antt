use Rattle.config_report.proofs.Prelude.{refl, string_bytes, on_ok_weaker}
use Rattle.config_report.proofs.Lines.{then}
use Rattle.config_report.proofs.text.write_text.Goals as goal

pub returns : goal.returns
returns c =
    let start = string_bytes c.args.out.now in
    let title = string_bytes c.write.new.self in
    let set = string_bytes c.write_tables.new.out in
    let directories = string_bytes c.write_directories.new.out in
    let files = string_bytes c.write_files.new.out in
    let end = string_bytes c.write_needs.new.out in
    on_ok_weaker c.write_needs.result
    (λ (needs, last, tell). (
      _,
      then start set end _ _
          (then start title set _ _ c.in_ok-write.ensures.bytes c.in_ok-write_tables.ensures)
          (then set directories end _ _ c.in_ok-write_directories.ensures
          (then directories files end _ needs c.in_ok-write_files.ensures last)),
      (needs, tell, refl),
    )) c.write_needs.ensures
