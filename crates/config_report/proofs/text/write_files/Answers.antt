use Rattle.config_report.proofs.Prelude.{◌≡◌, ◌++◌, OnOk, string_bytes, subst, on_ok_weaker, files_text}
use Rattle.config_report.proofs.Lines.{then}
use Rattle.config_report.proofs.text.write_files.Goals as goal

pub returns : goal.returns
returns c =
    let start = string_bytes c.args.out.now in
    let end = string_bytes c.write_kinds.new.out in
    subst (λ v. OnOk c.write_kinds.result (end ≡ start ++ files_text v)) c.config.view_is
    (on_ok_weaker c.write_kinds.result
    (λ last. then start (string_bytes c.write.new.self) end _ _ c.in_ok-write.ensures.bytes
    (rw c.kinds-kinds.ensures at last))
    c.write_kinds.ensures)
