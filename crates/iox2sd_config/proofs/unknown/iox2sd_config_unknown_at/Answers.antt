use Rattle.iox2sd_config.proofs.Prelude.{PutsUnknown, ap, inr, refl, unknown_answer, ◌∙◌}
use Rattle.iox2sd_config.proofs.Listed.{of_file}
use Rattle.iox2sd_config.proofs.unknown.iox2sd_config_unknown_at.Goals as goal

pub put_unknown-requires : goal.put_unknown-requires
put_unknown-requires c = rw (c.in-Ok.ensures.ok.0, c.in-Ok.ensures.ok.2.parsed) refl

pub returns-in-Ok : goal.returns-in-Ok
returns-in-Ok c =
    of_file _ _ _
    (λ t file. PutsUnknown t file.unknown.items c.args.out.now c.args.paths.now
    c.put_unknown.result c.put_unknown.new.out c.put_unknown.new.paths) _ c.in-Ok.ensures.ok
    (rw c.as_slice.ensures.value at c.put_unknown.ensures)

pub returns-in-Err : goal.returns-in-Err
returns-in-Err c =
    inr (
      c.in-Err.unread,
      c.in-Err.ensures.err,
      (c.answer.ensures ∙ ap (λ s. unknown_answer s 0 0) c.unread_status.ensures, refl, refl),
    )
