use Rattle.iox2sd_config.proofs.Prelude.{PutsListed, ap, count_answer, inr, refl, ◌∙◌}
use Rattle.iox2sd_config.proofs.Listed.{of_file}
use Rattle.iox2sd_config.proofs.read.iox2sd_config_faults_at.Goals as goal

pub put_listed-requires : goal.put_listed-requires
put_listed-requires c = rw (c.in-Ok.ensures.ok.0, c.in-Ok.ensures.ok.2.parsed) refl

pub returns-in-Ok : goal.returns-in-Ok
returns-in-Ok c =
    of_file _ _ _
    (λ t file. PutsListed t file.faults.items c.args.out.now c.put_listed.result
    c.put_listed.new.out) _ c.in-Ok.ensures.ok (rw c.as_slice.ensures.value at c.put_listed.ensures)

pub returns-in-Err : goal.returns-in-Err
returns-in-Err c =
    inr (
      c.in-Err.unread,
      c.in-Err.ensures.err,
      (c.count.ensures ∙ ap (λ s. count_answer s 0) c.unread_status.ensures, refl),
    )
