use Rattle.iox2sd_config.proofs.Prelude.{Settles, ap, inr, refl, refused_answer, ◌∙◌}
use Rattle.iox2sd_config.proofs.Listed.{of_file}
use Rattle.iox2sd_config.proofs.read.read_into.Goals as goal

pub read_contents-requires : goal.read_contents-requires
read_contents-requires c = rw c.in-Ok.ensures.ok.0 c.in-Ok.ensures.ok.2

pub returns-in-Ok : goal.returns-in-Ok
returns-in-Ok c =
    of_file _ _ _
    (λ t file. Settles t file file.config c.args.plain.now c.read_contents.result
    c.read_contents.new.plain) _ c.in-Ok.ensures.ok c.read_contents.ensures

pub returns-in-Err : goal.returns-in-Err
returns-in-Err c =
    inr (
      c.in-Err.unread,
      c.in-Err.ensures.err,
      (c.refused.ensures ∙ ap (λ k. refused_answer k) c.plain_unread.ensures, refl),
    )
