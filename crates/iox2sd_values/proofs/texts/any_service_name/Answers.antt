use Rattle.iox2sd_values.proofs.Prelude.{Err, inl, refl, subst}
use Rattle.iox2sd_values.specs.Prelude.{MakesPublicName}
use Rattle.iox2sd_values.proofs.texts.any_service_name.Goals as goal

pub returns-in-Err-new : goal.returns-in-Err-new
returns-in-Err-new c =
    let read = c.in-Ok.ensures.cases in
    let refused =
    subst (λ text. MakesPublicName text (Err c.in-Err-new.field-0)) read.0 c.in-Err-new.ensures in
    let checked = c.iox2sd_service_name_check_at-cause in
    rw c.if-internal.false
    (inl (read.1, (_, refused, _, (_, checked.ensures, refl), refl)))
