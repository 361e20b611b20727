use Rattle.iox2sd_values.proofs.Prelude.{Err, Ok, subst, ◌++◌}
use lib.Chars.{codes}
use Rattle.iox2_texts.specs.Name.{MakesServiceName}
use Rattle.iox2_texts.specs.declared.service_name.ServiceNameError.TheVariants.{InvalidContent}
use Rattle.iox2sd_values.proofs.texts.prefixed_name.Goals as goal

pub returns-in-Ok-internal_new_prefixed : goal.returns-in-Ok-internal_new_prefixed
returns-in-Ok-internal_new_prefixed c =
    let read = c.in-Ok.ensures.cases in let made = c.in-Ok-internal_new_prefixed in (
      read.1,
      subst
          (λ text. MakesServiceName (codes "iox2://" ++ text) (Ok made.name)) read.0 made.ensures,
    )

pub returns-in-Err-InvalidContent : goal.returns-in-Err-InvalidContent
returns-in-Err-InvalidContent c =
    let read = c.in-Ok.ensures.cases in let refused = c.in-Err-InvalidContent in
    let reported =
    subst (λ e. MakesServiceName (codes "iox2://" ++ c.in-Ok.text.now) (Err e))
    refused.field-0-is refused.ensures in (
      read.1,
      subst
          (λ text. MakesServiceName (codes "iox2://" ++ text) (Err InvalidContent)) read.0 reported,
    )
