use Rattle.iox2sd_values.proofs.Prelude.{ap, ok_or, refl, slice_get, subst, values_of, ◌∙◌}
use Rattle.iox2sd_common.specs.declared.status.Status.TheVariants as status
use Rattle.iox2sd_values.specs.Refusals.{ReportsMade}
use Rattle.iox2sd_values.specs.declared.refusals.Refusal.TheVariants as refusal
use Rattle.iox2sd_values.proofs.Sets.{the_set}
use Rattle.iox2sd_values.proofs.attributes.write_value.Goals as goal

pub returns-in-Some : goal.returns-in-Some
returns-in-Some c set listed =
    let same = the_set _ _ _ c.sorted-copies.ensures listed in
    subst
    (λ o. ReportsMade (ok_or o (refusal.Because status.NoSuchValue)) c.args.out.now
    c.write.result c.write.new.out)
    (c.in-Some.ensures ∙ ap (λ s. slice_get (values_of s c.args.key.now) c.args.index) same)
    c.write.ensures

pub returns-in-None : goal.returns-in-None
returns-in-None c set listed =
    let same = the_set _ _ _ c.sorted-copies.ensures listed in
    subst
    (λ o. ReportsMade (ok_or o (refusal.Because status.NoSuchValue)) c.args.out.now
    c.no_text.result c.args.out.now)
    (c.in-None.ensures ∙ ap (λ s. slice_get (values_of s c.args.key.now) c.args.index) same)
    (c.no_text.ensures, refl)
