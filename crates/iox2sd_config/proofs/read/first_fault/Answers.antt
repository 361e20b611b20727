use Rattle.iox2sd_config.proofs.Prelude.{ListsFaults, ap, arith, inl, slice_get, subst, ◌∙◌}
use Rattle.iox2sd_config.proofs.Listed.{as_many, front_of}
use Rattle.iox2sd_config.proofs.read.first_fault.Goals as goal

pub first_of-requires : goal.first_of-requires
first_of-requires c =
    let many = as_many _ _ _ c.in-Ok.ensures in
    grind (arith, many, c.requires.some, c.as_slice.ensures.value)

pub returns-in-Ok : goal.returns-in-Ok
returns-in-Ok c =
    let (more, is) =
    front_of c.in-Ok.listed.items c.first_of.result
    (c.first_of.ensures ∙ ap (λ l. slice_get l 0) c.as_slice.ensures.value) in
    inl (more, subst (ListsFaults c.args.text.now c.args.faults.now) is c.in-Ok.ensures)
