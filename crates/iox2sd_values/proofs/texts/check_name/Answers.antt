use Rattle.iox2sd_values.proofs.Prelude.{Err, Ok, arith, refl, refuted}
use Rattle.iox2_texts.specs.declared.bounded.SemanticStringError.TheVariants.{InvalidContent, ExceedsMaximumLength}
use Rattle.iox2sd_values.proofs.texts.check_name.Goals as goal

pub returns-then-is_name : goal.returns-then-is_name
returns-then-is_name c =
    let name = c.is_name.ensures.0 c.if-is_name.true in
    (Ok c.args.text.now, (refl, name.0.0, name), c.position.ensures)

pub returns-then-text-most : goal.returns-then-text-most
returns-then-text-most c = (Err ExceedsMaximumLength, c.if-text-most.true, c.refusal.ensures)

pub returns : goal.returns
returns c = (
  Err InvalidContent,
  (omega (arith, c.if-text-most.false), refuted _ _ c.is_name.ensures c.if-is_name.false),
  c.refusal-2.ensures,
)
