use Rattle.config_report.proofs.Prelude.{◌∙◌, ap, lines_of}
use Rattle.config_report.proofs.check.read_file.Goals as goal

pub returns-in-Some : goal.returns-in-Some
returns-in-Some c = (
  c.in-Ok.found,
  c.in-Ok.ensures,
  c.in-Some.is,
  c.in-Ok-lines_of.ensures ∙ ap (λ l. lines_of l) c.as_slice.ensures.value,
)

pub returns : goal.returns
returns c = (
  c.in-Ok.found,
  c.in-Ok.ensures,
  c.in-None.is,
  c.in-Ok-lines_of.ensures ∙ ap (λ l. lines_of l) c.as_slice.ensures.value,
)
