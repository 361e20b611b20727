use Rattle.config_report.proofs.Prelude.{subst, sym}
use Rattle.std.specs.Str.{IsValidUpTo}
use Rattle.config_report.proofs.check.parse_file.Goals as goal

pub returns-in-Err-clause-err : goal.returns-in-Err-clause-err
returns-in-Err-clause-err c = (
  c.valid_up_to.result,
  c.in-Err.ensures.cases.0,
  subst (λ n. IsValidUpTo c.args.bytes.now n) (sym c.valid_up_to.ensures)
      c.in-Err.ensures.cases.1,
  c.in_ok-found-in-Err.ensures,
)
