use Rattle.config_report.proofs.Prelude.{◌∙◌, ◌++◌, ap, sym, subst, IsReportOver}
use Rattle.config_report.proofs.check.settings_text.Goals as goal

pub returns : goal.returns
returns c =
    let (text, wrote, is) = c.in_ok-write_text.ensures in (
      c.default.result,
      c.default.ensures,
      subst (λ t. IsReportOver c.default.result c.args.config.now t)
          (sym (wrote ∙ ap (λ l. l ++ text) c.new-text.ensures.bytes)) is,
    )
