use Rattle.config_report.proofs.Prelude.{◌++◌, ◌∙◌, [], ◌∷◌, ap, inl, refl, map, finding_view}
use Rattle.config_report.proofs.check.check_file.Goals as goal

pub returns-in_ok-push-in-Err : goal.returns-in_ok-push-in-Err
returns-in_ok-push-in-Err c =
    let finding = c.in_ok-finding-in-Err.field-0 in
    inl (record {
      said = finding_view finding;
      no_file = c.in_ok-finding-in-Err.ensures c.args.bytes.now c.in-Err.ensures.err;
      config = refl;
      list = ap (λ l. map finding_view l)
          (c.in_ok-push-in-Err.ensures.items
          ∙ ap (λ l. l ++ finding ∷ []) c.new-list.ensures.items);
    })
