use Rattle.std.proofs.Common.{sym, inl, refl, [], rules, ◌∙◌}
use Rattle.std.proofs.lemmas.List.{append-nil}
use Rattle.service_descriptions.proofs.replay.lines.script.run_script.Goals as goal

pub returns-in_default : goal.returns-in_default
returns-in_default c = (
  [],
  sym (append-nil _),
  inl (
    (refl, λ service lines h. c.in_default.ensures (service, lines) h.is_service h.spelled),
    refl,
  ),
)

pub returns-in_err-reserve : goal.returns-in_err-reserve
returns-in_err-reserve c =
    ([], c.reserve.ensures.items ∙ sym (append-nil _), inl (search rules, refl))
