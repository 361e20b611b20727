use Rattle.std.proofs.Common.{inl, inr}
use Rattle.service_drawing.specs.Descriptions.{after_settings}
use Rattle.service_drawing.proofs.Descriptions.{Breaks, stops_behind_service}
use Rattle.service_drawing.proofs.Answered.{handed_on}
use Rattle.service_drawing.proofs.SettingLines.{stops_behind_settings}
use Rattle.service_drawing.proofs.reading.read_description.Goals as goal

pub returns-in_err-rest : goal.returns-in_err-rest
returns-in_err-rest c =
    let s = c.in_ok-service in
    let bad = c.in_err-rest in
    handed_on _ _ _ _ c.from_residual-in_err-rest.ensures (
      stops_behind_service c.args.base s.service.kind s.service.name _ s.rest.now c.args.bytes.now
          s.ensures.spelled (inl (inl bad.ensures.0)),
      bad.ensures.1 s.service.name c.args.bytes.now s.ensures.spelled,
    )

pub returns-in_err-exchange : goal.returns-in_err-exchange
returns-in_err-exchange c =
    let bad = c.in_err-exchange.ensures in
    handed_on _ _ _ _ c.from_residual-in_err-exchange.ensures
    (stops_behind_settings _ _ _ _ c.settings_before.new.config _ _ _ _ bad.1
    c.in_ok-service.ensures.spelled c.in_ok-rest.ensures
    (inl (inl bad.0)))

pub returns-in_err-attributes : goal.returns-in_err-attributes
returns-in_err-attributes c =
    let bad = c.in_err-attributes.ensures in
    handed_on _ _ _ _ c.from_residual-in_err-attributes.ensures
    (stops_behind_settings _ _ _ _ c.settings_before.new.config _ _ _ _ bad.1
    c.in_ok-service.ensures.spelled c.in_ok-rest.ensures
    (inl (inr (_, _, c.in_ok-exchange.ensures, inl bad.0))))

pub returns-in_err-required : goal.returns-in_err-required
returns-in_err-required c =
    let bad = c.in_err-required.ensures in
    handed_on _ _ _ _ c.from_residual-in_err-required.ensures
    (stops_behind_settings _ _ _ _ c.settings_before.new.config _ _ _ _ bad.1
    c.in_ok-service.ensures.spelled c.in_ok-rest.ensures
    (inl (inr (_, _, c.in_ok-exchange.ensures, inr (_, _, c.in_ok-attributes.ensures, bad.0)))))

pub returns-then-not-is_empty : goal.returns-then-not-is_empty
returns-then-not-is_empty c =
    let left : Breaks (after_settings c.in_ok-service.service.kind) c.in_ok-required.rest.now
    c.in_ok-rest.rest.now = inr (
      (_, (_, _)),
      (_, c.in_ok-exchange.ensures, (_, c.in_ok-attributes.ensures, c.in_ok-required.ensures)),
      c.if-not-is_empty.ensures,
    ) in
    rw c.prefixed.ensures.rest
    (stops_behind_settings _ _ _ _ c.settings_before.new.config _ _ _ _ c.prefixed.ensures.reason
    c.in_ok-service.ensures.spelled c.in_ok-rest.ensures left)
