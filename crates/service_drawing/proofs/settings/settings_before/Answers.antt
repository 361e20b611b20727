use Rattle.std.proofs.Common.{[], refl, rules}
use Rattle.std.specs.List.{IsDistinct}
use Rattle.service_drawing.proofs.Descriptions.{same_base}
use Rattle.service_drawing.proofs.SettingLines.{none_marked, one_more_setting, setting_refused}
use Rattle.service_drawing.proofs.settings.settings_before.Goals as goal

pub loop-text-init : goal.loop-text-init
unfolding IsDistinct
loop-text-init c = record {
  read = record { each = []; lines = refl; make = (tt, refl, same_base _ c.args.kind) };
  marks = none_marked 32;
}

pub loop-text-preserved : goal.loop-text-preserved
loop-text-preserved c =
    one_more_setting _ c.args.kind c.loop-text.config _ _ _ _ _ _ c.in-Some.text.now
    c.loop-text.invariant (search rules) c.in-Ok.ensures.set c.in-Ok.ensures.others

pub returns-in-Err : goal.returns-in-Err
returns-in-Err c =
    rw (c.expected.ensures.rest, c.expected.ensures.reason)
    (setting_refused c.args.config.now c.args.kind c.loop-text.config _ _ _ _ c.in-Some.text.now
    c.in-Some.tail.now c.loop-text.invariant (search rules) c.in-Err.ensures.refused)
