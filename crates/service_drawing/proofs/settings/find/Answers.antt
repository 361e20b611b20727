use Rattle.std.proofs.Common.{◌≡◌, ℕ, Some, below_more, slice_get, rules}
use Rattle.service_drawing.specs.Settings.{HasName, IsNamed, setting_names}
use Rattle.service_drawing.proofs.SettingLines.{none_named, not_named}
use Rattle.service_drawing.proofs.settings.find.Goals as goal

pub loop-name-preserved : goal.loop-name-preserved
loop-name-preserved c =
    let names = setting_names c.args.kind in
    let there : Some c.in-Some.name.now ≡ slice_get names c.loop-name.index = search rules in
    let other : ¬ IsNamed c.args.word.now c.in-Some.name.now = search rules in
    below_more (λ (k : ℕ). ¬ HasName names k c.args.word.now) c.loop-name.index
    c.loop-name.invariant
    (not_named names c.loop-name.index c.args.word.now c.in-Some.name.now there other)

pub returns-clause-name : goal.returns-clause-name
returns-clause-name c =
    none_named (setting_names c.args.kind) c.loop-name.index c.args.word.now (search rules)
    c.loop-name.invariant
