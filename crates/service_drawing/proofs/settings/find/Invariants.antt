use Rattle.std.proofs.Common.{ℕ, ◌-◌, ◌<◌}
use Rattle.service_drawing.specs.Settings.{HasName, setting_names}
use Rattle.service_drawing.proofs.settings.find.Given as goal

abbrev pub invariant-loop-name : goal.invariant-loop-name
invariant-loop-name l = (k : ℕ) → k < l.index → ¬ HasName (setting_names l.kind) k l.word

abbrev pub decreases-loop-name : goal.decreases-loop-name
decreases-loop-name l = 32 - l.index
