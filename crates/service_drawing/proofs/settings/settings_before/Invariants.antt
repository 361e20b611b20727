use Rattle.std.proofs.Common.{length}
use Rattle.service_drawing.proofs.SettingLines.{Setting}
use Rattle.service_drawing.proofs.settings.settings_before.Given as goal

abbrev pub invariant-loop-text : goal.invariant-loop-text
invariant-loop-text l = Setting l.fn.config l.kind l.config l.given l.rest l.fn.bytes

abbrev pub decreases-loop-text : goal.decreases-loop-text
decreases-loop-text l = length l.rest
