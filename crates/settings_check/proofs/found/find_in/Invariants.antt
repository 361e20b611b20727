use Rattle.settings_check.specs.Found.{found_view}
use Rattle.settings_check.proofs.Lists.{FoundFollows}
use Rattle.settings_check.proofs.found.find_in.Given as goal

abbrev pub invariant-loop-name : goal.invariant-loop-name
invariant-loop-name g l =
    FoundFollows (g.F.Files.Gives l.files) l.input l.names l.name-index (found_view l.found)
