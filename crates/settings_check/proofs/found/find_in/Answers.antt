use Rattle.std.proofs.Common.{ap, ◌∙◌, string_bytes}
use Rattle.settings_check.specs.Found.{found_view}
use Rattle.settings_check.proofs.Lists.{found_next}
use Rattle.settings_check.proofs.found.find_in.Goals as goal

pub loop-name-preserved : goal.loop-name-preserved
loop-name-preserved g c =
    found_next (g.F.Files.Gives c.args.files.now) c.args.input.now c.args.names.now
    c.loop-name.name-index c.name-item.result c.as_str.result.now (found_view c.loop-name.found)
    (found_view c.add_file.new.found) c.loop-name-test.true
    (c.as_str.ensures.value ∙ ap (λ s. string_bytes s) c.name-item.is)
    c.in_ok-add_file.ensures c.loop-name.invariant
