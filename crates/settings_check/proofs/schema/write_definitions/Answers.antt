use Rattle.iox2_config_file.proofs.Rowed.{turn_next}
use Rattle.settings_check.specs.Schema.{IsDefinition}
use Rattle.settings_check.proofs.schema.write_definitions.Goals as goal

pub loop-section-preserved : goal.loop-section-preserved
loop-section-preserved c =
    let (done, was, rest) = c.loop-section.invariant in
    let (text, now, is) = c.in_ok-write_definition.ensures in
    turn_next IsDefinition c.args.sections.now c.loop-section.section-index _ _ _ _ done text
    c.loop-section-test.true was now is rest
