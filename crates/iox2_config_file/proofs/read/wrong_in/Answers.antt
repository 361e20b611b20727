use Rattle.toml.specs.View.{table_view}
use Rattle.iox2_config_file.specs.Read.{section_faults, sections}
use Rattle.iox2_config_file.specs.Unknown.{section_unknown}
use Rattle.iox2_config_file.specs.declared.section.Section.TheVariants.{Root}
use Rattle.iox2_config_file.proofs.Rowed.{table_more}
use Rattle.iox2_config_file.proofs.read.wrong_in.Goals as goal

pub loop-section-preserved : goal.loop-section-preserved
loop-section-preserved c =
    let file = table_view c.args.file.now in
    let at = c.loop-section.section-index in
    let is = c.section_table-table.ensures in record {
      faults = λ config.
          table_more (section_faults config file) sections at Root _ _ _ c.loop-section-test.true
          (c.in_ok-add_faults.ensures config file is) (c.loop-section.invariant.faults config);
      unknown = λ config.
          table_more (section_unknown config file) sections at Root _ _ _ c.loop-section-test.true
          (c.in_ok-add_unknown.ensures config file is) (c.loop-section.invariant.unknown config);
    }
