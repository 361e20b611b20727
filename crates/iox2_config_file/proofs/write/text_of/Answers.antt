use Rattle.iox2_config_file.specs.Read.{sections}
use Rattle.iox2_config_file.specs.Write.{IsTableText}
use Rattle.iox2_config_file.specs.declared.write.TheConstants.{TITLE}
use Rattle.iox2_config_file.proofs.Rowed.{turn_next, turns_end}
use Rattle.iox2_config_file.proofs.write.text_of.Goals as goal

pub loop-section-preserved : goal.loop-section-preserved
loop-section-preserved c =
    let (done, was, rest) = c.loop-section.invariant in
    let (table, now, is) = c.in_ok-write_table.ensures in
    turn_next (IsTableText c.args.default.now c.args.config.now) sections
    c.loop-section.section-index _ TITLE.now _ _ done table c.loop-section-test.true was now is rest

pub returns : goal.returns
returns c =
    let (done, was, rest) = c.loop-section.invariant in (
      done,
      was,
      turns_end (IsTableText c.args.default.now c.args.config.now) sections
          c.loop-section.section-index done c.loop-section-test.false rest,
    )
