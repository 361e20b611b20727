use Rattle.config_report.proofs.Prelude.{IsUtf8-past_char}
use Rattle.config_report.proofs.Characters.{printed_next}
use Rattle.config_report.proofs.printable.write_printable.Goals as goal

pub loop-c-preserved : goal.loop-c-preserved
loop-c-preserved c =
    let held = c.loop-c.invariant in
    let parts = c.in-Some.ensures.steps.0 in (
      IsUtf8-past_char _ _ c.in-Some.c held.0 parts,
      printed_next _ _ c.in-Some.c _ _ _ held.0 parts held.1 c.in_ok-write_char.ensures,
    )
