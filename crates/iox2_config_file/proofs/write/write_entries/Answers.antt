use Rattle.std.proofs.Common.{refl, sym}
use Rattle.std.proofs.lemmas.Option.{slice_get-get_or}
use Rattle.iox2_config_file.proofs.Rowed.{all_written, entries_past, entries_next}
use Rattle.iox2_config_file.proofs.write.write_entries.Goals as goal

pub returns-in_default : goal.returns-in_default
returns-in_default c = (
  _,
  all_written _ _ _ c.loop-index.invariant
      (entries_past _ _ _ c.loop-index.index (sym c.in_default.ensures)),
  (_, c.rows-rows.ensures.keys c.args.config.now, c.rows-rows.ensures.lines, refl),
)

pub loop-index-preserved : goal.loop-index-preserved
loop-index-preserved c =
    entries_next c.rows-rows.result.now _ _ c.loop-index.index _ _ _ _ _ _ c.loop-index.invariant
    c.in_ok-write.ensures.bytes (slice_get-get_or _ _ _ c.loop-index-test.true)
    (sym c.in-Some-value_at.ensures) (sym c.in-Some.ensures)
