use Rattle.service_descriptions.proofs.Keeping.{rising_from_adjacent}
use Rattle.service_descriptions.proofs.replay.machine.cleanup.Kept.of.Goals as goal

pub invariant_of-result : goal.invariant_of-result
invariant_of-result c =
    rising_from_adjacent c.args.values.now c.is_sorted.result c.is_sorted.ensures.cases
