use Rattle.iox2sd_config.proofs.Prelude.{refl}
use Rattle.iox2sd_config.proofs.Listed.{has_faults}
use Rattle.iox2sd_config.proofs.read.read_contents.Goals as goal

pub first_fault-requires-clause-parsed : goal.first_fault-requires-clause-parsed
first_fault-requires-clause-parsed c = rw c.requires.parsed refl

pub first_fault-requires-clause-some : goal.first_fault-requires-clause-some
first_fault-requires-clause-some c =
    rw c.as_slice.ensures.value
    (has_faults c.requires.default c.requires.file _ _ c.in-None.is c.requires.faults
    c.requires.config)
