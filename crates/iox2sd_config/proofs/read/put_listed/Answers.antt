use Rattle.iox2sd_config.proofs.Prelude.{inl}
use Rattle.iox2sd_config.proofs.read.put_listed.Goals as goal

pub returns-in-Ok : goal.returns-in-Ok
returns-in-Ok c =
    inl (c.in-Ok.listed.items, c.in-Ok.ensures, rw c.as_slice.ensures.value at c.put_faults.ensures)
