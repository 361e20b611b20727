use Rattle.iox2sd_config.proofs.Prelude.{c_fault, drop, fault_view, map, ◌++◌, ◌≡◌}
use Rattle.iox2sd_config.proofs.read.plain_faults.Given as goal

abbrev pub invariant-loop-fault : goal.invariant-loop-fault
invariant-loop-fault l =
    (l.positions ≡ l.text)
    × (l.plain.items ++ map (c_fault l.text) (map fault_view (drop l.fault-index l.faults))
    ≡ map (c_fault l.text) (map fault_view l.faults))
