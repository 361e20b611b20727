use Rattle.history_logs.proofs.Words.{AllZip, IsReported, Judged, Some, slice_get, take, ◌≡◌}
use Rattle.history_logs.proofs.logs.judging.configurations.Given as goal

abbrev pub invariant-loop-config : goal.invariant-loop-config
invariant-loop-config l =
    (c : Judged) → slice_get l.service.calls l.call ≡ Some c
    → AllZip (IsReported l.service c l.slots) (take l.config-index l.configs) l.reported.items
