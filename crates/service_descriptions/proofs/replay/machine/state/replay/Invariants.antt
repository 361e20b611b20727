use Rattle.std.proofs.Common.{◌≡◌, ◌+◌, vec_len}
use Rattle.service_descriptions.specs.Steps.{Did, IsState}
use Rattle.service_descriptions.proofs.replay.machine.state.replay.Given as goal

abbrev pub invariant-loop-command : goal.invariant-loop-command
invariant-loop-command l = record {
  is_state : IsState l.state;
  did : Did l.fn.state l.state l.commands l.fn.replies.items l.replies.items;
  count : vec_len l.replies ≡ vec_len l.fn.replies + l.command-index;
}
