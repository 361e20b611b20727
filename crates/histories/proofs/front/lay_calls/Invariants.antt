use Rattle.histories.proofs.Words.{take, IsLaidOut}
use Rattle.histories.proofs.front.lay_calls.Given as goal

abbrev pub invariant-loop-call : goal.invariant-loop-call
invariant-loop-call l =
    IsLaidOut l.fn.links.items l.base (take l.call-index l.calls) l.links.items l.last
