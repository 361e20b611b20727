-- Logs that are the same, but for the memory of the lists of ids in commands and replies.
use Rattle.std.specs.Prelude.{◌≡◌, ℕ, List, Option, Some, None}
use Rattle.std.specs.Global.{Vec}
use Rattle.std.specs.List.{AllZip}
use Rattle.iox2_container.specs.State.{Handle}
use Rattle.log_lines.specs.Commands.{NamedCommand}
use Rattle.log_lines.specs.Laws.{IsSameCommand, dead}
use Rattle.service_conformance.specs.declared.conformance.seen_reply.SeenReply.{SeenReply}
use Rattle.service_conformance.specs.declared.conformance.seen_reply.SeenReply.TheVariants as seen
use Rattle.service_conformance.specs.Calls.{Call}
use Rattle.service_conformance.specs.Judged.{Judged}
use Rattle.service_conformance.specs.Judged.Judged.{call, stops}
use Rattle.history_logs.specs.Reading.{Log}
use Rattle.history_logs.specs.Seen.{Service}

-- the same reply, or one with the same list in other memory
pub data IsSameReply : SeenReply → SeenReply → Type 0 where
  own_reply : (r : SeenReply) → IsSameReply r r
  other_ids : (ids other : Vec ℕ) → ids.items ≡ other.items
      → IsSameReply (seen.List ids) (seen.List other)

-- the call of such a command
abbrev pub dead_call : ℕ → Vec ℕ → Option Handle → Option (List ℕ) → Call
dead_call node kept handle words =
    record { command = dead node kept; handle = handle; words = words }

-- the same call, or one with the same list in other memory
pub data IsSameCall : Judged → Judged → Type 0 where
  own_call : (c : Judged) → IsSameCall c c
  other_dead : (node : ℕ) (kept other : Vec ℕ) (handle : Option Handle)
      (words : Option (List ℕ)) → kept.items ≡ other.items
      → IsSameCall (call (dead_call node kept handle words))
      (call (dead_call node other handle words))
  other_stop : (start : ℕ) (r s : SeenReply) → IsSameReply r s
      → IsSameCall (stops start (Some r)) (stops start (Some s))

-- what was seen of a service is the same, with the same calls
pub record IsSameService (s t : Service) : Type 0 where
  pub calls : AllZip IsSameCall s.calls t.calls
  pub others : t ≡ record s { calls = t.calls }

-- no call waits for its reply, or the same one does
abbrev pub IsSameWait : Option (ℕ × NamedCommand) → Option (ℕ × NamedCommand) → Type 0
IsSameWait None None = Unit {0}
IsSameWait (Some one) (Some other) = (one.0 ≡ other.0) × IsSameCommand one.1 other.1
IsSameWait _ _ = ⊥

-- the same was read
pub record IsSameLog (log other : Log) : Type 0 where
  pub services : AllZip IsSameService log.services other.services
  pub callers : other.callers ≡ log.callers
  pub waits : IsSameWait log.waits other.waits
