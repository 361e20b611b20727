use Rattle.std.proofs.Common.{◌≤◌, map, length}
use Rattle.line_streams.proofs.Phrases.{GoesOn}
use Rattle.line_streams.proofs.phrase.list_before.Given as goal

abbrev pub invariant-items : goal.invariant-items
invariant-items g l =
    GoesOn l.word l.byte (g.P.Phrase.spelling l.phrase) (map g.P.Phrase.view l.items.items)
    l.tail l.bytes × (length l.tail ≤ length l.bytes)

abbrev pub decreases-items : goal.decreases-items
decreases-items g l = length l.tail
