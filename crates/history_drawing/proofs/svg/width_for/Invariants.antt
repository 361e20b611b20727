use Rattle.std.proofs.Common.{◌≡◌, ℕ, List, Bor, length, max, take}
use Rattle.std.specs.List.{fold}
use Rattle.history_drawing.proofs.svg.width_for.Given as goal

abbrev pub invariant-loop-note : goal.invariant-loop-note
invariant-loop-note l = l.longest
    ≡ fold (λ longest (note : Bor (List ℕ)). max (length note.now) longest) 0
    (take l.note-index l.notes)
