use Rattle.std.proofs.Common.{◌≡◌, ◌≤◌, ◌++◌, ℕ, ◌+◌, ◌*◌, List, map, string_bytes}
use Rattle.std.specs.List.{fold, range_with_len}
use Rattle.service_drawing.specs.Bars.{free_behind, marks_text}
use Rattle.service_drawing.specs.declared.layout.MessageLayout.{MessageLayout}
use Rattle.service_drawing.proofs.svg.bar.write_element_marks.Given as goal

-- where the first n elements begin
abbrev first : MessageLayout → ℕ → List ℕ
first layout n = map (λ i. layout.payload.start + i * layout.element) (range_with_len 0 n)

abbrev pub invariant-loop-i : goal.invariant-loop-i
invariant-loop-i l = record {
  drawn : string_bytes l.out ≡ string_bytes l.initial.out
      ++ marks_text l.layout.size l.initial.free (first l.layout l.i);
  free : l.free ≡ fold (free_behind l.layout.size) l.initial.free (first l.layout l.i);
  room : l.free ≤ 10000;
}
