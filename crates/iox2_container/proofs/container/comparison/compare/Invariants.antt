use Rattle.iox2_container.proofs.Prelude.{IsRegistry, Made, length, ◌≡◌}
use Rattle.iox2_container.proofs.container.comparison.compare.Given as goal

abbrev pub invariant-loop-call : goal.invariant-loop-call
invariant-loop-call g l = record {
  made_a : Made g.T.Attached.node g.T.Attached.number
      (g.A.Registry.state l.fn.a) l.calls l.replies_a.items (g.A.Registry.state l.a);
  made_b : Made g.T.Attached.node g.T.Attached.number
      (g.B.Registry.state l.fn.b) l.calls l.replies_b.items (g.B.Registry.state l.b);
  long_a : length l.replies_a.items ≡ l.call-index;
  long_b : length l.replies_b.items ≡ l.call-index;
  kept_a : IsRegistry (g.A.Registry.state l.a).registry;
  kept_b : IsRegistry (g.B.Registry.state l.b).registry;
}
