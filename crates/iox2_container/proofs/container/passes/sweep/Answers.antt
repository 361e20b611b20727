use Rattle.iox2_container.proofs.Prelude.{arith, false, if◌then◌else◌, occupant, refl, ◌+◌, ◌≡◌}
use Rattle.iox2_container.proofs.Passes.{sweep_ends, sweep_next, sweep_past, takes_next}
use Rattle.iox2_container.proofs.container.passes.sweep.Goals as goal
use Rattle.iox2_container.proofs.container.passes.sweep.Goals.{then-sweep_found, else-sweep_found}

pub loop-found-init : goal.loop-found-init
loop-found-init g c = record {
  within = omega arith;
  fits = c.requires.fits;
  so_far = record {
    callable = c.requires.callable.may_call;
    swept = record { marked = λ _. false; called = refl; left_is = refl; gone_is = refl };
    later = λ k l. refl;
    len = refl;
    few = omega arith;
  };
  touches = omega arith;
}

pub sweep_found-requires-clause-taken : goal.sweep_found-requires-clause-taken
sweep_found-requires-clause-taken g c =
    let here = c.in-Some.ensures.found.here in
    (occupant here.1.0 c.in-Some.found.details, rw c.next_of.ensures.cells here.1.1)

pub sweep_found-requires-clause-callable : goal.sweep_found-requires-clause-callable
sweep_found-requires-clause-callable g c =
    takes_next c.in-Some.ensures.found c.loop-found.invariant.so_far

pub loop-found-preserved : goal.loop-found-preserved
loop-found-preserved g c =
    let goes = c.sweep_found.result in
    let gone_is : c.if-sweep_found.gone ≡ c.loop-found.gone + (if goes then 1 else 0) =
    elim c.if-sweep_found.branch [
      | then-sweep_found w ↦ rw w.if-sweep_found.true w.gone-is
      | else-sweep_found w ↦ rw w.if-sweep_found.false (omega arith)
    ] in
    record {
      within = omega (arith, c.in-Some.ensures.found.before);
      fits = c.sweep_found.ensures.fits;
      so_far = sweep_next c.in-Some.ensures.found c.loop-found.invariant.so_far _
          c.sweep_found.new.f c.if-sweep_found.gone goes c.sweep_found.ensures.called
          (rw c.next_of.ensures.cells at c.sweep_found.ensures.cells) gone_is;
      touches = omega (arith, c.in-Some.ensures.touches, c.in-Some.ensures.found.order, gone_is);
    }

pub returns-clause-swept : goal.returns-clause-swept
returns-clause-swept g c =
    rw c.next_of.ensures.cells
    (sweep_ends c.end-end.ensures.free
    (sweep_past g.T.Attached.node c.args.dead.now c.end-end.result c.loop-found.invariant.so_far
    c.loop-found.invariant.within c.in_default.ensures.found))
