use Rattle.iox2_container.proofs.Prelude.{arith, length-map, map, refl, shown}
use Rattle.iox2_container.proofs.Keeping.{foreign_by_ticket, some_stood, kept_clear, remove_step}
use Rattle.iox2_container.proofs.container.counted_map.CountedMap.remove.Goals as goal

pub leave-requires : goal.leave-requires
leave-requires g c =
    omega (
      arith,
      some_stood c.args.handle c.in-Some.field-0 c.self.invariant.0 c.in-Some.ensures.found
          c.in-Some.ensures.gone,
    )

pub invariant_of-self : goal.invariant_of-self
invariant_of-self g c = (
  rw c.leave.ensures.left (kept_clear c.args.handle c.in-Some.field-0 c.self.invariant.0
      c.in-Some.ensures.found c.in-Some.ensures.gone c.args.mode),
  c.take_out.ensures.fits,
)

pub returns-in-Some-clause-removes : goal.returns-in-Some-clause-removes
returns-in-Some-clause-removes g c =
    let parts = c.may_have.ensures.0 c.if-not-may_have.false in
    rw (← c.self.view_is) (record {
      step = rw (c.leave.ensures.state, c.leave.ensures.left) (remove_step c.args.handle
          c.in-Some.field-0 c.self.invariant.0 c.in-Some.ensures.found c.in-Some.ensures.gone
          c.args.mode parts.0 parts.1);
      kept = (invariant_of-self g c).0.registry;
      touched = (
        omega (arith, parts.2, length-map c.self.inside.slots.cells shown),
        c.take_out.ensures.counted,
      );
    })

pub returns-in-None-clause-removes : goal.returns-in-None-clause-removes
returns-in-None-clause-removes g c =
    let parts = c.may_have.ensures.0 c.if-not-may_have.false in
    rw (← c.self.view_is) (rw c.in-None.ensures.kept (record {
      step = (
        foreign_by_ticket c.self.inside.header (map shown c.self.inside.slots.cells)
            c.args.handle c.in-None.ensures.found,
        refl,
      );
      kept = c.self.invariant.0.registry;
      touched = (
        omega (arith, parts.2, length-map c.self.inside.slots.cells shown),
        c.take_out.ensures.counted,
      );
    }))
