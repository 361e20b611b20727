use Rattle.std.proofs.Common.{rules, refl, sym, inl}
use Rattle.iox2_dynamic.proofs.Names.{Default, First, Second}
use Rattle.iox2_container.proofs.Mapped.{Removes-as}
use Rattle.iox2_dynamic.proofs.dynamic_config.pattern.PortRegistries.remove.Goals as goal

pub returns-then-eq-clause-removed : goal.returns-then-eq-clause-removed
returns-then-eq-clause-removed g c =
    rw (sym c.self.view_is)
    (inl (record {
      side = First;
      role_is = search rules;
      step = Removes-as g.A.PortKind.details _ c.args.handle Default _ _ c.remove.ensures.removes;
      others = refl;
    }))

pub returns-then-eq-2-clause-removed : goal.returns-then-eq-2-clause-removed
returns-then-eq-2-clause-removed g c =
    rw (sym c.self.view_is)
    (inl (record {
      side = Second;
      role_is = search rules;
      step = Removes-as g.B.PortKind.details _ c.args.handle Default _ _
          c.remove-then-eq-2.ensures.removes;
      others = refl;
    }))
