use Rattle.std.proofs.Common.{sym, inl, inr}
use Rattle.iox2_container.proofs.Mapped.{IsUnknownHandle-as, HasEntry-as}
use Rattle.iox2_dynamic.proofs.dynamic_config.pattern.PortRegistries.get.Goals as goal

pub returns-in-Some : goal.returns-in-Some
returns-in-Some g c =
    rw (c.into_details.ensures, sym c.self.view_is)
    (inl (HasEntry-as g.A.PortKind.details c.self.inside.first.registry _ _
    c.in-Some.ensures.details))

pub returns-in-Some-get : goal.returns-in-Some-get
returns-in-Some-get g c =
    rw (c.into_details-in-Some-get.ensures, sym c.self.view_is)
    (inr (HasEntry-as g.B.PortKind.details c.self.inside.second.registry _ _
    c.in-Some-get.ensures.details))

pub returns-in-None-get : goal.returns-in-None-get
returns-in-None-get g c =
    rw (sym c.self.view_is) (
      IsUnknownHandle-as g.A.PortKind.details c.self.inside.first.registry _
          c.in-None.ensures.details,
      IsUnknownHandle-as g.B.PortKind.details c.self.inside.second.registry _
          c.in-None-get.ensures.details,
    )
