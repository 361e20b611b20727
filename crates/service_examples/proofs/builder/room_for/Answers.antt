use Rattle.std.proofs.Common.{rules, true, refl}
use Rattle.std.specs.Prelude.{None}
use Rattle.iox2_static.proofs.Requirements.{met_where_none}
use Rattle.service_examples.proofs.builder.room_for.Goals as goal

pub returns-then-not-is_as_described : goal.returns-then-not-is_as_described
returns-then-not-is_as_described c = search rules

pub returns-then-not-may_open : goal.returns-then-not-may_open
returns-then-not-may_open c =
    let attributes = rw c.attributes.ensures at c.in_default.ensures in
    (c.publish_subscribe-settings.result.now, search rules, search rules)

pub returns-in-Some : goal.returns-in-Some
returns-in-Some c =
    let attributes = rw c.attributes.ensures at c.in_default.ensures in
    (c.publish_subscribe-settings.result.now, search rules, search rules)

pub returns-in-Some-sample_layout : goal.returns-in-Some-sample_layout
returns-in-Some-sample_layout c =
    let attributes = rw c.attributes.ensures at c.in_default.ensures in (
      c.publish_subscribe-settings.result.now,
      (search rules, (met_where_none _ None true (search rules) refl).0 refl),
      search rules,
    )

pub returns-in-None : goal.returns-in-None
returns-in-None c =
    let attributes = rw c.attributes.ensures at c.in_default.ensures in (
      c.publish_subscribe-settings.result.now,
      (search rules, (met_where_none _ None true (search rules) refl).0 refl),
      search rules,
    )
