use Rattle.service_conformance.proofs.Names.{sym, ◌∙◌, ◌≡◌, role_at, side_of}
use Rattle.service_conformance.proofs.Possibles.{released, unreleased}
use Rattle.service_conformance.proofs.conformance.service_check.ServiceCheck.possible_release.Goals.{In-Some-side}
use Rattle.service_conformance.proofs.conformance.service_check.ServiceCheck.possible_release.Goals as goal

role_is : (c : In-Some-side)
    → c.in-Some.handle.role ≡ role_at c.args.self.now.pattern (side_of c.in-Some-side.first)
role_is c = rw c.kind-kind.ensures.pattern at (sym c.role.ensures ∙ c.in-Some-side.ensures.some)

pub returns-in_default-get : goal.returns-in_default-get
returns-in_default-get c =
    rw c.in-Some.is
    (unreleased c.args.self.now _ _ (role_is (goal.at.returns-in_default-get c).In-Some-side)
    c.kind-kind.ensures.kept (rw c.ports.ensures.ports at c.in_default-get.ensures.none))

pub returns : goal.returns
returns c =
    rw c.in-Some.is
    (released c.args.self.now _ _ (role_is (goal.at.returns c).In-Some-side)
    c.in-Some-get._details (rw c.ports.ensures.ports at c.in-Some-get.ensures.some)
    c.kind-kind.ensures.kept)
