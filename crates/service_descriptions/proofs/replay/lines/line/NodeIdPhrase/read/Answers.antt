use Rattle.std.proofs.Common.{◌≡◌, arith, rules, sym, ◌∙◌, ap}
use Rattle.service_descriptions.proofs.Names.{owner_of, value_of, id_one}
use Rattle.service_descriptions.proofs.replay.lines.line.NodeIdPhrase.read.Goals as goal

pub returns-in_default-new-clause-read : goal.returns-in_default-new-clause-read
returns-in_default-new-clause-read c a fits e =
    let read = c.in-Some.ensures.read in
    let same =
    id_one.same (value_of c.in-Some.parts, c.in-Some.rest.now) a read.0 (fits.0.0, fits.1)
    (sym read.1 ∙ e) in
    let none : owner_of (value_of c.in-Some.parts) ≡ 0 = search rules in
    let own = fits.0.1 in
    omega (arith, none, own, ap owner_of same.0)
