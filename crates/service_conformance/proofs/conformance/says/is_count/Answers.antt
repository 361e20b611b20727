use Rattle.std.proofs.Common.{rules}
use Rattle.service_conformance.proofs.Seen.{same_count}
use Rattle.service_conformance.proofs.conformance.says.is_count.Goals as goal

pub returns-in-Count : goal.returns-in-Count
returns-in-Count c =
    let same = same_count c.in-Count.n c.args.count (search rules) (search rules) in
    rw c.in-Count.is
    (λ yes. same.0 (search (rules, yes)), λ e. (let is = same.1 e in search (rules, is)))
