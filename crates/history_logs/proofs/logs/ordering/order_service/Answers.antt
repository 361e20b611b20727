use Rattle.history_logs.proofs.Words.{sym, ◌∙◌}
use Rattle.history_logs.proofs.logs.ordering.order_service.Goals as goal

pub returns-in-WhereQuiet-clause-found : goal.returns-in-WhereQuiet-clause-found
returns-in-WhereQuiet-clause-found c =
    let explored = rw c.in-Ok.is at c.in_ok-window.ensures in explored.0

pub returns-in-WhereQuiet-clause-order : goal.returns-in-WhereQuiet-clause-order
returns-in-WhereQuiet-clause-order c =
    λ never. let other = sym c.in-WhereQuiet.is ∙ never in absurd (cc)

pub order_of-requires : goal.order_of-requires
order_of-requires c =
    let explored = rw c.in-Ok.is at c.in_ok-window.ensures in
    record {
      orderly = c.requires.orderly;
      front = explored.2 c.in-Never.is;
      some = explored.1;
    }
