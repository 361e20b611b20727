use Rattle.std.proofs.Common.{[], arith, refl}
use Rattle.log_lines.proofs.States.{no_nodes}
use Rattle.log_lines.proofs.state.nodes_of.Goals as goal

pub returns-in_default : goal.returns-in_default
returns-in_default c given p e = c.in_default.ensures.none _ e

pub returns-in_default-read-2 : goal.returns-in_default-read-2
returns-in_default-read-2 c =
    no_nodes c.args.text.now c.in-Some.rest.now c.in-Some.ensures.some
    (λ used p e. c.in_default-read.ensures.read ((used, tt), [])
    ((omega arith, p, λ digit. omega arith), refl) e)
    (λ used p e. c.in_default-read-2.ensures.read ((used, tt), [])
    ((omega arith, p, λ digit. omega arith), refl) e)
