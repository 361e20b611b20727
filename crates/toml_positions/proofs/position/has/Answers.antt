use Rattle.std.proofs.Common.{ap, option_map, sym, ◌∙◌, rules}
use Rattle.toml_positions.proofs.Paths.{in_no_table, in_nothing}
use Rattle.toml_positions.proofs.position.has.Goals as goal

pub returns-in_default : goal.returns-in_default
returns-in_default c = in_nothing c.args.path.now.table.now c.args.path.now.key.now
    c.loop-key.key-index _ _ _ c.loop-key.invariant (search rules)
    (ap (option_map _) (sym c.in_default.is) ∙ c.get.ensures)

pub returns-in_default-as_table : goal.returns-in_default-as_table
returns-in_default-as_table c = in_no_table c.args.path.now.table.now c.args.path.now.key.now
    c.loop-key.key-index _ _ _ _ c.loop-key.invariant (search rules)
    (ap (option_map _) (sym c.in-Some.is) ∙ c.get.ensures)
    (ap (option_map _) (sym c.in_default-as_table.is) ∙ c.as_table.ensures)
