use Rattle.iox2_config_file.proofs.section.section_table.Goals as goal

pub returns-in-Blackboard : goal.returns-in-Blackboard
returns-in-Blackboard c =
    rw (c.in-Blackboard.is, ← c.table_at-defaults.ensures) c.table_at-in-Blackboard.ensures
