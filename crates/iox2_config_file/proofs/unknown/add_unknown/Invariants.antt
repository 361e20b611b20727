use Rattle.std.proofs.Common.{◌≡◌, ◌++◌}
use Rattle.std.specs.Prelude.{map}
use Rattle.toml.specs.View.{members_view}
use Rattle.iox2_config.specs.declared.config.Config.{Config}
use Rattle.iox2_config_file.specs.Unknown.{unknown_view, unknown_among}
use Rattle.iox2_config_file.proofs.unknown.add_unknown.Given as goal

abbrev pub invariant-loop-key : goal.invariant-loop-key
invariant-loop-key l =
    (goal.iterator-loop-key).can_next l.key-iterator
    × (goal.iterator-loop-key).is_finite l.key-iterator
    × ((c : Config)
    → map unknown_view l.unknown.items
    ++ unknown_among c l.section (members_view l.key-iterator)
    ≡ map unknown_view l.initial.unknown.items
    ++ unknown_among c l.section (members_view l.table.entries))
