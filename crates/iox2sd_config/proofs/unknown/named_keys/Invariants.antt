use Rattle.iox2sd_config.proofs.Prelude.{c_unknown, drop, map, named_view, unknown_view, ◌++◌, ◌≡◌}
use Rattle.iox2sd_config.proofs.unknown.named_keys.Given as goal

abbrev pub invariant-loop-key : goal.invariant-loop-key
invariant-loop-key l =
    (l.positions ≡ l.text)
    × (map named_view l.named.items
    ++ map (c_unknown l.text) (map unknown_view (drop l.key-index l.keys))
    ≡ map (c_unknown l.text) (map unknown_view l.keys))
