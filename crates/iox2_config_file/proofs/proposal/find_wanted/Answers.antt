use Rattle.std.proofs.Common.{◌≡◌, ℕ, ◌+◌, ◌<◌, List, length, drop, get_or, Bool, Option, add-one, drop-cons, drop_of_length-le, arith}
use Rattle.std.specs.List.{find}
use Rattle.std.specs.Option.{option_or}
use Rattle.std.specs.Prelude.{map}
use Rattle.std.proofs.lemmas.List.Folds.{find-append}
use Rattle.iox2_config.specs.declared.config.Config.{Config}
use Rattle.iox2_config_file.specs.declared.section.Row.{Row}
use Rattle.iox2_config_file.specs.declared.section.Section.{Section}
use Rattle.iox2_config_file.specs.declared.section.Section.TheVariants.{Root}
use Rattle.iox2_config_file.specs.Read.{row_view, rows_in, sections}
use Rattle.iox2_config_file.specs.Unknown.{keys_in, keys_of, is_wanted, wanted_view, wanted_in}
use Rattle.iox2_config_file.proofs.proposal.find_wanted.Goals as goal

-- what is found from a table on is found in it, or else in those behind it
found_from : (test : Section × List ℕ → Bool) (c : Config) (ss : List Section) (i : ℕ) (d : Section)
    (rows : List Row) (found : Option (Section × List ℕ)) → i < length ss
    → map row_view rows ≡ rows_in (get_or ss i d) c
    → found ≡ find test (keys_of (get_or ss i d) (map row_view rows))
    → find test (keys_in c (drop i ss)) ≡ option_or found (find test (keys_in c (drop (i + 1) ss)))
found_from test c ss i d rows found lt listed is = grind (arith, add-one, drop-cons, find-append)

pub returns-in-Some : goal.returns-in-Some
unfolding wanted_in
returns-in-Some c config =
    let found = found_from (is_wanted (wanted_view c.args.wanted)) config sections
    c.loop-section.section-index Root _ _ c.loop-section-test.true (c.rows.ensures.keys config)
    c.in-Some.ensures in
    let before = c.loop-section.invariant config in grind arith

pub loop-section-preserved : goal.loop-section-preserved
loop-section-preserved c config =
    let found = found_from (is_wanted (wanted_view c.args.wanted)) config sections
    c.loop-section.section-index Root _ _ c.loop-section-test.true (c.rows.ensures.keys config)
    c.in_default.ensures in
    let before = c.loop-section.invariant config in grind arith

pub returns : goal.returns
unfolding wanted_in
returns c config =
    let none = drop_of_length-le sections c.loop-section-test.false in
    let before = c.loop-section.invariant config in grind arith
