use Rattle.config_report.proofs.Prelude.{◌≡◌, ◌++◌, ◌∙◌, ap, append_assoc, arith, refl, rules, map, map-append, answers_always, fault_view, contradiction_view, contradictions_in, finding_sort_key, topics_of, fault, fault_topic, note_in, unknown, unknown_topic}
use Rattle.iox2_config_file.specs.Unknown.{unknown_view}
use Rattle.config_report.proofs.Lines.{map_twice}
use Rattle.config_report.proofs.check.list_of.Goals as goal

pub returns : goal.returns
returns c =
    let text = c.args.text.now in
    let contents = c.args.contents.now in
    let faults = contents.faults.items in
    let keys = contents.unknown.items in
    let topics : map fault_topic c.as_slice.result.now ++ map unknown_topic c.as_slice-2.result.now
    ≡ topics_of contents =
    rw (
      c.as_slice.ensures.value,
      c.as_slice-2.ensures.value,
      map_twice fault_view fault faults,
      map_twice unknown_view unknown keys,
    ) refl in
    let said = map-append (note_in text) (map fault_topic c.as_slice.result.now)
    (map unknown_topic c.as_slice-2.result.now) in
    let first = c.in_ok-add_findings.ensures.added in
    let second = c.in_ok-add_findings-2.ensures.added in
    let found : map contradiction_view c.as_slice-3.result.now ≡ contradictions_in contents.config =
    ap (λ l. map contradiction_view l) c.as_slice-3.ensures.value
    ∙ c.in_ok-contradictions.ensures ∙ ap contradictions_in c.as_ref.ensures.value in
    let beside = c.in_ok-add_contradictions.ensures in (
      c.add_contradictions.new.list.items,
      grind (
        arith,
        append_assoc,
        c.of-positions.ensures,
        c.add_findings.ensures.text,
        c.add_findings-2.ensures.text,
      ),
      record {
        same = c.in_ok-sort_by_key.ensures.permutation;
        ordered = c.in_ok-sort_by_key.ensures.sorted finding_sort_key
            (answers_always _ _ _ (λ f a r q k. search rules));
        stable = c.in_ok-sort_by_key.ensures.stable finding_sort_key
            (answers_always _ _ _ (λ f a r q k. search rules));
      },
    )
