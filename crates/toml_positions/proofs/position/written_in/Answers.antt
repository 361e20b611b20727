use Rattle.std.proofs.Common.{◌≡◌, ◌<◌, ◌-◌, ℕ, List, length, map, Some, None, option_map, subst, sym, ap, ◌∙◌, append-nil, rules, arith}
use Rattle.std.specs.Prelude.{if◌then◌else◌}
use Rattle.std.proofs.lemmas.List.{map-append}
use Rattle.std.proofs.lemmas.Option.{none-some, same_Some}
use Rattle.toml_parser.specs.Lexical.{skip_blank}
use Rattle.toml_parser.specs.Reading.{key_view, path_view as keys_view}
use Rattle.toml.specs.Parse.{line, lines}
use Rattle.toml_positions.specs.Reading.{head_view, seen_in, seen_view}
use Rattle.toml_positions.specs.Written.{seen, header_after, path_below, past_brackets, written_view}
use Rattle.toml_positions.proofs.Known.{line_of, line_expression, no_line, not_empty, none_below, next_header, same_written, one_more}
use Rattle.toml_positions.proofs.Passed.{seen_is}
use Rattle.toml_positions.proofs.position.written_in.Goals as goal

pub returns-in_default : goal.returns-in_default
returns-in_default c some =
    let l = c.expressions in
    let left = l.rest.now in
    let start_is = c.skip_blank-start.ensures.rest in
    let ended : line (skip_blank left) ≡ None = no_line (line (skip_blank left)) (λ e is.
    let reported = c.in_ok-head.ensures.value
    ∙ subst (λ t. seen_in t ≡ Some (seen_view e)) (sym start_is)
    (seen_is (skip_blank left) e (line_expression (skip_blank left) e is)) in
    none-some _ (sym (ap (λ o. option_map head_view o) c.in_default.is) ∙ reported)) in
    let (m, doc, final, is, known) = l.invariant.2 some in
    let none = none_below c.args.text.now m (keys_view l.header.items) left ended in
    sym (append-nil (map written_view l.all.items)) ∙ (rw none at known)

pub expressions-preserved : goal.expressions-preserved
expressions-preserved c =
    let l = c.expressions in
    let text = c.args.text.now in
    let left = l.rest.now in
    let start_is = c.skip_blank-start.ensures.rest in
    let before = c.skip_blank-start.ensures.within in
    let shorter : length c.in-Some.after.now < length c.skip_blank-start.result.now =
    rw c.in-Some.is at c.in_ok-head.ensures.shorter in (
      search rules,
      omega (arith, l.invariant.1),
      λ some.
          let (m, doc, final, is, known) = l.invariant.2 some in
          let longer : length c.in-Some.after.now < length (skip_blank left) =
          rw start_is at shorter in
          let other = not_empty (length (skip_blank left)) (length c.in-Some.after.now) longer in
          let line = line_of m doc final left other is in
          let read = line_expression (skip_blank left) (line.e, line.after) line.read in
          let reported = c.in_ok-head.ensures.value
          ∙ subst (λ t. seen_in t ≡ Some (seen_view (line.e, line.after))) (sym start_is)
          (seen_is (skip_blank left) (line.e, line.after) read) in
          let both : ◌≡◌ {A = ((List (List ℕ) × List ℕ) × _) × List ℕ}
          ((key_view c.in-Some.head.key, c.in-Some.head.pair), c.in-Some.after.now)
          (seen line.e, line.after) =
          same_Some _ _ (sym (ap (λ o. option_map head_view o) c.in-Some.is) ∙ reported) in
          let after_is : c.in-Some.after.now ≡ line.after = ap (λ q. q.1) both in
          let h = keys_view l.header.items in
          let key = key_view c.in-Some.head.key in
          let pair = c.in-Some.head.pair in
          let path : keys_view c.in_ok-path.path.items ≡ path_below h (key, pair) =
          c.in_ok-path.ensures
          ∙ ap (λ s. path_below (keys_view s) (key, pair)) c.as_slice.ensures.value in
          let path_is : keys_view c.in_ok-path.path.items ≡ path_below h (seen line.e) =
          path ∙ ap (λ q. path_below h q.0) both in
          let below : keys_view c.as_slice-in-expressions.result.now ≡ path_below h (key, pair) =
          ap (λ s. keys_view s) c.as_slice-in-expressions.ensures.value ∙ path in
          let next_is : keys_view c.in_ok-header.header.items ≡ header_after h (seen line.e) =
          c.in_ok-header.ensures ∙ ap (λ s. if pair then h else s) below ∙ next_header h key pair
          ∙ ap (λ q. header_after h q.0) both in
          let from_is : c.past_brackets.result.now ≡ past_brackets (skip_blank left) =
          c.past_brackets.ensures.start ∙ ap (λ t. past_brackets t) start_is in
          let pair_is : pair ≡ (seen line.e).1 = ap (λ q. q.0.1) both in
          let added = ap (λ ws. map written_view ws) c.in_ok-push.ensures.items
          ∙ map-append written_view l.all.items _ in (
            m - 1,
            line.next,
            final,
            subst (λ t. lines (m - 1) line.next t ≡ Some final) (sym after_is) line.rest,
            one_more text m h (keys_view c.in_ok-header.header.items) left c.in-Some.after.now
                line.after line.e _ (map written_view l.all.items) _ _ line.some line.read
                (same_written _ _ _ _ _ _ (ap (λ t. length text - length t) from_is) path_is
                pair_is) next_is after_is added known,
          ),
    )
