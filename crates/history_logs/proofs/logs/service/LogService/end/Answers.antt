use Rattle.history_logs.proofs.Words.{Judged, List, Service, Some, ap, arith, forgotten, length, length-append, length-replicate, refl, replicate, service_of, slice_get-get_or, start_of, sym, with_end, ℕ, ◌++◌, ◌-◌, ◌<◌, ◌∙◌, ◌≡◌, ◌≤◌}
use Rattle.history_logs.proofs.Answering.{answered_over, end_is, length_shown_from, starts_kept, get_kept}
use Rattle.history_logs.proofs.logs.service.LogService.end.Goals as goal

pub overflow_sub-at : goal.overflow_sub-at
overflow_sub-at c =
    let kept = rw (← c.self.view_is) at c.requires.kept in kept.call

-- a call that is kept stands behind those that are forgotten
kept_within : (first number : ℕ) (calls : List Judged) → first ≤ number
    → number < length (replicate first forgotten ++ calls) → number - first < length calls
kept_within first number calls low h =
    omega (
      arith,
      length-append (replicate first forgotten) calls,
      length-replicate first forgotten,
    )

pub index-requires : goal.index-requires
index-requires c =
    let within = rw (← c.self.view_is) at c.requires.within in
    let kept = rw (← c.self.view_is) at c.requires.kept in
    omega (
      arith,
      kept_within c.self.inside.first c.args.number c.self.inside.calls.items kept.call within,
    )

pub show-requires-clause-kept : goal.show-requires-clause-kept
show-requires-clause-kept c =
    let kept = rw (← c.self.view_is) at c.requires.kept in
    starts_kept c.self.inside.first c.self.inside.calls.items c.args.number c.args.reply kept.call
    kept.start

pub index_mut-requires-2 : goal.index_mut-requires-2
index_mut-requires-2 c =
    let first = c.self.inside.first in
    let calls = c.self.inside.calls.items in
    let within = rw (← c.self.view_is) at c.requires.within in
    let kept = rw (← c.self.view_is) at c.requires.kept in
    omega (
      arith,
      kept_within first c.args.number calls kept.call within,
      ap length c.in_ok-show.ensures,
      length_shown_from first calls (start_of calls (c.args.number - first)) c.args.reply,
    )

pub returns : goal.returns
returns c =
    let first = c.self.inside.first in
    let calls = c.self.inside.calls.items in
    let old : Service = service_of c.self.inside in
    let view : old ≡ c.args.self.now = c.self.view_is in
    let kept = rw (← view) at c.requires.kept in
    let within = rw (← view) at c.requires.within in
    end_is old _ _ _ _ c.index.result.now _ _ _
    (answered_over first calls _ _ kept.call kept.start _ c.in_ok-show.ensures _ _
    c.index_mut-2.ensures.value c.answer.ensures)
    (get_kept first calls c.args.number kept.call
    ∙ (slice_get-get_or calls (c.args.number - first) c.index.result.now
    (kept_within first c.args.number calls kept.call within) ∙ ap Some (sym c.index.ensures)))
    (c.given_in-given.ensures
    ∙ rw (c.adds.ensures, ap (λ (v : Service). v.line) (sym view)) refl)
    c.in_ok-push.ensures.items c.in_ok-push-2.ensures.items _ refl
    ∙ ap (λ (v : Service). with_end v c.args.number c.args.reply c.args.line) view
