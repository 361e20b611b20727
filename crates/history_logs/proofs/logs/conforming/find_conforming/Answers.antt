use Rattle.history_logs.proofs.Words.{AreNumbers, AreRightShort, Front, HaveShort, List, Log, Option, Service, StayAll, Watched, ap, arith, callers_of, length, log_of, refl, rules, subst, sym, waits_in, ◌+◌, ◌≡◌}
use Rattle.histories.proofs.Lists.{put_back}
use Rattle.history_logs.specs.Logs.{Judged}
use Rattle.history_logs.proofs.Above.{above_new}
use Rattle.history_logs.proofs.Conforming.{IsShortAbove, above_sane, above_short, few_short, judged_short, no_more, numbers_stay, short_more, short_none, short_stays}
use Rattle.history_logs.proofs.Reports.{counts_more, no_counts}
use Rattle.history_logs.proofs.logs.conforming.find_conforming.Goals as goal

pub loop-text-init : goal.loop-text-init
loop-text-init g c =
    let log = log_of c.new-reading.result in
    let bytes = c.args.log.now in
    let read = c.new-reading.ensures in (
      subst (λ (fs : List (Option (Front Watched))). IsShortAbove bytes log fs bytes 1)
          (sym c.new-fronts.ensures.items)
          (short_none bytes log read.services read.waits
          (above_new bytes log read.services read.callers read.waits)),
      no_counts (g.P.Progress.contents c.args.progress.now),
      read.numbers,
    )

pub read-requires : goal.read-requires
read-requires g c = record {
  sane = above_sane _ (log_of c.loop-text.reading) _ _ _ c.loop-text.invariant.0;
  numbers = c.loop-text.invariant.2;
}

pub settle_at-requires : goal.settle_at-requires
settle_at-requires g c =
    let new = log_of c.read.new.self in
    let fronts = c.loop-text.fronts.items in
    let more = short_more c.args.log.now (log_of c.loop-text.reading) fronts
    c.loop-text.rest.now c.loop-text.line c.loop-text.invariant.0 new c.in-Some.text.now
    c.in-Some.after.now (search rules) (search rules)
    (rw c.in-None.is at c.in_ok-read.ensures.read) in
    subst (λ (l : List Service). HaveShort l fronts) (sym c.deref_mut.ensures.value)
    (above_short _ new fronts _ (c.loop-text.line + 1) more)

pub returns-in_err-settle_at-clause-progress : goal.returns-in_err-settle_at-clause-progress
returns-in_err-settle_at-clause-progress g c =
    counts_more _ _ _ c.loop-text.invariant.1 c.count.ensures

pub returns-then-not-branch-clause-progress : goal.returns-then-not-branch-clause-progress
returns-then-not-branch-clause-progress g c =
    counts_more _ _ _ c.loop-text.invariant.1 c.count.ensures

pub loop-text-preserved : goal.loop-text-preserved
loop-text-preserved g c =
    let read = log_of c.read.new.self in
    let fronts = c.loop-text.fronts.items in
    let next = c.settle_at.new.fronts.items in
    let more = short_more c.args.log.now (log_of c.loop-text.reading) fronts
    c.loop-text.rest.now c.loop-text.line c.loop-text.invariant.0 read c.in-Some.text.now
    c.in-Some.after.now (search rules) (search rules)
    (rw c.in-None.is at c.in_ok-read.ensures.read) in
    let new : Log =
    record {
      services = c.settle_at.new.services;
      callers = callers_of c.read.new.self.callers;
      waits = waits_in c.read.new.self.waits;
    } in
    let stay : StayAll read.services fronts new.services next =
    subst (λ (l : List Service). StayAll l fronts c.settle_at.new.services next)
    c.deref_mut.ensures.value (c.in_ok-settle_at.ensures (search rules)) in
    let old = c.read.new.self.services in
    let long : length c.settle_at.new.services ≡ length old.items =
    omega (arith, ap length c.deref_mut.ensures.value) in
    let put = sym (put_back c.settle_at.new.services old.items old.len long old.ok.0) in (
      subst (λ (l : List Service). IsShortAbove c.args.log.now (record new { services = l }) next
          c.in-Some.after.now (c.loop-text.line + 1)) put
          (short_stays _ read fronts _ (c.loop-text.line + 1) more new next refl refl stay),
      counts_more _ _ _ c.loop-text.invariant.1 c.count.ensures,
      subst (AreNumbers c.read.new.self.numbers) put
          (numbers_stay c.read.new.self.numbers read.services new.services fronts next
          (above_short _ read fronts _ (c.loop-text.line + 1) more)
          stay c.in_ok-read.ensures.numbers),
    )

pub are_explained-requires : goal.are_explained-requires
are_explained-requires g c =
    let fronts = c.loop-text.fronts.items in
    subst (λ (l : List Service). HaveShort l fronts) (sym c.deref.ensures.value)
    (above_short _ (log_of c.loop-text.reading) fronts _ c.loop-text.line c.loop-text.invariant.0)

pub end_verdict-requires-clause-few : goal.end_verdict-requires-clause-few
end_verdict-requires-clause-few g c =
    let few = few_short _ (log_of c.loop-text.reading) _ _ _ c.loop-text.invariant.0 in
    omega arith

pub returns-clause-judged : goal.returns-clause-judged
returns-clause-judged g c =
    let live = log_of c.loop-text.reading in
    let fronts = c.loop-text.fronts.items in
    let right : AreRightShort live.services fronts =
    subst (λ (l : List Service). AreRightShort l fronts) c.deref.ensures.value
    (c.in_ok-are_explained.ensures (search rules)) in
    subst (Judged c.args.log.now) (sym c.end_verdict.ensures)
    (judged_short _ live fronts _ _ c.loop-text.invariant.0 (no_more _ c.if-not-is_empty.ensures)
    (search rules) (search rules) right)
