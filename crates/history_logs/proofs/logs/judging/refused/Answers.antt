use Rattle.history_logs.proofs.Words.{refl, ◌∙◌}
use Rattle.history_logs.proofs.Needing.{begin_cut, begin_within}
use Rattle.history_logs.proofs.Refusing.{begun_within, call_within, refused_in, window_below, window_within}
use Rattle.history_logs.proofs.logs.judging.refused.Goals as goal

pub begin_of-begin-requires : goal.begin_of-begin-requires
begin_of-begin-requires c =
    begun_within c.args.service.now c.requires.orderly _ c.args.window.now c.requires.stops.within
    c.requires.window _ c.requires.located _ _ c.call_ended-number.ensures c.line_at-line.ensures

pub lines_needed-requires-clause-within : goal.lines_needed-requires-clause-within
lines_needed-requires-clause-within c =
    begin_within c.args.service.now _ c.args.window.now c.requires.stops.within c.requires.window

pub lines_needed-requires-clause-cut : goal.lines_needed-requires-clause-cut
lines_needed-requires-clause-cut c =
    begin_cut c.args.service.now _ c.args.window.now c.requires.stops.within c.requires.window

pub configurations-requires-clause-below : goal.configurations-requires-clause-below
configurations-requires-clause-below c =
    rw c.deref.ensures.value
    (window_below c.args.service.now c.requires.orderly _ c.args.window.now
    c.requires.stops.within c.requires.window)

pub configurations-requires-clause-within : goal.configurations-requires-clause-within
configurations-requires-clause-within c =
    call_within c.args.service.now c.requires.orderly _ c.args.window.now c.requires.stops.within
    c.requires.window _ c.requires.located _ _ c.call_ended-number.ensures c.line_at-line.ensures

pub line_at-requires : goal.line_at-requires
line_at-requires c =
    window_within c.args.service.now c.requires.orderly _ c.args.window.now c.requires.stops.within
    c.requires.window

pub returns : goal.returns
returns c =
    let s = c.args.service.now in
    let w = c.args.window.now in
    refused_in s c.requires.orderly _ w c.requires.stops.within c.requires.window _
    c.requires.located _ _ c.call_ended-number.ensures c.line_at-line.ensures _
    c.begin_of-begin.ensures _ refl c.in_ok-words.ensures
    (λ k text is.
    let found = c.command_of-call.ensures k text is in
    (found.0, c.in_ok-command.ensures.items ∙ found.1))
    c.requires.stops c.requires.latest c.line_at.ensures c.in_ok-needed.ensures
    (λ x at.
    rw (c.deref.ensures.value, c.deref-2.ensures.value) at (c.in_ok-configurations.ensures x at))
