use Rattle.std.proofs.Common.{◌<◌, rules, length}
use Rattle.history_drawing.proofs.Shown.{bars_more, bars_same}
use Rattle.history_drawing.specs.Timelines.{IsWanted}
use Rattle.history_drawing.proofs.timeline.add_line.Goals as goal

pub returns-in_default-clause-fits : goal.returns-in_default-clause-fits
returns-in_default-clause-fits c = λ fits.
    bars_same c.args.lines.now c.args.window.now c.args.line c.args.rows.now.items
    c.args.bars.now.items c.requires.bars (rw c.in_default.is at c.in_ok-call.ensures.none)

pub returns-then-len-eq-MAX_CALLS-clause-many : goal.returns-then-len-eq-MAX_CALLS-clause-many
returns-then-len-eq-MAX_CALLS-clause-many c = λ full. record {
  limit = c.args.line;
  rows = c.args.rows.now.items;
  bars = c.args.bars.now.items;
  are = c.requires.bars;
  many = search rules;
  inside = (c.requires.first, c.requires.last);
  seen = c.in-Some.call;
  wanted = search rules;
}

pub returns-clause-fits : goal.returns-clause-fits
returns-clause-fits c = λ fits.
    let (b, new, is, kept) = c.in_ok-add_bar.ensures.bars in
    let wanted : IsWanted c.args.lines.now c.args.window.now c.args.line c.in-Some.call =
    search rules in
    let few : length c.args.bars.now.items < 200 = search rules in
    rw new (bars_more c.args.lines.now c.args.window.now c.args.line c.args.rows.now.items
    c.add_bar.new.rows.items c.args.bars.now.items b c.in-Some.call c.requires.bars
    kept c.in_ok-add_bar.ensures.apart c.requires.first wanted is few)
