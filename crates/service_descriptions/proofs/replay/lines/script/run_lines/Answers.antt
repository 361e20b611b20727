use Rattle.std.proofs.Common.{◌∙◌, arith, sym, ap, length, ◌+◌, ◌<◌}
use Rattle.service_descriptions.specs.Lines.{line_of}
use Rattle.service_descriptions.proofs.Scripts.{start, more, shorter, some_left}
use Rattle.service_descriptions.proofs.replay.lines.script.run_lines.Goals as goal

pub loop-rest-init : goal.loop-rest-init
loop-rest-init c = (omega arith, start c.args.session.now c.args.lines.now c.args.out.now.items)

pub returns-in_default : goal.returns-in_default
returns-in_default c =
    let so = c.loop-rest.invariant.1 in
    let some : 0 < length c.loop-rest.rest.now = omega arith in
    let bad = rw c.in_default.is at c.in_ok-tail.ensures.ok in (
      so.text,
      bad.2 ∙ so.appended,
      (
        c.loop-rest.rest.now,
        c.loop-rest.session,
        so.ran,
        ap (λ n. n + 2) (sym so.counted),
        (some_left _ some, bad.0),
      ),
    )

pub loop-rest-preserved : goal.loop-rest-preserved
loop-rest-preserved c =
    let ran = rw c.in-Some.is at c.in_ok-tail.ensures.ok in
    let room = shorter (line_of ran.0) c.in-Some.tail.now c.loop-rest.rest.now ran.3 in (
      omega (arith, room, c.loop-rest.invariant.0),
      more c.args.session.now c.args.lines.now c.loop-rest.rest.now c.args.out.now.items
          c.loop-rest.out.items c.in-Some.tail.now _ c.loop-rest.count c.loop-rest.session _ ran.0
          ran.1 c.loop-rest.invariant.1 ran.2 ran.3 ran.4 ran.5,
    )
