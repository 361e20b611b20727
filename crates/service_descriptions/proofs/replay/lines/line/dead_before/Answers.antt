use Rattle.std.proofs.Common.{ℕ, refl, rules}
use Rattle.service_descriptions.proofs.Names.{map-id, line_end, no_first, no_second, reads_then, node_id_one, node_id_phrase}
use Rattle.service_descriptions.proofs.Lines.{no_line, dead_found, dead_one, dead_phrase, kept_phrase}
use Rattle.service_descriptions.proofs.Lines.Kind.{DeadLine}
use Rattle.service_descriptions.proofs.replay.lines.line.dead_before.Goals as goal

pub returns-in_default : goal.returns-in_default
returns-in_default c =
    no_line DeadLine c.args.end c.args.bytes.now _ refl
    (no_first dead_phrase (line_end c.args.end) c.args.bytes.now
    (no_first node_id_phrase kept_phrase c.args.bytes.now c.in_default.ensures.read))

pub returns-in_default-2 : goal.returns-in_default-2
returns-in_default-2 c =
    let kept = rw c.in_default-2.is at c.in_ok-kept.ensures in
    no_line DeadLine c.args.end c.args.bytes.now _ refl
    (no_first dead_phrase (line_end c.args.end) c.args.bytes.now
    (no_second node_id_phrase kept_phrase c.in-Some.node c.args.bytes.now c.in-Some.rest.now
    node_id_one c.in-Some.ensures.read (λ a fits e. kept a fits (search (rules, e)))))

pub returns-in_default-read : goal.returns-in_default-read
returns-in_default-read c =
    let kept = rw c.in-Some-2.is at c.in_ok-kept.ensures in
    no_line DeadLine c.args.end c.args.bytes.now _ refl
    (no_second dead_phrase (line_end c.args.end) (c.in-Some.node, _) c.args.bytes.now
    c.in-Some-2.rest.now dead_one
    (reads_then node_id_phrase kept_phrase c.in-Some.node _ c.args.bytes.now c.in-Some.rest.now
    c.in-Some-2.rest.now c.in-Some.ensures.read (kept.0, search (rules, kept.1)))
    c.in_default-read.ensures.read)

pub returns : goal.returns
returns c =
    let kept = rw c.in-Some-2.is at c.in_ok-kept.ensures in
    let found =
    dead_found c.args.end c.in-Some.node c.in-Some-2.kept _ c.args.bytes.now c.in-Some.rest.now
    c.in-Some-2.rest.now c.in-Some-read.rest.now (map-id {A = ℕ} c.in-Some-2.kept.items)
    c.in-Some.ensures.read (kept.0, search (rules, kept.1)) c.in-Some-read.ensures.read in
    search (rules, found)
