use Rattle.iox2sd_values.proofs.Prelude.{length, take}
use Rattle.iox2sd_values.proofs.Sets.{is_listed, judged, reports_pair, reports_key, reports_done}
use Rattle.iox2sd_values.proofs.attributes.verify.Goals as goal

pub unreachable-requires : goal.unreachable-requires
unreachable-requires c =
    let wanted = take (length c.args.required.now) c.sorted-copies.result in
    is_listed c.args.required.now wanted c.in-Some.i _ c.sorted-copies.ensures
    c.in-Some.ensures.bound c.in-None.ensures

pub returns-in-Some : goal.returns-in-Some
returns-in-Some c =
    let wanted = take (length c.args.required.now) c.sorted-copies.result in
    judged _ _ wanted _ _ c.sorted-copies.ensures (λ listing listed.
    reports_pair c.args.set.now c.args.required.now wanted c.args.keys.now listing
    listed c.sorted-copies.ensures c.in-Some.i c.in-Some-first_that_meets.at _ c.position.result
    c.in-Some.ensures.bound c.in-Some.ensures.misses c.in-Some-first_that_meets.ensures
    c.position.ensures)

pub returns-in-Some-first_missing : goal.returns-in-Some-first_missing
returns-in-Some-first_missing c =
    let wanted = take (length c.args.required.now) c.sorted-copies.result in
    judged _ _ wanted _ _ c.sorted-copies.ensures (λ listing listed.
    reports_key c.args.set.now c.args.required.now wanted c.args.keys.now listing
    listed c.sorted-copies.ensures c.in-Some-first_missing.i
    c.position-in-Some-first_missing.result c.in_default.ensures.misses
    c.in-Some-first_missing.ensures.misses c.position-in-Some-first_missing.ensures)

pub returns-in-None-first_missing : goal.returns-in-None-first_missing
returns-in-None-first_missing c =
    let wanted = take (length c.args.required.now) c.sorted-copies.result in
    judged _ _ wanted _ _ c.sorted-copies.ensures (λ listing listed.
    reports_done c.args.set.now c.args.required.now wanted c.args.keys.now listing
    listed c.sorted-copies.ensures c.position-in-None-first_missing.result
    c.in_default.ensures.misses c.in-None-first_missing.ensures.misses
    c.position-in-None-first_missing.ensures)
