use Rattle.history_logs.proofs.Words.{flat_map, fold, min, option_to_list, rules, subst, sym, ◌≡◌}
use Rattle.std.proofs.iter.runs.Made.{chains}
use Rattle.history_logs.proofs.Settled.{IsLeast, least_is}
use Rattle.history_logs.proofs.logs.settling.first_open.Goals as goal

pub returns : goal.returns
returns c =
    let slots = c.args.slots.now in
    let same : c.fold.result
    ≡ fold (λ a b. min a b) c.args.most (flat_map option_to_list slots) = search (rules, chains) in
    let least = subst (IsLeast slots c.args.most) (sym same) (least_is slots c.args.most) in
    record { most = least.most; each = least.each; is = least.is }
