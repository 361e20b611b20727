use Rattle.history_logs.proofs.Words.{Service, length, rules, sum-map, ◌∙◌}
use Rattle.std.proofs.lemmas.Iterator.{YieldsList-from_map, YieldsList-from_slice}
use Rattle.std.proofs.lemmas.Iterator.Consumers.{sum_from_yields_List}
use Rattle.history_logs.proofs.logs.count_calls.Goals as goal

pub returns : goal.returns
returns c =
    sum_from_yields_List c.map.result c.sum.result c.sum.ensures.ran
    (YieldsList-from_map _ (λ (s : Service). length s.commands)
    (YieldsList-from_slice c.args.services.now cc) c.map.ensures.closure
    (λ x r q k. search rules))
    ∙ sum-map (λ (s : Service). length s.commands) c.args.services.now
