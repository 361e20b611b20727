use Rattle.history_logs.proofs.Words.{ap, listed, ◌++◌, ◌∙◌}
use Rattle.iox2_dynamic.specs.Service.{Service}
use Rattle.history_logs.proofs.Refusing.{reported_of}
use Rattle.history_logs.proofs.logs.judging.configuration.Goals as goal

pub returns : goal.returns
returns c =
    reported_of _ _ _ _ _ _ c.requires.within (rw c.calls.ensures at c.index-calls-call.is)
    (rw c.begins.ensures at c.in_ok-lines_made.ensures)
    c.in_ok-possible_replies.ensures
    (c.in_ok-nodes_listed.ensures
    ∙ ap (λ (s : Service). listed s.nodes.registry) c.service.ensures.service)
    (c.in_ok-ports_listed.ensures
    ∙ ap (λ (s : Service). listed s.ports.first.registry ++ listed s.ports.second.registry)
    c.service-2.ensures.service)
