use Rattle.history_logs.proofs.Words.{refl, service_of}
use Rattle.history_logs.proofs.Answering.{forget_is}
use Rattle.history_logs.proofs.logs.service.LogService.forget.Goals as goal

pub returns : goal.returns
returns c =
    forget_is _ (service_of c.self.inside) c.self.inside.first
    c.self.inside.calls.items _ _ c.self.view_is refl refl
    c.requires.first _ c.keep_from.ensures.kept _ c.keep_from-2.ensures.kept
    _ c.clear.ensures.items _ c.clear-2.ensures.items _ refl
