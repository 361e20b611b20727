use Rattle.history_logs.proofs.Words.{called, named, refl, ◌∙◌}
use Rattle.history_logs.proofs.Answering.{alone_made, called_stops}
use Rattle.history_logs.proofs.logs.service.LogService.alone.Goals as goal

pub returns : goal.returns
returns c =
    let s = c.args.self.now in
    let command = named c.args.command in
    let is = c.call-call.ensures in
    alone_made s (called s command) _ _ c.requires (called_stops s command) _ _ _ _ _
    (c.answer.ensures ∙ rw is refl) (c.given_in-gives.ensures ∙ rw (c.adds.ensures, is) refl)
    c.in_ok-number.ensures.begun c.in_ok-number.ensures.number c.in_ok-finish.ensures
