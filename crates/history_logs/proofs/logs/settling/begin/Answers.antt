use Rattle.history_logs.proofs.Words.{Calls, IfOk-weaker, IsFrontAfter, List, Watched, WindowStep, [], news, subst, ◌∙◌, ◌≡◌}
use Rattle.history_logs.proofs.Settled.{began, with_calls}
use Rattle.history_logs.proofs.logs.settling.begin.Goals as goal

pub returns : goal.returns
returns c =
    let live = c.args.service.now in
    let m : Calls =
    record { alloc = c.args.alloc; first = c.first.result; calls = c.kept.result } in
    let states : c.deref.result.now ≡ news live = c.deref.ensures.value ∙ c.in_ok-states.ensures in
    IfOk-weaker _ _ _ (λ front f.
    began live front c.requires.some (λ final.
    subst (λ (l : List Watched). IsFrontAfter (WindowStep 0 final) l [] front) states
    (f (with_calls m final)))) c.first_front.ensures
