use Rattle.std.proofs.Common.{◌≡◌, ◌≢◌, codes, Ok, ap, inl, inr, rules}
use Rattle.std.proofs.lemmas.Result.{on_ok_weaker}
use Rattle.settings_check.proofs.found.add_file.Goals as goal

pub returns-then-eq : goal.returns-then-eq
returns-then-eq g c =
    let name : c.args.file.now ≡ codes "-" = search rules in
    on_ok_weaker c.add_checked.result
    (λ h. (Ok c.in_ok-text.text.items, inl (name, ap (λ t. Ok t) c.in_ok-text.ensures.items), h))
    c.add_checked.ensures

pub returns-in-Ok : goal.returns-in-Ok
returns-in-Ok g c =
    let other : c.args.file.now ≢ codes "-" = search rules in
    let gives : g.F.Files.Gives c.args.files.now c.args.file.now (Ok c.in-Ok.text.items) =
    search rules in
    on_ok_weaker c.add_checked-in-Ok.result
    (λ h. (Ok c.in-Ok.text.items, inr (other, gives), h)) c.add_checked-in-Ok.ensures
