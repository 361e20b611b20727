use Rattle.histories.proofs.Words.{rules, ◌≡◌, ◌∷◌, [], List, ap, get_or, length, slice_set, subst, sym, true, Config, IsClosed, IsMadeFirst, IsSettled, spot_of}
use Rattle.histories.proofs.Alone.{closed_already, closed_in_place}
use Rattle.histories.proofs.Lists.{one_of_one}
use Rattle.histories.proofs.close.close_in_place.Goals as goal

pub returns : goal.returns
returns g c apart =
    let Step = g.M.Machine.Step c.args.machine.now in
    let slots = c.args.slots.now in
    let configs = c.args.configs.now in
    let config : Config g.row.M-State.Denot = c.index-configs-0.result in
    let made : Config g.row.M-State.Denot = c.make_first.new.config in
    let settled : Config g.row.M-State.Denot = c.settle.new.config in
    let one : length configs ≡ 1 = search rules in
    let parts = one_of_one _ _ _ one c.index-configs-0.is in
    let first : IsMadeFirst Step slots c.args.slot c.args.call config made true =
    subst (λ (x : Config g.row.M-State.Denot). IsMadeFirst Step slots c.args.slot c.args.call x made
    true) (sym c.index-configs-0.is) (rw c.if-not-branch.false at c.in_ok-make_first.ensures) in
    let idle : IsSettled Step slots (spot_of made) (spot_of settled) =
    subst (λ (x : Config g.row.M-State.Denot). IsSettled Step slots (spot_of x) (spot_of settled))
    (ap (λ (l : List (Config g.row.M-State.Denot)). get_or l 0 c.index-configs-0-2.result) parts.1)
    c.in_ok-settle.ensures in
    rw (← parts.0) at (subst (λ l. IsClosed Step slots (config ∷ []) c.args.slot
    (slice_set l 0 settled))
    (sym parts.1) (closed_in_place _ _ c.requires.few _ _ c.requires.has _ made settled first idle))

pub returns-then-waits_in_none : goal.returns-then-waits_in_none
returns-then-waits_in_none g c apart =
    closed_already _ _ _ _ (c.waits_in_none.ensures c.if-waits_in_none.true) apart
