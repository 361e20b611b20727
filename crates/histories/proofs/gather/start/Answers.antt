use Rattle.histories.proofs.Words.{rules, ◌≤◌, ℕ, List, length, subst, take_all, Gathers, IsSpot}
use Rattle.histories.proofs.Frontiers.{frontier_first}
use Rattle.histories.proofs.Gathering.{gathers_one}
use Rattle.histories.proofs.gather.start.Goals as goal

pub loop-from-preserved : goal.loop-from-preserved
loop-from-preserved g c =
    gathers_one _ _ _ _ _ _ _ c.loop-from-test.true c.from-item.is c.loop-from.invariant
    (subst (λ (l : List ℕ). Gathers (IsSpot c.from-item.result 0 (record { base = 0; calls = l }))
    c.loop-from.configs c.add.new.gathered) c.new-made.ensures.items
    (simp c.in_ok-state.ensures at c.in_ok-add.ensures.gathers))

pub returns : goal.returns
returns g c whole =
    let states = c.args.states.now in
    let all : length states ≤ c.loop-from.from-index = search rules in
    rw c.into_configs.ensures (rw c.new-slots.ensures.items (frontier_first _ _ _ _
    (rw (take_all c.loop-from.from-index states all) at c.loop-from.invariant)))
