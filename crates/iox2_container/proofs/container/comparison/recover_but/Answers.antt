use Rattle.iox2_container.proofs.Prelude.{is_of, is_outside, refl, rules, ◌≡◌}
use Rattle.iox2_container.proofs.Mapped.{RecoversBy-through}
use Rattle.iox2_container.proofs.container.comparison.recover_but.Goals as goal

pub returns-clause-step : goal.returns-clause-step
returns-clause-step g c =
    let keys = c.args.keys.now in
    (RecoversBy-through {G = Unit {0}} _
    (λ _ details goes _. goes ≡ is_outside g.T.Attached.number keys details) (λ _. tt)
    (λ q. q.0.now ≡ keys)
    (λ q x r v i e. search rules) (is_of g.T.Attached.node c.args.dead.now)
    (g.R.Registry.state c.args.registry.now) _ c.args.mode c.recover.result
    (g.R.Registry.state c.recover.new.self) c.recover.new.f refl c.recover.ensures.recovers).0
