use Rattle.std.proofs.Common.{◌≡◌, true}
use Rattle.iox2_container.proofs.Mapped.{RecoversBy-through}
use Rattle.iox2_dynamic.proofs.dynamic_config.service.recover_nodes.Goals as goal

pub returns : goal.returns
returns c =
    (RecoversBy-through {G = Unit {0}} _ (λ _ _ goes _. goes ≡ true) (λ _. tt) (λ _. Unit {0})
    (λ s x b u i e. (e.called.met.0, tt)) _ _ _ _ _ _ _ tt c.recover.ensures.recovers).0
