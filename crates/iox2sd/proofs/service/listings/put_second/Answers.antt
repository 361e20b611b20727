use Rattle.iox2sd.proofs.Names.{refl, rules, sym, ◌≡◌}
use Rattle.iox2sd.proofs.Listings.{kind_put}
use Rattle.iox2sd.proofs.service.listings.put_second.Goals as goal

pub returns : goal.returns
returns g c =
    let all =
    kind_put g.B.PortKind.details _ (λ s. (s.0.now, s.1.now))
    (λ s. s.0.ghost_name ≡ c.note-1.given)
    (λ s x r u i e. search rules) c.args.ports.now.second _ c.list_second.new.f refl
    c.list_second.ensures in
    rw (c.out-1.given.1.1 (sym all.0)) all.1
