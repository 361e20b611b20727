use Rattle.iox2sd.proofs.Names.{refl, rules, sym, ◌≡◌}
use Rattle.iox2sd.proofs.Listings.{ports_noted}
use Rattle.iox2sd.proofs.service.listings.note_ports.Goals as goal

pub returns : goal.returns
returns c =
    let all =
    ports_noted _ (λ s. s.1.ghost_name) (λ s. s.2.ghost_name)
    (λ s. (s.1.now, s.2.now)) c.args.node.now (λ s. s.0.now ≡ c.args.node.now)
    (λ s x r u i e. search rules) c.args.service.now c.args.role _ c.list_ports.result
    c.list_ports.new.f refl c.list_ports.ensures.visit in
    rw (c.out-1.given.1.1 (sym all.0)) (rw (c.count-1.given.1 (sym all.1)) all.2)
