use Rattle.iox2sd.proofs.Names.{id_of, listed, refl, rules, sym, ◌≡◌}
use Rattle.iox2sd.proofs.Listings.{all_put}
use Rattle.iox2sd.proofs.service.listings.put_nodes.Goals as goal

pub returns : goal.returns
returns c =
    let all =
    all_put _ (λ s. (s.0.now, s.1.now)) id_of (λ s. s.0.ghost_name ≡ c.note-1.given)
    (λ s x r u i e. search rules) _
    (listed c.args.service.now.nodes.registry) c.list_node_ids.new.f refl
    c.list_node_ids.ensures.visit in
    rw (c.out-1.given.1.1 (sym all.0)) all.1
