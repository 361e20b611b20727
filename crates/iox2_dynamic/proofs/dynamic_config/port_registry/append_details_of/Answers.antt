use Rattle.std.proofs.Common.{rules, ◌≡◌, ℕ, ◌+◌, ◌++◌, ◌∙◌, sym, length, map, arith, ap, refl}
use Rattle.std.specs.Prelude.{filter, ◌==◌}
use Rattle.std.proofs.lemmas.List.{length-map}
use Rattle.iox2_dynamic.proofs.Names.{RegistryState, registry_as, details_where, candidates, entries_of, is_of, listed, node_of}
use Rattle.iox2_container.proofs.Callable.{CanVisit-collecting, collects}
use Rattle.iox2_container.proofs.Lists.{filter-map}
use Rattle.iox2_container.proofs.Mapped.{called-as}
use Rattle.iox2_dynamic.proofs.dynamic_config.port_registry.append_details_of.Goals as goal

-- the details of a node are as many as its entries
as_many : {T : Type 0} (node : T → ℕ) (id : ℕ) (r : RegistryState T)
    → length (filter (is_of node id) (listed r)) ≡ entries_of node id r
as_many node id r =
    ap length (filter-map (is_of node id) (λ e. e.details) r.entries)
    ∙ length-map (candidates (is_of node id) r.entries) (λ e. e.details)

pub for_each-requires : goal.for_each-requires
for_each-requires g c =
    let registry = c.args.ports.now.registry in
    CanVisit-collecting _ (λ q. q.1.ghost_name) (λ q. q.0.now ≡ c.args.node.now)
    (λ q. q.1.now.items) (λ q. q.1.now.len) (λ q. q.1.now.cap)
    (is_of g.T.Attached.node c.args.node.now) g.T.PortKind.details
    (λ q x r v k e. search rules) _ (λ q x k i. λ y e. search rules) _ (listed registry)
    (refl, omega (arith, c.requires, as_many g.T.Attached.node c.args.node.now registry))

pub returns : goal.returns
returns g c =
    let details = g.T.PortKind.details in
    let registry = c.args.ports.now.registry in
    let is_its = is_of g.T.Attached.node c.args.node.now in
    let same =
    called-as details is_its (is_of node_of c.args.node.now)
    (λ x. ap (λ n. n == c.args.node.now) (g.met.T.PortKind.same_node x)) registry.entries in
    let t = collects _ (λ q. q.1.ghost_name) (λ q. q.0.now ≡ c.args.node.now) (λ q. q.1.now.items)
    (λ q. q.1.now.len) (λ q. q.1.now.cap) is_its details (λ q x r v k e. search rules) _
    (listed registry) c.for_each.new.f refl c.for_each.ensures.visit in
    let its : c.for_each.new.f.1.now.items ≡ c.args.list.now.items
    ++ details_where (is_of node_of c.args.node.now) (registry_as details registry) =
    t.1 ∙ ap (λ l. c.args.list.now.items ++ l)
    (ap (map details) (filter-map is_its (λ e. e.details) registry.entries) ∙ sym same) in
    let long =
    ap (λ n. c.args.list.now.len + n) (as_many g.T.Attached.node c.args.node.now registry) in
    search (rules, t.0, its, t.2 ∙ long, t.3)
