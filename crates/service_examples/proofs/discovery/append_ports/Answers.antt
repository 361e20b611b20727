use Rattle.std.proofs.Common.{rules}
use Rattle.iox2_container.specs.Steps.{listed}
use Rattle.service_examples.specs.declared.discovery.Member.TheVariants.{Port}
use Rattle.iox2_container.proofs.Callable.{room_to_put}
use Rattle.service_examples.proofs.Listing.{ports_appended}
use Rattle.service_examples.proofs.discovery.append_ports.Goals as goal

pub list_ports-requires : goal.list_ports-requires
list_ports-requires c =
    let ports = c.args.service.now.ports in
    record {
      first = λ e. room_to_put _ (λ q. q.0.ghost_name) (λ q. q.0.now.members) Port
          (λ q x r v e. search rules) _ (λ q x i. λ y e. search rules) _
          (listed ports.first.registry) (c.requires.first e);
      second = λ e. room_to_put _ (λ q. q.0.ghost_name) (λ q. q.0.now.members) Port
          (λ q x r v e. search rules) _ (λ q x i. λ y e. search rules) _
          (listed ports.second.registry) (c.requires.second e);
    }

pub returns : goal.returns
returns c =
    let t = ports_appended _ (λ q. q.0.ghost_name) (λ q. q.0.now.members)
    (λ q x r v e. search rules) c.args.service.now c.args.role _ c.list_ports.result
    c.list_ports.new.f c.list_ports.ensures.visit in
    search (rules, t.0, t.1, t.2)
