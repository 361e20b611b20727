use Rattle.std.proofs.Common.{◌≡◌, ◌∙◌, List, [], ◌++◌, ap, rules, subst}
use Rattle.std.specs.Prelude.{IsPermutation}
use Rattle.std.specs.List.Sorted.{IsStableByKey}
use Rattle.std.specs.Ordering.{nat_cmp}
use Rattle.std.proofs.lemmas.List.Sorted.{IsNonDecreasingBy-from_sort_by_key, answers_always}
use Rattle.iox2_dynamic.specs.Service.{first_role, second_role}
use Rattle.service_examples.specs.declared.discovery.Member.{Member}
use Rattle.service_examples.specs.Members.{members_of, node_of_member, nodes_in, ports_in}
use Rattle.service_examples.proofs.discovery.list_attached.Goals as goal

pub returns-clause-listed : goal.returns-clause-listed
returns-clause-listed c =
    let s = c.args.service.now in
    let nodes = c.append_nodes.ensures in
    let first =
    c.append_ports.ensures.first
    (c.port_roles-first.ensures.first ∙ ap first_role c.kind.ensures.kind) in
    let second =
    c.append_ports-2.ensures.second
    (c.port_roles-first.ensures.second ∙ ap second_role c.kind.ensures.kind) in
    let none : c.reserve_exact.new.self.items ≡ [] =
    c.reserve_exact.ensures.items ∙ c.clear.ensures.items in
    let all : c.append_ports-2.new.roster.members.items ≡ members_of s =
    second.0
    ∙ (ap (λ (l : List Member). l ++ ports_in s.ports.second)
    (first.0 ∙ ap (λ (l : List Member). l ++ ports_in s.ports.first)
    (nodes.0 ∙ ap (λ (l : List Member). l ++ nodes_in s) none))) in
    record {
      each_once =
          subst (λ l. IsPermutation l c.sort_by_key.new.self.items) all
          c.sort_by_key.ensures.permutation;
      by_node =
          IsNonDecreasingBy-from_sort_by_key node_of_member _ c.in_ok-sort_by_key.ensures.sorted
          (λ a r f e. search rules);
      in_turn =
          subst (λ l. IsStableByKey node_of_member nat_cmp l c.sort_by_key.new.self.items) all
          (c.sort_by_key.ensures.stable node_of_member
          (answers_always _ _ _ (λ f a r h e. search rules)));
    }
