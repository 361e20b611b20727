use Rattle.iox2sd.proofs.Listings.{at_front, counted_nodes, too_many}
use Rattle.iox2sd.proofs.service.listings.list_nodes.Goals as goal

pub returns-then-number-out : goal.returns-then-number-out
returns-then-number-out c =
    too_many _ _ _
    (counted_nodes c.args.service.now.nodes _ c.number_of_nodes-number.ensures.count)
    c.if-number-out.true

pub returns : goal.returns
returns c =
    at_front _ _ _ c.put_nodes.new.used _
    (counted_nodes c.args.service.now.nodes _ c.number_of_nodes-number.ensures.count)
    c.put_nodes.ensures c.if-number-out.false
