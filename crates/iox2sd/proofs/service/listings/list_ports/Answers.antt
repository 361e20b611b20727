use Rattle.iox2sd.proofs.Names.{List, Port, subst, sym}
use Rattle.iox2sd.specs.Listings.{PutsAll}
use Rattle.iox2sd.proofs.Listings.{at_front, counted, is_first, of_kind, too_many}
use Rattle.iox2sd.proofs.service.listings.list_ports.Goals as goal

pub returns-then-number-out : goal.returns-then-number-out
returns-then-number-out c =
    let found = counted c.args.service.now _ _ c.in-Some-count_ports.ensures.count in
    let more = too_many found.0 c.args.out.now _ found.2 c.if-number-out.true in
    (c.in-Some.role, c.in-Some.ensures, found.0, found.1, more)

pub returns : goal.returns
returns c =
    let found = counted c.args.service.now _ _ c.in-Some-count_ports.ensures.count in
    let same =
    of_kind c.args.service.now c.in-Some.role c.eq-is_first.result
    (rw (c.eq-is_first.ensures, sym c.kind.ensures.kind)
    (is_first _ _ c.side.result c.side.ensures.some c.side.ensures.none)) found.0 found.1 in
    let put =
    subst
    (λ (l : List Port). PutsAll l (c.args.out.now, 0) (c.put_ports.new.out, c.put_ports.new.used))
    same c.put_ports.ensures in
    let listed =
    at_front found.0 c.args.out.now _ c.put_ports.new.used _ found.2 put c.if-number-out.false in
    (c.in-Some.role, c.in-Some.ensures, found.0, found.1, listed)
