use Rattle.iox2sd.proofs.Names.{rules}
use Rattle.iox2sd.proofs.Listings.{both_noted}
use Rattle.iox2sd.proofs.service.listings.note_all.Goals as goal

pub returns : goal.returns
returns c =
    both_noted _ _ _ _ _ (c.note_ports.ensures.0 (search rules))
    (c.note_ports-2.ensures.1 (search rules))
