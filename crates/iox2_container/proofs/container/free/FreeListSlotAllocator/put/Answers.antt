use Rattle.iox2_container.proofs.Prelude.{TakesFirst, map-set, refl, rules, ◌≡◌}
use Rattle.iox2_container.proofs.FreeList.{shown_free, took, threaded_put, puts_first}
use Rattle.iox2_container.proofs.container.free.FreeListSlotAllocator.put.Goals as goal
use Rattle.iox2_container.proofs.container.free.FreeListSlotAllocator.put.Goals.{in-Some+in-Free, in-None}

pub returns : goal.returns
returns g c =
    let cells = c.args.slots.now.cells in
    let old = c.args.self.now in
    let slot = c.match-self.slot in
    let left = c.match-self.self in
    let new = c.write.new.self.cells in
    let taken : (c.match-self.slots.cells ≡ cells)
    × TakesFirst cells old.head old.fresh slot left.head left.fresh =
    elim c.match-self.branch [
      | in-Some+in-Free w ↦ rw (w.slots-is, w.in-Some.is, w.self-is, w.slot-is)
          (w.read.ensures.cells, (refl, rw w.in-Free.is at w.read.ensures.cell, refl))
      | in-None w ↦ rw (w.slots-is, w.in-None.is, w.self-is, w.slot-is)
          (refl, (refl, w.in-None.is, refl))
    ] in
    let w = took cells old slot left taken.1 c.requires.fits c.requires.room in
    let written = rw taken.0 at c.write.ensures.cells in
    record {
      fits = threaded_put cells new slot left c.args.ticket c.args.details w written;
      free = shown_free cells slot w.at;
      cells = rw (written, map-set) refl;
      chosen = puts_first cells old slot left taken.1 new c.args.ticket c.args.details written;
      touched = search rules;
      few = search rules;
      counted = search rules;
    }
