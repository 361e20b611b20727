use Rattle.histories.proofs.Words.{rules, ◌≡◌, length, map, refl, AreEach, IsUnlinked}
use Rattle.histories.proofs.Lists.{put_back}
use Rattle.histories.proofs.step.begin_anew.Goals as goal
use Rattle.histories.proofs.Alone.{fresh_anew, led_anew}
use Rattle.histories.proofs.Events.{quiet_empty}
use Rattle.histories.proofs.Explaining.{cut_of}

pub returns : goal.returns
returns g c whole events olds sound f =
    let Step = g.M.Machine.Step whole in
    let front = c.args.front.now in
    let slots = front.slots.items in
    let configs = front.configs.items in
    let empty = rw c.deref.ensures.value at (c.are_free.ensures.yes c.if-not-are_free.false) in
    let quiet = quiet_empty _ _ f.table empty in
    let unlinked = c.unlink.new.configs in
    let is : AreEach IsUnlinked configs unlinked =
    rw c.deref_mut.ensures.value at c.unlink.ensures in
    let long : front.configs.len ≡ length configs = search rules in (
      map (λ k. k.state) configs,
      cut_of Step _ _ _ sound quiet (led_anew Step _ _ _ _ _ empty f),
      rw (put_back _ _ _ is.0 long) (fresh_anew Step _ _ _ _ f.table.few empty
          (λ k has. (f.sound k has).only) f.once is),
    )

pub returns-then-not-are_free : goal.returns-then-not-are_free
returns-then-not-are_free g c whole = (
  refl,
  λ events olds f.
      let has = rw c.deref.ensures.value at (c.are_free.ensures.no c.if-not-are_free.true) in
      (has.1, f.table.each has.0 has.1 has.2),
)
