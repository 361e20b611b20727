-- What each change leaves as it was, adds and takes out, and what follows for histories of changes
-- and of numbers.
use Rattle.iox2_container.proofs.Prelude.{AddStep, Adding, All, All-cons, All-head, All-nil, All-tail, All-weaker, AllPairs, AllPairs-cons, Any, Bool, Change, ChangeStep, ContainerAddFailure, ContainerRemoveError, Contains, Enters, Entry, Err, Handle, HasEntry, History, IsLocked, IsNew, IsRefused, IsRegistry, IsTrue, Leaves, List, Ok, OutOfSpace, Recovering, Recovers, RegistryState, ReleaseMode, ReleaseState, Remains, RemoveStep, Removing, Result, TakesOut, [], ap, arith, cons_option, false, handle_given_by, handle_of, handles_given, inl, inr, leaving, map, refl, rules, sym, true, ℕ, ◌++◌, ◌<◌, ◌↔◌, ◌∙◌, ◌∷◌, ◌≡◌, ◌≢◌, ◌≤◌, ◌⊎◌}
use Rattle.iox2_container.specs.declared.container.registry.ContainerRemoveError.TheVariants.{ContainerHandleNotOwnedByContainer}
use Rattle.iox2_container.specs.ServiceNumbers.{ReturnInTurn, NumbersRise}
use Rattle.iox2_container.proofs.Lists.{Among, DifferBy, among_contained, among_less, among_more, contains_among, gained, moved, other_differs, of_all, first_or_other, without}
use Rattle.iox2_container.proofs.SameEntries.{leaves_among, stays_among, stays_apart, stays_or_leaves}
use Rattle.iox2_container.proofs.Keeping.{new_is_registry, same_lock}

-- number, role, slots and tickets stay, used tickets rise, and a new entry has the next ticket
pub record Grows {T : Type 0} (old new : RegistryState T) : Type 0 where
  pub service : new.service ≡ old.service
  pub role : new.role ≡ old.role
  pub slots : new.capacity ≡ old.capacity
  pub tickets : new.budget ≡ old.budget
  pub used : old.used ≤ new.used
  pub entries : (x : Entry T) → Among x new.entries → Among x old.entries ⊎ (x.ticket ≡ old.used)

pub grows_same : {T : Type 0} (old new : RegistryState T) → new ≡ old → Grows old new
grows_same old new e = grind arith

-- what a change leaves as it was, by what it says of the new registry
grows_by : {T : Type 0} (old new : RegistryState T) {es : List (Entry T)} {locked : Bool} {u : ℕ}
    → new ≡ record old { entries = es; locked = locked; used = u } → old.used ≤ u
    → ((x : Entry T) → Among x new.entries → Among x old.entries ⊎ (x.ticket ≡ old.used))
    → Grows old new
grows_by {T} old new e l f = grind arith

-- an entry has one handle before and after
pub same_key : {T : Type 0} (old new : RegistryState T) (x : Entry T) → Grows old new
    → handle_of old x ≡ handle_of new x
same_key {T} old new x g = grind arith

-- what a change does to the entries: who was there is there still or is taken out, and who is there
-- was there and is not taken out, or was added
pub record Edits {T : Type 0} (old : RegistryState T) (change : Change T)
    (new : RegistryState T) : Type 0 where
  pub grows : Grows old new
  pub stays : (x : Entry T) → Among x old.entries
      → Among x new.entries ⊎ TakesOut (handle_of old x) change
  pub was : (x : Entry T) → Among x new.entries
      → (Among x old.entries × (IsRegistry old → TakesOut (handle_of old x) change → ⊥))
      ⊎ (◌≡◌ {A = Change T} change (Adding x.details (Ok (handle_of old x))))
  pub out : (handle : Handle) → TakesOut handle change → (x : Entry T) × Among x old.entries
      × (handle ≡ handle_of old x)

slots_differ : {T : Type 0} (r : RegistryState T) → IsRegistry r → DifferBy (λ v. v.slot) r.entries
slots_differ r w i j d h l e = omega (arith, e, w.slots_rise i j d h l)

-- a handle among those of some entries
handle_among : {T : Type 0} (r : RegistryState T) (es : List (Entry T)) (handle : Handle)
    → Among handle (map (handle_of r) es) → (x : Entry T) × Among x es × (handle ≡ handle_of r x)
handle_among r [] handle h = absurd h
handle_among r (e ∷ es) handle (inl p) = (e, inl refl, p)
handle_among r (e ∷ es) handle (inr h) =
    let k = handle_among r es handle h in
    (k.0, inr k.1, k.2)

among_handles : {T : Type 0} (r : RegistryState T) (es : List (Entry T)) (x : Entry T) → Among x es
    → Among (handle_of r x) (map (handle_of r) es)
among_handles r [] x h = absurd h
among_handles r (e ∷ es) x (inl p) = inl (ap (handle_of r) p)
among_handles r (e ∷ es) x (inr h) = inr (among_handles r es x h)

-- a change that was refused
edits_none : {T : Type 0} (old new : RegistryState T) (change : Change T) → new ≡ old
    → ((handle : Handle) → TakesOut handle change → ⊥) → Edits old change new
edits_none old new change e none = grind (arith, grows_same)

pub edits : {T : Type 0} (old : RegistryState T) (change : Change T) (new : RegistryState T)
    → ChangeStep old change new → Edits old change new
edits old (Adding d (Err IsLocked)) new s = edits_none old new _ s.1 (λ handle t. t)
edits old (Adding d (Err OutOfSpace)) new s = edits_none old new _ s.2 (λ handle t. t)
edits old (Removing key mode (Err e)) new s = edits_none old new _ s.1 (λ handle t. t)
edits {T} old (Adding d (Ok key)) new s =
    let n : Enters old d key new = s.2 in
    let y : Entry T = record { slot = key.slot; ticket = old.used; details = d } in
    let less = among_less old.entries new.entries y in
    record {
      grows = grows_by old new n.3 (omega arith)
          (λ x a. elim (less x n.2 a) [ inl m ↦ inl m | inr e ↦ inr (ap (λ z. z.ticket) e) ]);
      stays = λ x a. inl (among_more old.entries new.entries y x n.2 a);
      was = λ x a. elim (less x n.2 a) [
        | inl m ↦ inl (m, λ w t. t)
        | inr e ↦ inr (rw e (ap (λ (k : Handle). Adding d (Ok k)) n.0))
      ];
      out = λ handle t. absurd t;
    }
edits {T} old (Removing key mode (Ok state)) new s =
    let l : Leaves old key mode new = s.0 in
    let more = among_more new.entries old.entries l.0 in
    record {
      grows = grows_by old new l.3 (omega arith) (λ x a. inl (more x l.2 a));
      stays = λ x a. elim (among_less new.entries old.entries l.0 x l.2 a) [
        | inl m ↦ inl m
        | inr e ↦ inr (ap (handle_of old) e ∙ sym l.1)
      ];
      was = λ x a. inl (
        more x l.2 a,
        λ w t. other_differs (λ v. v.slot) new.entries old.entries l.0 x l.2 (slots_differ old w) a
            (ap (λ (k : Handle). k.slot) (t ∙ l.1)),
      );
      out = λ handle t. (l.0, gained new.entries old.entries l.0 l.2, t ∙ l.1);
    }
edits {T} old (Recovering is_dead marked went mode state) new s =
    let gone = leaving is_dead marked old.entries in
    let its : (k : Handle) → Contains went k → (x : Entry T) × Among x gone
    × (k ≡ handle_of old x) =
    λ k t. handle_among old gone k
    (moved k went (map (handle_of old) gone) s.1 (among_contained went k t)) in
    rw s.0.0 (record {
      grows = grows_by old _ refl (omega arith)
          (λ x a. inl (stays_among is_dead marked old.entries x a));
      stays = λ x a. elim (stays_or_leaves is_dead marked old.entries x a) [
        | inl m ↦ inl m
        | inr m ↦ inr
            (contains_among went (handle_of old x)
            (moved (handle_of old x) (map (handle_of old) gone) went (sym s.1)
            (among_handles old gone x m)))
      ];
      was = λ x a. inl (
        stays_among is_dead marked old.entries x a,
        λ w t.
            let z = its (handle_of old x) t in
            stays_apart is_dead marked old.entries (λ v. v.slot) x z.0 (slots_differ old w) a z.1
            (ap (λ (k : Handle). k.slot) z.2),
      );
      out = λ k t.
          let z = its k t in (z.0, leaves_among is_dead marked old.entries z.0 z.1, z.2);
    })

-- the same of each kind of change
pub grows_add : {T : Type 0} (old : RegistryState T) (d : T)
    (answer : Result Handle ContainerAddFailure) (new : RegistryState T)
    → AddStep old d answer new → Grows old new
grows_add old d answer new s = (edits old (Adding d answer) new s).grows

pub grows_remove : {T : Type 0} (old : RegistryState T) (handle : Handle) (mode : ReleaseMode)
    (answer : Result ReleaseState ContainerRemoveError) (new : RegistryState T)
    → RemoveStep old handle mode answer new → Grows old new
grows_remove old handle mode answer new s = (edits old (Removing handle mode answer) new s).grows

pub grows_recover : {T : Type 0} (is_dead : T → Bool) (marked : ℕ → Bool) (old : RegistryState T)
    (mode : ReleaseMode) (state : ReleaseState) (new : RegistryState T)
    → Recovers is_dead marked old mode state new → Grows old new
grows_recover is_dead marked old mode state new s =
    (edits old (Recovering is_dead marked _ mode state) new (s, refl)).grows

-- the map has these details under this handle
abbrev IsHeld : {T : Type 0} → RegistryState T → Handle → T → Type 0
IsHeld {T} r handle details =
    (x : Entry T) × Among x r.entries × (handle ≡ handle_of r x) × (details ≡ x.details)

module _ {T : Type 0} (r : RegistryState T) (handle : Handle) (details : T) where
  held_stands : IsHeld r handle details → HasEntry r handle details
  held_stands h = let w = without r.entries h.0 h.1 in (h.0, h.2, sym h.3, (w.rest, w.gains))

  stands_held : HasEntry r handle details → IsHeld r handle details
  stands_held h = (h.0, gained h.3.0 r.entries h.0 h.3.1, h.1, sym h.2)

pub ticket_of : (h k : Handle) → h ≡ k → h.ticket ≡ k.ticket
ticket_of h k e = ap (λ (n : Handle). n.ticket) e

-- what is held after a change was held before it and stayed, or was added
abbrev Follows : {T : Type 0} → RegistryState T → Change T → Handle → T → Type 0
Follows {T} old change handle details =
    (IsHeld old handle details × (TakesOut handle change → ⊥))
    ⊎ (◌≡◌ {A = Change T} change (Adding details (Ok handle)))

module _ {T : Type 0} (old mid : RegistryState T) (change : Change T) (m : Edits old change mid)
    (handle : Handle) (details : T) where
  held_after : IsRegistry old → IsHeld mid handle details → Follows old change handle details
  held_after w h =
      let key : handle ≡ handle_of old h.0 = h.2 ∙ sym (same_key old mid h.0 m.grows) in
      elim (m.was h.0 h.1) [
        | inl k ↦ inl ((h.0, k.0, key, h.3), λ t. k.1 w (rw key at t))
        | inr e ↦ inr (rw key (rw h.3 e))
      ]

  -- what stayed is still held
  held_on : IsHeld old handle details → (TakesOut handle change → ⊥) → IsHeld mid handle details
  held_on h f = elim (m.stays h.0 h.1) [
    | inl k ↦ (h.0, k, h.2 ∙ same_key old mid h.0 m.grows, h.3)
    | inr t ↦ absurd (f (rw h.2 t))
  ]

-- what was added is held
held_new : {T : Type 0} (old mid : RegistryState T) (handle : Handle) (details : T)
    → ChangeStep old (Adding details (Ok handle)) mid → IsHeld mid handle details
held_new {T} old mid handle details s =
    let n : Enters old details handle mid = s.2 in
    let y : Entry T = record { slot = handle.slot; ticket = old.used; details = details } in
    rw n.3 (y, gained old.entries mid.entries y n.2, n.0, refl)

-- what is held at the end was held at the beginning and stayed, or was added and stayed
abbrev Stays : {T : Type 0} → RegistryState T → List (Change T) → Handle → T → Type 0
Stays old changes handle details =
    (IsHeld old handle details × All (λ change. TakesOut handle change → ⊥) changes)
    ⊎ Remains changes handle details

stays_of : {T : Type 0} (old new : RegistryState T) (changes : List (Change T)) (handle : Handle)
    (details : T) → IsRegistry old → History old changes new → IsHeld new handle details
    → Stays old changes handle details
stays_of old new [] handle details w s h =
    inl (rw (← s) h, All-nil (λ change. TakesOut handle change → ⊥))
stays_of {T} old new (c ∷ cs) handle details w s h =
    let kept : Change T → Type 0 = λ change. TakesOut handle change → ⊥ in
    elim (stays_of s.0 new cs handle details s.2 s.3 h) [
      | inl p ↦ elim (held_after old s.0 c (edits old c s.0 s.1) handle details w p.0) [
        | inl q ↦ inl (q.0, All-cons kept c cs q.1 p.1)
        | inr e ↦ inr (record { earlier = []; later = cs; added = rw e refl; untouched = p.1 })
      ]
      | inr r ↦ inr (record {
        earlier = c ∷ r.earlier;
        later = r.later;
        added = ap (λ l. c ∷ l) r.added;
        untouched = r.untouched;
      })
    ]

held_at_end : {T : Type 0} (old new : RegistryState T) (changes : List (Change T)) (handle : Handle)
    (details : T) → History old changes new → IsHeld old handle details
    → All (λ change. TakesOut handle change → ⊥) changes → IsHeld new handle details
held_at_end old new [] handle details s k f = rw s k
held_at_end {T} old new (c ∷ cs) handle details s k f =
    let kept : Change T → Type 0 = λ change. TakesOut handle change → ⊥ in
    held_at_end s.0 new cs handle details s.3
    (held_on old s.0 c (edits old c s.0 s.1) handle details k (All-head kept c cs f))
    (All-tail kept c cs f)

added_at_end : {T : Type 0} (old new : RegistryState T) (earlier later : List (Change T))
    (handle : Handle) (details : T)
    → History old (earlier ++ Adding details (Ok handle) ∷ later) new
    → All (λ change. TakesOut handle change → ⊥) later → IsHeld new handle details
added_at_end old new [] later handle details s f = search (rules, held_at_end, held_new)
added_at_end old new (c ∷ cs) later handle details s f =
    search (rules, added_at_end s.0 new cs later handle details s.3 f)

pub what_remains : {T : Type 0} (start now : RegistryState T) (changes : List (Change T))
    (handle : Handle) (details : T) → IsNew start → History start changes now
    → HasEntry now handle details ↔ Remains changes handle details
what_remains {T} start now changes handle details n s = (
  λ h. elim
      (stays_of start now changes handle details (new_is_registry start n) s
      (stands_held now handle details h)) [
        | inl p ↦ absurd (moved p.0.0 start.entries ([]) n.0 p.0.1)
        | inr r ↦ r
      ],
  λ r. held_stands now handle details
      (added_at_end start now r.earlier r.later handle details (rw r.added at s) r.untouched),
)

-- the handle had its ticket, and no entry has it any more
record IsSpent {T : Type 0} (r : RegistryState T) (handle : Handle) : Type 0 where
  pub ticket : handle.ticket < r.used
  pub gone : (details : T) → IsHeld r handle details → ⊥

-- what is added has the next ticket
new_ticket : {T : Type 0} (old mid : RegistryState T) (handle : Handle) (details : T)
    → ChangeStep old (Adding details (Ok handle)) mid → handle.ticket ≡ old.used
new_ticket old mid handle details s = ap (λ (h : Handle). h.ticket) s.2.0

module _ {T : Type 0} (old mid : RegistryState T) (change : Change T) (handle : Handle)
    (w : IsRegistry old) (s : ChangeStep old change mid) where
  spent_after : TakesOut handle change → IsSpent mid handle
  spent_after t =
      let m = edits old change mid s in
      let k = m.out handle t in
      let below : k.0.ticket < old.used =
      of_all (λ (e : Entry T). e.ticket < old.used) old.entries k.0 w.tickets_used k.1 in
      record {
        ticket = omega (arith, ticket_of handle (handle_of old k.0) k.2, m.grows.used);
        gone = λ details h. elim (held_after old mid change m handle details w h) [
          | inl p ↦ p.1 t
          | inr e ↦ rw e at t
        ];
      }

  spent_stays : IsSpent old handle → IsSpent mid handle
  spent_stays p =
      let m = edits old change mid s in
      record {
        ticket = omega (arith, p.ticket, m.grows.used);
        gone = λ details h. elim (held_after old mid change m handle details w h) [
          | inl q ↦ p.gone details q.0
          | inr e ↦ absurd
              (omega (arith, p.ticket, new_ticket old mid handle details (rw e at s)))
        ];
      }

spent_at_end : {T : Type 0} (old new : RegistryState T) (changes : List (Change T))
    (handle : Handle) → IsRegistry old → History old changes new → IsSpent old handle
    → IsSpent new handle
spent_at_end old new [] handle w s p = rw s p
spent_at_end old new (c ∷ cs) handle w s p =
    spent_at_end s.0 new cs handle s.2 s.3 (spent_stays old s.0 c handle w s.1 p)

spent_of : {T : Type 0} (old new : RegistryState T) (changes : List (Change T)) (handle : Handle)
    → IsRegistry old → History old changes new → Any (TakesOut handle) changes → IsSpent new handle
spent_of old new [] handle w s a = absurd (omega (arith, a.2))
spent_of {T} old new (c ∷ cs) handle w s a =
    elim (first_or_other (TakesOut handle) c cs a) [
      | inl t ↦ spent_at_end s.0 new cs handle s.2 s.3 (spent_after old s.0 c handle w s.1 t)
      | inr b ↦ spent_of s.0 new cs handle s.2 s.3 b
    ]

spent_refused : {T : Type 0} (r : RegistryState T) (handle : Handle) (mode : ReleaseMode)
    (result : Result ReleaseState ContainerRemoveError) (new : RegistryState T)
    → IsSpent r handle → RemoveStep r handle mode result new
    → result ≡ Err ContainerHandleNotOwnedByContainer
spent_refused r handle mode (Ok state) new p s =
    let l : Leaves r handle mode new = s.0 in
    absurd (p.gone l.0.details (l.0, gained new.entries r.entries l.0 l.2, l.1, refl))
spent_refused r handle mode (Err ContainerHandleNotOwnedByContainer) new p s = refl

pub gone_for_good : {T : Type 0} (start now : RegistryState T) (changes : List (Change T))
    (handle : Handle) → IsNew start → History start changes now → Any (TakesOut handle) changes
    → IsRefused now handle
gone_for_good start now changes handle n s a =
    let p = spent_of start now changes handle (new_is_registry start n) s a in
    record {
      removal = λ mode result new step. spent_refused now handle mode result new p step;
      nothing = λ details h. p.gone details (stands_held now handle details h);
    }

-- the handle that a change gives, and those given after it
given_first : {T : Type 0} (P : Handle → Type 0) (change : Change T) (given : List Handle)
    → ((handle : Handle) (details : T) → ◌≡◌ {A = Change T} change (Adding details (Ok handle))
    → P handle) → All P given → All P (cons_option (handle_given_by change) given)
given_first P (Adding d (Ok handle)) given f h = All-cons P handle given (f handle d refl) h
given_first P change given f h = h

-- the tickets of the handles that are given from here on
tickets_to_come : {T : Type 0} (old new : RegistryState T) (changes : List (Change T))
    → History old changes new → All (λ h. old.used ≤ h.ticket) (handles_given changes)
tickets_to_come old new [] s = All-nil (λ (h : Handle). old.used ≤ h.ticket)
tickets_to_come {T} old new (c ∷ cs) s =
    given_first (λ h. old.used ≤ h.ticket) c (handles_given cs)
    (λ handle d e. omega (arith, new_ticket old s.0 handle d (rw e at s.1)))
    (All-weaker (λ (h : Handle). s.0.used ≤ h.ticket) (λ (h : Handle). old.used ≤ h.ticket)
    (λ h l. omega (arith, l, (edits old c s.0 s.1).grows.used)) (handles_given cs)
    (tickets_to_come s.0 new cs s.3))

first_differs : {T : Type 0} (old mid : RegistryState T) (change : Change T) (given : List Handle)
    → ChangeStep old change mid → All (λ h. mid.used ≤ h.ticket) given → AllPairs ◌≢◌ given
    → AllPairs ◌≢◌ (cons_option (handle_given_by change) given)
first_differs {T} old mid (Adding d (Ok handle)) given s h p =
    grind (arith, AllPairs-cons, All-weaker, ticket_of, new_ticket)
first_differs old mid change given s h p = p

pub handles_differ : {T : Type 0} (old new : RegistryState T) (changes : List (Change T))
    → History old changes new → AllPairs ◌≢◌ (handles_given changes)
handles_differ old new [] s = search rules
handles_differ old new (c ∷ cs) s =
    search (rules, first_differs, tickets_to_come, handles_differ s.0 new cs s.3)

-- nothing changes a locked registry
locked_step : {T : Type 0} (old : RegistryState T) (change : Change T) (new : RegistryState T)
    → IsRegistry old → IsTrue old.locked → ChangeStep old change new → new ≡ old
locked_step old (Adding d (Err IsLocked)) new w l s = s.1
locked_step old (Adding d (Err OutOfSpace)) new w l s = s.2
locked_step old (Adding d (Ok handle)) new w l s =
    let no : ◌≡◌ {A = Bool} true false = sym l ∙ s.0 in
    absurd (cc)
locked_step old (Removing handle mode (Err e)) new w l s = s.1
locked_step old (Removing handle mode (Ok state)) new w l s =
    let gone : Leaves old handle mode new = s.0 in
    absurd (moved gone.0 old.entries [] (w.locked_is_empty l)
    (gained new.entries old.entries gone.0 gone.2))
locked_step old (Recovering is_dead marked went mode state) new w l s =
    let none : new.entries ≡ [] = ap (λ r. r.entries) s.0.0 ∙ rw (w.locked_is_empty l) refl in
    s.0.0 ∙ rw (w.locked_is_empty l, none, same_lock mode old.locked) refl

pub locked_for_good : {T : Type 0} (start now : RegistryState T) (changes : List (Change T))
    → IsRegistry start → IsTrue start.locked → History start changes now → now ≡ start
locked_for_good start now [] w l s = s
locked_for_good start now (c ∷ cs) w l s =
    let same = locked_step start c s.0 w l s.1 in
    locked_for_good s.0 now cs s.2 (rw same l) s.3 ∙ same

-- each is greater than the last one before them
above : (last new floor : ℕ) (numbers : List ℕ) → floor ≤ last → ReturnInTurn last numbers new
    → All (λ number. floor < number) numbers
above last new floor [] below run = grind (arith, All-nil)
above last new floor (number ∷ others) below run =
    grind (arith, All-cons, above run.0 new floor others (omega (arith, run.1.1, run.1.2)) run.2)

pub numbers_rise : NumbersRise
numbers_rise last new [] run = grind arith
numbers_rise last new (number ∷ others) run =
    grind (arith, AllPairs-cons, above, numbers_rise run.0 new others run.2)
