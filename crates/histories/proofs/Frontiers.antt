-- The configurations after one event more, and what an event does to a front.
use Rattle.histories.proofs.Words.{[], ◌≡◌, ◌≢◌, ℕ, ◌<◌, ◌≤◌, List, ◌∷◌, ◌++◌, length, refl, sym, ◌∙◌, ap, arith, inl, inr, Option, AllPairs, bit_at, bit_at-zero, Contains, Config, Link, Event, End, Crash, times, AreSound, Explains, Ends, HasManyOrders, HasSlot, HaveCalls, IsFollowed, IsFrontier, IsLighter, IsSame, IsTable, LeadTo, Leaves, Path, cleared, no_path, order_at, order_of, path_of, FreesSlot, FromOne, Gathers, HasMany, IsClosed, IsDropped, IsFirst, IsMadeFrom, Spot, spot_of, ◌+◌, cases_eq, cases_lt, Begin, begins, AreComplete, IsSound, IsWaiting, Runs, path_more, put, IsFrontOf, IsOpened, Settles, TakesSlot, AreLaidIn, Finishes, IsLeft, Advance, Front, AdvancesIn, Agrees, EndsOpen, IsSameFront}
use Rattle.histories.proofs.Running.{bit_cases, cleared_le, cleared_other, cleared_same, have_fewer, slot_64, slot_within, cleared_put, put_other, put_same, lighter_cleared, runs_fewer, runs_in, runs_without, lighter_without, leads_split, leaves_run, runs_lighter, runs_order, runs_then}
use Rattle.histories.proofs.Lists.{not_some, times_none, no_times, split_times, times-append, times-cons, times_one, times_same, nothing_in, order_more, order_none, frontier_laid}
use Rattle.histories.proofs.Events.{answered_now, begins_none, freed_before, table_end, begins_begin, table_begin, taken_cases, taken_other, taken_still, ends_one}
use Rattle.histories.proofs.Explaining.{explains_end, explains_open, explains_run, behind_open, explains_begin, explains_front, explains_without}
use Rattle.histories.proofs.Closing.{leads_found, leads_kept, none_same, HaveSameSteps, closed_as, leads_sought, made_as}
use Rattle.histories.specs.declared.front.Advance.TheVariants as advance

module _ {S : Type 0} (Step : S → ℕ → S → Type 0) where
  -- where waiting calls were made, the order explains the history still
  pub followed_made : (links : List Link) (slots : List (Option ℕ)) (es : List Event)
      (olds : List S) (configs : List (Config S)) (k : Config S) → IsTable es slots
      → AreSound Step links slots es olds configs → IsMadeFrom Step slots configs (spot_of k)
      → IsFollowed Step links slots es olds k
  followed_made links slots es olds configs k table sound made =
      let is = sound made.0 made.1 in
      let from = made.0 in
      let calls = made.2.0 in
      let order : order_of links k ≡ order_of links from ++ calls =
      ap (λ (p : Path). order_at links p) made.2.2 ∙ order_more _ _ _ in
      let more = explains_run _ _ _ _ _ _ _
      _ _ _ table is.explains is.leaves made.2.1 in record {
        old = is.old;
        from = is.from;
        explains = rw order more.0;
        leaves = rw order more.1;
        only = have_fewer _ _ _ (λ i. runs_fewer _ _ _ _ _ _ i _ made.2.1) is.only;
        within = omega (arith, is.within, ap (λ (p : Path). p.base) made.2.2);
      }

  module _ (slots more : List (Option ℕ)) (t : ℕ) (frees : FreesSlot slots t more)
      (few : length slots ≤ 64) where
    leaves_freed : (order : List ℕ) (rest : ℕ) → Leaves slots order rest → Leaves more order rest
    leaves_freed order rest leaves slot call has =
        leaves slot call (freed_before _ _ _ _ _ frees has).1

    have_freed : (set : ℕ) → bit_at set t ≡ 0 → HaveCalls slots set → HaveCalls more set
    have_freed set gone have slot some =
        let at = have slot some in
        let ne : slot ≢ t = λ e. absurd (omega (arith, some, gone, ap (λ x. bit_at set x) e)) in
        (at.0, frees.others slot ne ∙ at.1)

    -- the same leads on without the slot
    leads_freed : (configs : List (Config S)) (new : S) (rest : ℕ)
        → ((k : Config S) → Contains configs k → bit_at k.waiting t ≡ 0)
        → LeadTo Step slots configs new rest → LeadTo Step more configs new rest
    leads_freed configs new rest gone l =
        let k = l.0 in (
          k,
          l.1,
          (
            l.2.0,
            l.2.1,
            runs_in _ _ _ _ _ _ _ _ _ _ (λ w s ne h. refl) (λ w s ne h. refl) few
                (λ s call has some.
                let ne : s ≢ t = λ e. absurd
                (omega (arith, some, gone k l.1, ap (λ x. bit_at k.waiting x) e)) in
                (ne, frees.others s ne ∙ has)) l.2.2,
            λ s call has. l.2.3 s call (freed_before _ _ _ _ _ frees has).1,
          ),
        )

    module _ (links : List Link) (es : List Event) (olds : List S)
        (configs done : List (Config S)) (c : ℕ) (here : HasSlot slots t c)
        (f : IsFrontier Step links slots es olds configs) (g : IsClosed Step slots configs t done)
      where
        -- a configuration in which the call was made
        done_sound : (e : Event) → Ends e c → AreSound Step links more (es ++ e ∷ []) olds done
        done_sound e ends k has =
            let closed = g.sound k has in
            let is = followed_made links slots es olds configs k f.table f.sound closed.0 in
            record {
              old = is.old;
              from = is.from;
              explains = explains_end Step es e is.old k.state (order_of links k) c ends
                  (λ is_end. omega (arith, is.leaves t c here, closed.1)) is.explains;
              leaves = leaves_freed (order_of links k) k.waiting is.leaves;
              only = have_freed k.waiting closed.1 is.only;
              within = is.within;
            }

        -- a call that was answered is made
        pub frontier_end : IsFrontier Step links more (es ++ End c ∷ []) olds done
        frontier_end = record {
          sound = done_sound _ (inl refl);
          complete = λ old order new from ex.
              let lead = f.complete old order new from
              (explains_open _ _ _ _ _ _ _ (inl refl) ex) in
              let made : 0 < times c order = ex.answered c (answered_now _ _) in (
                lead.0,
                leaves_freed _ _ lead.1,
                leads_freed _ _ _ (λ k has. (g.sound k has).1)
                    (g.complete new lead.0 lead.2 (omega (arith, made, lead.1 t c here))),
              );
          once = g.once;
          table = table_end _ _ _ _ _ _ (inl refl) f.table here frees;
        }

        module _ (all : List (Config S)) (d : Gathers (FromOne (IsDropped t) configs) done all)
          where
            -- a configuration in which it was dropped
            dropped_sound : (k : Config S) → FromOne (IsDropped t) configs (spot_of k)
                → IsFollowed Step links more (es ++ Crash c ∷ []) olds k
            dropped_sound k found =
                let from = found.0 in
                let is = f.sound from found.1 in
                let drop = found.2 in
                let order : order_of links k ≡ order_of links from =
                ap (λ (p : Path). order_at links p) drop.1.2 in record {
                  old = is.old;
                  from = is.from;
                  explains = rw (order, drop.1.0) (explains_end _ _ _ _ _ _ _
                      (inr refl) (λ is_end. absurd (cc)) is.explains);
                  leaves = λ slot call has. grind (arith, freed_before, cleared_other, slot_64);
                  only = rw drop.1.1 (have_freed _ (cleared_same _ _ (slot_64 _ _ _ few here))
                      (have_fewer _ _ _ (cleared_le from.waiting t) is.only));
                  within = omega (arith, is.within, ap (λ (p : Path). p.base) drop.1.2);
                }

            crash_gone : (k : Config S) → Contains all k → bit_at k.waiting t ≡ 0
            crash_gone k has =
                elim (d.adds.sound k has) [
                  | inl closed ↦ (g.sound k closed).1
                  | inr found ↦ grind (arith, cleared_same, slot_64)
                ]

            -- what is led to where the call is not made
            crash_leads : (new : S) (rest : ℕ) → bit_at rest t ≡ 1
                → LeadTo Step slots configs new rest → LeadTo Step slots all new (cleared rest t)
            crash_leads new rest waits l =
                let h = slot_64 _ _ _ few here in
                let from = l.0 in
                let fewer = l.2.1 in
                elim (bit_cases _ _) [
                  | inl none ↦
                      leads_kept _ _ _ _ _ _ _ d
                      (g.complete new (cleared rest t) (
                        from,
                        l.1,
                        (l.2.0, fewer, l.2.2, lighter_without _ _ _ _ _ few h none l.2.3),
                      ) (cleared_same _ _ h))
                  | inr some ↦
                      let there : bit_at from.waiting t ≡ 1 = grind (
                        arith,
                        bit_cases,
                        runs_fewer Step slots from.state new from.waiting fewer t l.2.0 l.2.2,
                      ) in
                      leads_found _ _ _ _ _ _ _ _ _ _ d (from, l.1, (there, (refl, refl, refl)))
                      (runs_without _ _ _ _ _ _ _ _ few h some l.2.2)
                      (lighter_cleared _ _ _ _ _ few h l.2.3)
                ]

            -- a call whose caller crashed is made, or never
            pub frontier_crash : IsFrontier Step links more (es ++ Crash c ∷ []) olds all
            frontier_crash = record {
              sound = λ k has. elim (d.adds.sound k has) [
                | inl closed ↦ done_sound _ (inr refl) k closed
                | inr found ↦ dropped_sound _ found
              ];
              complete = λ old order new from ex.
                  let lead = f.complete old order new from
                  (explains_open _ _ _ _ _ _ _ (inr refl) ex) in
                  elim (bit_cases lead.0 t) [
                    | inl none ↦ (
                      lead.0,
                      leaves_freed _ _ lead.1,
                      leads_freed _ _ _ crash_gone
                          (leads_kept Step slots (FromOne (IsDropped t) configs) done all new lead.0
                          d (g.complete new lead.0 lead.2 none)),
                    )
                    | inr some ↦ (
                      cleared lead.0 t,
                      λ slot call has. grind (arith, freed_before, cleared_other, slot_64),
                      leads_freed _ _ _ crash_gone (crash_leads new lead.0 some lead.2),
                    )
                  ];
              once = d.adds.once g.once;
              table = table_end _ _ _ _ _ _ (inr refl) f.table here frees;
            }

  pub front_many : (links : List Link) (slots : List (Option ℕ)) (es : List Event)
      (olds : List S) (configs : List (Config S)) → IsFrontier Step links slots es olds configs
      → 4096 < length configs → HasManyOrders Step es olds
  front_many links slots es olds configs f many =
      (links, slots, configs, many, f.once, f.table, f.sound)

  -- an order of no calls
  pub explains_none : (old : S) → Explains Step [] old [] old
  explains_none old = grind (arith, times_none)

  pub no_calls : (old new : S) (order : List ℕ) → Explains Step [] old order new
      → (order ≡ []) × (new ≡ old)
  no_calls old new order ex =
      let none : order ≡ [] =
      no_times _ (λ c. not_some _
      (λ some. absurd (omega (arith, ex.begun c some, begins_none c)))) in
      (none, rw none at ex.leads)

  -- configurations of orders of no calls, where no call is open
  pub frontier_fresh : (links : List Link) (slots : List (Option ℕ)) (olds : List S)
      (configs : List (Config S)) → IsTable [] slots
      → ((k : Config S) → Contains configs k
      → Contains olds k.state × (path_of k ≡ no_path) × HaveCalls slots k.waiting)
      → ((old : S) → Contains olds old → (k : Config S) × Contains configs k × (k.state ≡ old))
      → AllPairs (λ a b. ¬ (IsSame a b)) configs → IsFrontier Step links slots [] olds configs
  frontier_fresh links slots olds configs table from all once = record {
    sound = λ k has.
        let is = from k has in
        let order : order_of links k ≡ [] =
        ap (λ (p : Path). order_at links p) is.1 ∙ order_none _ in record {
          old = k.state;
          from = is.0;
          explains = rw order (explains_none _);
          leaves = λ slot call here.
              absurd (omega (arith, (table.each slot call here).0, begins_none call));
          only = is.2;
          within = omega (arith, ap (λ (p : Path). p.base) is.1);
        };
    complete = λ old order new has ex.
        let is = no_calls _ _ _ ex in
        let k = all old has in (
          0,
          λ slot call here. absurd (omega (arith, (table.each slot call here).0, begins_none call)),
          (
            k.0,
            k.1,
            (
              [],
              k.0.waiting,
              (is.1 ∙ sym k.2, refl),
              λ slot call here.
                  absurd (omega (arith, (table.each slot call here).0, begins_none call)),
            ),
          ),
        );
    once = once;
    table = table;
  }

  pub table_none : (slots : List (Option ℕ)) → length slots ≤ 64
      → ((slot call : ℕ) → HasSlot slots slot call → ⊥) → IsTable [] slots
  table_none slots few empty = grind (arith, begins_none)

  -- before any event
  pub frontier_first : (links : List Link) (olds : List S) (configs : List (Config S))
      → Gathers (FromOne IsFirst olds) [] configs → IsFrontier Step links [] [] olds configs
  frontier_first links olds configs g =
      frontier_fresh _ _ _ _
      (table_none [] (omega arith)
      (λ slot call has. absurd (omega (arith, slot_within [] slot call has))))
      (λ k has. elim (g.adds.sound k has) [
        | inl none ↦ absurd (nothing_in _ none)
        | inr found ↦ (
          rw found.2.0 found.1,
          found.2.2,
          λ i some.
              absurd (omega (arith, some, ap (λ w. bit_at w i) found.2.1, bit_at-zero i)),
        )
      ]) (λ old has.
      let spot : Spot S = record { state = old; waiting = 0; made = no_path } in
      let k = g.complete spot (old, has, (refl, refl, refl)) in (k.0, k.1, k.2.0))
      (g.adds.once none_same)

  module _ (slots more : List (Option ℕ)) (c t : ℕ) (takes : TakesSlot slots c t more)
      (few : length slots ≤ 64) where
    lighter_put : (fewer rest : ℕ) → IsLighter Step slots fewer rest
        → IsLighter Step more (put fewer t) (put rest t)
    lighter_put fewer rest l slot call has = grind (arith, taken_cases, bit_at, put_same, put_other)

    leaves_put : (order : List ℕ) (rest : ℕ) → times c order ≡ 0 → Leaves slots order rest
        → Leaves more order (put rest t)
    leaves_put order rest none leaves slot call has =
        grind (arith, taken_cases, bit_at, put_same, put_other)

    have_put : (set : ℕ) → HaveCalls slots set → HaveCalls more (put set t)
    have_put set have i some =
        elim (cases_eq i t) [
          | inl e ↦ (c, rw e takes.has)
          | inr ne ↦
              let at = have i (omega (arith, some, put_other set t i takes.within ne)) in
              (at.0, taken_still _ _ _ _ _ _ takes at.1)
        ]

    runs_put : (old new : S) (waiting rest : ℕ) (calls : List ℕ)
        → Runs Step slots old waiting calls new rest
        → Runs Step more old (put waiting t) calls new (put rest t)
    runs_put old new waiting rest calls run =
        runs_in _ _ _ _ _ _ _ _ _ _ (λ w s ne h. cleared_put _ _ _ h takes.within ne)
        (λ w s ne h. put_other _ _ _ takes.within ne) few
        (λ s call has some. (
          taken_other _ _ _ _ _ _ takes has,
          taken_still _ _ _ _ _ _ takes has,
        )) run

    -- the same leads on where one call more waits
    leads_put : (configs opened : List (Config S)) (new : S) (rest : ℕ) → length more ≤ 64
        → ¬ (4096 < length opened) → Settles Step more (FromOne (IsOpened t) configs) [] opened
        → LeadTo Step slots configs new rest → LeadTo Step more opened new (put rest t)
    leads_put configs opened new rest short enough g l =
        let from = l.0 in
        let at : Spot S =
        record { state = from.state; waiting = put from.waiting t; made = path_of from } in
        leads_sought Step more _ _ _ at _ _ _ _ short enough g (from, l.1, (refl, refl, refl))
        (runs_put from.state new from.waiting l.2.1 l.2.0 l.2.2) (lighter_put l.2.1 rest l.2.3)

    -- and other calls go on from there
    leads_on : (opened : List (Config S)) (mid new : S) (rest last : ℕ) (calls : List ℕ)
        → length more ≤ 64 → LeadTo Step more opened mid rest
        → Runs Step more mid rest calls new last → LeadTo Step more opened new last
    leads_on opened mid new rest last calls short l run =
        let on = runs_lighter _ _ _ _ _ _ _ _ short l.2.3 run in (
          l.0,
          l.1,
          (l.2.0 ++ on.0, on.1, runs_then _ _ _ _ _ _ _ _ _ _ l.2.2 on.2, on.3),
        )

    module _ (links : List Link) (es : List Event) (olds : List S)
        (configs opened : List (Config S)) (s : IsSound es) (fresh : begins c es ≡ 0)
        (f : IsFrontier Step links slots es olds configs)
        (g : Settles Step more (FromOne (IsOpened t) configs) [] opened) where
      opened_table : IsTable (es ++ Begin c ∷ []) more
      opened_table = table_begin _ _ _ _ _ s fresh f.table takes

      opened_sound : AreSound Step links more (es ++ Begin c ∷ []) olds opened
      opened_sound k has =
          elim (g.adds.sound k has) [
            | inl none ↦ absurd (nothing_in _ none)
            | inr found ↦
                let from = found.1.0 in
                let at = found.1.2 in
                let is = f.sound from found.1.1 in
                let idle = found.2 in
                let path : path_of k ≡ path_more (path_of from) idle.calls =
                idle.made ∙ ap (λ (p : Path). path_more p idle.calls) at.2 in
                let order : order_of links k ≡ order_of links from ++ idle.calls =
                ap (λ (p : Path). order_at links p) path ∙ order_more _ _ _ in
                let none : times c (order_of links from) ≡ 0 =
                not_some _ (λ some. absurd (omega (arith, is.explains.begun c some, fresh))) in
                let run : Runs Step more from.state (put from.waiting t) idle.calls k.state
                k.waiting = rw (idle.state, ← at.0, ← at.1) idle.runs in
                let now = explains_run _ _ _ _ _ _ _ _ _ _ opened_table
                (explains_begin _ _ _ _ _ _ fresh is.explains) (leaves_put _ _ none is.leaves) run
                in record {
                  old = is.old;
                  from = is.from;
                  explains = rw order now.0;
                  leaves = rw order now.1;
                  only = have_fewer _ _ _ (λ i. runs_fewer _ _ _ _ _ _ i _ run)
                      (have_put _ is.only);
                  within = omega (arith, is.within, ap (λ (p : Path). p.base) path);
                }
          ]

      -- where the order has the call
      opened_with : (old new : S) (front back : List ℕ) → ¬ (4096 < length opened)
          → Contains olds old
          → Explains Step (es ++ Begin c ∷ []) old (front ++ c ∷ back) new
          → (rest : ℕ) × Leaves more (front ++ c ∷ back) rest × LeadTo Step more opened new rest
      opened_with old new front back enough from ex =
          let order = front ++ c ∷ back in
          let next = opened_table in
          let parts = leads_split _ _ _ _ _ ex.leads in
          let mid = parts.0 in
          let lead = f.complete old front mid from
          (explains_front _ _ _ _ _ _ _ _ s fresh ex parts.1) in
          let rest = lead.0 in
          let counts : (x : ℕ) → times x order ≡ times x front + times x (c ∷ []) + times x back =
          λ x. omega (arith, times-append x front (c ∷ back), times-cons x c back) in
          let none : times c front ≡ 0 = omega (arith, counts c, ex.once c, times_one c) in
          let all : (x : ℕ) → 0 < times x (c ∷ back)
          → (slot : ℕ) × IsWaiting more (put rest t) slot x = λ x some.
          elim (cases_lt 0 (times x (c ∷ []))) [
            | inl here ↦ grind (arith, times_same, put_same)
            | inr away ↦
                let behind : 0 < times x back = omega (arith, some, away, times-cons x c back) in
                let begun : 0 < begins x es = omega (
                  arith,
                  ex.begun x (omega (arith, counts x, behind)),
                  begins_begin x c es,
                  away,
                ) in
                let at = f.table.all x (begun, behind_open _ _ _ _ _ _ _ _ ex behind) in
                let ne = taken_other _ _ _ _ _ _ takes at.1 in
                let waits : bit_at rest at.0 ≡ 1 =
                omega (arith, lead.1 at.0 x at.1, counts x, ex.once x, behind) in (
                  at.0,
                  (taken_still _ _ _ _ _ _ takes at.1, put_other _ _ _ takes.within ne ∙ waits),
                )
          ] in
          let run = runs_order _ _ _ _ _ _ next.few next.apart
          (λ x. omega (arith, counts x, ex.once x, times-cons x c back)) all parts.2 in (
            run.0,
            leaves_run _ _ _ _ _ _ run.0 _ next.few next.apart (leaves_put _ _ none lead.1) run.1,
            leads_on _ _ _ _ run.0 (c ∷ back) next.few
                (leads_put _ _ _ _ next.few enough g lead.2) run.1,
          )

      opened_complete : ¬ (4096 < length opened)
          → AreComplete Step more (es ++ Begin c ∷ []) olds opened
      opened_complete enough old order new from ex =
          elim (cases_lt 0 (times c order)) [
            | inl some ↦
                let parts = split_times _ _ some in
                rw parts.2 (opened_with old new parts.0 parts.1 enough from (rw parts.2 at ex))
            | inr less ↦
                let none : times c order ≡ 0 = omega (arith, less) in
                let lead = f.complete old order new from (explains_without _ _ _ _ _ _ ex none) in (
                  put lead.0 t,
                  leaves_put _ _ none lead.1,
                  leads_put _ _ _ _ takes.few enough g lead.2,
                )
          ]

      -- a call begins
      pub frontier_begin : ¬ (4096 < length opened)
          → IsFrontier Step links more (es ++ Begin c ∷ []) olds opened
      frontier_begin enough = grind (arith, opened_sound, opened_complete, none_same, opened_table)

module _ {S : Type 0} (Step : S → ℕ → S → Type 0) (events : List Event) (olds : List S)
    (event : Event) where
  -- by the configurations that are left
  advanced : (front : Front S) (result : Advance)
      → IsFrontOf Step front (events ++ event ∷ []) olds → IsLeft front.configs.items result
      → EndsOpen events event → AdvancesIn Step events olds event front result
  advanced front advance.Done f left ends = (f, left, ends)
  advanced front advance.Refused f left ends = (f, left, ends)
  advanced front advance.ManyConfigs f left ends = absurd left
  advanced front advance.ManyOpen f left ends = absurd left
  advanced front advance.NoEvent f left ends = absurd left

  -- the calls that were made went into the links
  pub laid_out : (links : List Link) (configs : List (Config S)) (new : Front S) (result : Advance)
      → IsFrontier Step links new.slots.items (events ++ event ∷ []) olds configs
      → AreLaidIn links configs new result → EndsOpen events event
      → AdvancesIn Step events olds event new result
  laid_out links configs new result f laid ends = search (arith, advanced, frontier_laid)

  -- the slot of a call that is over was made free
  pub finished : (old new : Front S) (slot : ℕ) (configs : List (Config S)) (result : Advance)
      → ((more : List (Option ℕ)) → FreesSlot old.slots.items slot more
      → IsFrontier Step old.links.items more (events ++ event ∷ []) olds configs)
      → EndsOpen events event → Finishes old slot configs new result
      → AdvancesIn Step events olds event new result
  finished old new slot configs result f ends is =
      let there = f new.slots.items is.0 in
      elim is.1 [
        | inl many ↦ grind (arith, front_many)
        | inr laid ↦ laid_out _ _ new _ there laid ends
      ]

-- the call that ends has a slot
pub slot_ends : (events : List Event) (e : Event) (slots : List (Option ℕ)) (slot c : ℕ)
    → Ends e c → IsTable events slots → HasSlot slots slot c → EndsOpen events e
slot_ends events e slots slot c ends table has x now =
    rw (← ends_one _ _ _ ends now) (table.each slot c has)

pub no_slot : (events : List Event) (e : Event) (slots : List (Option ℕ)) (c : ℕ) → Ends e c
    → IsTable events slots → ((slot : ℕ) → HasSlot slots slot c → ⊥) → ¬ (EndsOpen events e)
no_slot events e slots c ends table none is = let at = table.all c (is c ends) in none at.0 at.1

-- the machine makes the calls that have slots as the history has it
pub agrees_slots : {S : Type 0} (Made Step : S → ℕ → S → Type 0) (events : List Event)
    (slots : List (Option ℕ)) → IsTable events slots → Agrees Made Step events
    → HaveSameSteps Made Step slots
agrees_slots Made Step events slots table agrees slot call has =
    agrees call (table.each slot call has)

-- the call in the slot was made in each, and ends
pub call_ended : {S : Type 0} (Made Step : S → ℕ → S → Type 0) (events : List Event)
    (olds : List S) (front new : Front S) (slot call : ℕ) (closed : List (Config S))
    (result : Advance) → Agrees Made Step events → HasSlot front.slots.items slot call
    → IsClosed Made front.slots.items front.configs.items slot closed
    → IsFrontOf Step front events olds → Finishes front slot closed new result
    → AdvancesIn Step events olds (End call) new result
call_ended Made Step events olds front new slot call closed result agrees here is f =
    finished _ _ _ _ front new _ _ _ (λ more frees. frontier_end _ _ _ _ frees f.table.few _ _ _
    _ _ _ here f (closed_as _ _ _ (agrees_slots _ _ _ _ f.table agrees) _ _ _ is))
    (slot_ends _ _ _ _ _ (inl refl) f.table here)

-- the same slots, configurations and links
pub front_same : {S : Type 0} (Step : S → ℕ → S → Type 0) (events : List Event) (olds : List S)
    (old new : Front S) → IsSameFront old new → IsFrontOf Step old events olds
    → IsFrontOf Step new events olds
front_same {S} Step events olds old new is front = grind arith

-- calls that waited lead to too many configurations
pub many_orders : {S : Type 0} (Made Step : S → ℕ → S → Type 0) (events : List Event)
    (olds : List S) (front : Front S) → Agrees Made Step events
    → HasMany Made front.slots.items front.configs.items → IsFrontOf Step front events olds
    → HasManyOrders Step events olds
many_orders Made Step events olds front agrees many f =
    let same = agrees_slots _ _ _ _ f.table agrees in (
      front.links.items,
      front.slots.items,
      many.0,
      many.1,
      many.2,
      f.table,
      λ k has. followed_made _ _ _ _ _ _ _ f.table f.sound (made_as _ _ _ same _ _ (many.3 k has)),
    )
