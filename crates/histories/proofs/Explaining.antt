-- What explains a history: with one event more, in two parts where no call is open between them,
-- and by other steps.
use Rattle.histories.proofs.Words.{[], ◌≡◌, ℕ, ◌+◌, ◌<◌, List, ◌∷◌, ◌++◌, get_or, arith, inl, inr, Option, append-nil, append_assoc, cases_lt, all_pairs_push, Event, Begin, End, begins, times, Explains, HasEnded, IsOpen, IsOver, Leads, Ends, IsSound, IsTable, Leaves, Runs, cleared, suc, refl, ap, ◌∙◌, AllPairs, map, IsExplained, IsQuiet, Contains, IsCut, IsLedTo, ◌↔◌}
use Rattle.histories.proofs.Lists.{all_pairs_behind, all_pairs_front, apart, times-append, times-cons, times_at, times_one, times_other, times_same, times_none, all_pairs_back, all_pairs_join, contains_map_of}
use Rattle.histories.proofs.Events.{answered_cases, answered_ended, answered_left, begin_no_end, begins-append, begins_begin, begins_cases, ends_one, over_cases, over_ended, over_now, over_left, ends_within, stands_within, begins_stands, ends_either, ends_left, stands_begins, stands_either, stands_right, answered_right, over_right, quiet_both}
use Rattle.histories.proofs.Running.{leads_push, leaves_made, leads_join, leads_split}

module _ {S : Type 0} (Step : S → ℕ → S → Type 0) where
  -- an open call is made after an order
  pub explains_pushed : (es : List Event) (old mid new : S) (order : List ℕ) (call : ℕ)
      → IsOpen es call → times call order ≡ 0 → Explains Step es old order mid
      → Step mid call new → Explains Step es old (order ++ call ∷ []) new
  explains_pushed es old mid new order call o fresh ex step =
      let counts : (c : ℕ) → times c (order ++ call ∷ []) ≡ times c order + times c (call ∷ []) =
      λ c. times-append _ _ _ in record {
        once = λ c. grind (arith, cases_lt, times_same, times_one);
        begun = λ c some. grind (arith, cases_lt, times_same);
        answered = λ c a. omega (arith, ex.answered c a, counts c);
        real_time = all_pairs_push (λ first second. ¬ (IsOver es second first)) order call
            ex.real_time (λ k d within over. o.1 (over_ended _ _ _ over));
        leads = leads_push _ _ _ _ _ _ ex.leads step;
      }

  -- calls that wait are made after an order
  pub explains_run : (es : List Event) (slots : List (Option ℕ)) (old mid new : S)
      (order : List ℕ) (waiting : ℕ) (calls : List ℕ) (rest : ℕ)
      → IsTable es slots → Explains Step es old order mid → Leaves slots order waiting
      → Runs Step slots mid waiting calls new rest
      → Explains Step es old (order ++ calls) new × Leaves slots (order ++ calls) rest
  explains_run es slots old mid new order waiting [] rest table ex leaves run =
      grind (arith, append-nil)
  explains_run es slots old mid new order waiting (call ∷ calls) rest table ex leaves run =
      let made = explains_pushed es old mid run.2.0 order call (table.each run.0 call run.1.0)
      (omega (arith, leaves run.0 call run.1.0, run.1.1)) ex run.2.1 in
      rw (← append_assoc order (call ∷ []) calls)
      (explains_run es slots old run.2.0 new (order ++ call ∷ []) (cleared waiting run.0) calls rest
      table made (leaves_made Step _ _ _ _ _ table.few table.apart leaves run.1) run.2.2)

  -- an order in which no call begins with the last event explains those before it
  explains_less : (es : List Event) (e : Event) (old new : S) (order : List ℕ)
      → ((c : ℕ) → e ≡ Begin c → times c order ≡ 0) → Explains Step (es ++ e ∷ []) old order new
      → Explains Step es old order new
  explains_less es e old new order none ex = record {
    once = ex.once;
    begun = grind (arith, begins_cases);
    answered = λ c a. ex.answered c (answered_left _ _ _ a);
    real_time = λ i j d less within over. ex.real_time i j d less within (over_left _ _ _ _ over);
    leads = ex.leads;
  }

  -- a call that begins now and is not made: the order explains what was before
  pub explains_without : (es : List Event) (old new : S) (order : List ℕ) (call : ℕ)
      → Explains Step (es ++ Begin call ∷ []) old order new → times call order ≡ 0
      → Explains Step es old order new
  explains_without es old new order call ex none =
      explains_less _ _ _ _ _ (λ c is. let same : call ≡ c = cc in rw (← same) none) ex

  -- an order that explains the history with the end explains that without
  pub explains_open : (es : List Event) (e : Event) (old new : S) (order : List ℕ) (call : ℕ)
      → Ends e call → Explains Step (es ++ e ∷ []) old order new → Explains Step es old order new
  explains_open es e old new order call ends ex =
      explains_less _ _ _ _ _ (λ c is. absurd (begin_no_end _ _ (rw is at ends))) ex

  -- what stands behind a call that begins now has not ended
  pub behind_open : (es : List Event) (old new : S) (before after : List ℕ) (call c : ℕ)
      → Explains Step (es ++ Begin call ∷ []) old (before ++ call ∷ after) new
      → 0 < times c after → HasEnded es c → ⊥
  behind_open es old new before after call c ex some ended =
      all_pairs_behind (λ first second. ¬ (IsOver (es ++ Begin call ∷ []) second first)) before
      _ _ _ ex.real_time some (over_now _ _ _ ended)

  -- CUT. A call that begins now and is made: what was answered stands before it, and explains what
  -- was before.
  pub explains_front : (es : List Event) (old mid new : S) (before after : List ℕ) (call : ℕ)
      → IsSound es → begins call es ≡ 0
      → Explains Step (es ++ Begin call ∷ []) old (before ++ call ∷ after) new
      → Leads Step old before mid → Explains Step es old before mid
  explains_front es old mid new before after call s fresh ex leads =
      let order = before ++ call ∷ after in
      let counts : (c : ℕ) → times c order ≡ times c before + times c (call ∷ []) + times c after =
      λ c. omega (arith, times-append c before (call ∷ after), times-cons c call after) in
      let absent : times call before ≡ 0 =
      omega (arith, counts call, ex.once call, times_one call) in record {
        once = λ c. omega (arith, counts c, ex.once c);
        begun = λ c some. grind (arith, begins_begin, apart);
        answered = λ c a.
            let made : 0 < times c order = ex.answered c (answered_left _ _ _ a) in
            let begun : 0 < begins c es = s.begun c (answered_ended _ _ a) in
            let other : times c (call ∷ []) ≡ 0 =
            times_other _ _ (λ e. absurd (omega (arith, begun, rw e at fresh))) in
            elim (cases_lt 0 (times c before)) [
              | inl some ↦ some
              | inr none ↦
                  absurd (behind_open _ _ _ _ _ _ _ ex
                  (omega (arith, made, counts c, other, none)) (answered_ended _ _ a))
            ];
        real_time = λ i j d less within over.
            all_pairs_front (λ first second. ¬ (IsOver (es ++ Begin call ∷ []) second first))
            _ _ ex.real_time i j d less within (over_left _ _ _ _ over);
        leads = leads;
      }

  -- one event more: a call that begins is new, and one that was answered was made
  explains_more : (es : List Event) (e : Event) (old new : S) (order : List ℕ)
      → ((c : ℕ) → e ≡ Begin c → begins c es ≡ 0) → ((c : ℕ) → e ≡ End c → 0 < times c order)
      → Explains Step es old order new → Explains Step (es ++ e ∷ []) old order new
  explains_more es e old new order fresh made ex = record {
    once = ex.once;
    begun = λ c some. omega (arith, ex.begun c some, begins-append c es (e ∷ []));
    answered = λ c a. elim (answered_cases _ _ _ a) [
      | inl before ↦ ex.answered c before
      | inr is ↦ made c is
    ];
    real_time = λ i j d less within over.
        elim (over_cases _ _ _ _ over) [
          | inl before ↦ ex.real_time i j d less within before
          | inr is ↦ absurd (omega (
            arith,
            ex.begun (get_or order i d) (times_at order i d (omega arith)),
            fresh (get_or order i d) is,
          ))
        ];
    leads = ex.leads;
  }

  -- a call begins and waits
  pub explains_begin : (es : List Event) (old new : S) (order : List ℕ) (call : ℕ)
      → begins call es ≡ 0 → Explains Step es old order new
      → Explains Step (es ++ Begin call ∷ []) old order new
  explains_begin es old new order call fresh ex =
      explains_more _ _ _ _ _ (λ c is. let same : call ≡ c = cc in rw (← same) fresh)
      (λ c is. absurd (cc)) ex

  -- a call ends, and has been made if it was answered
  pub explains_end : (es : List Event) (e : Event) (old new : S) (order : List ℕ) (call : ℕ)
      → Ends e call → (e ≡ End call → 0 < times call order) → Explains Step es old order new
      → Explains Step (es ++ e ∷ []) old order new
  explains_end es e old new order call ends made ex =
      explains_more _ _ _ _ _ (λ c is. absurd (begin_no_end _ _ (rw is at ends))) (λ c is.
      let same : c ≡ call = ends_one _ _ _ (inl is) ends in
      rw same (made (rw same at is))) ex

-- a call of the first part is over when one of the second begins
over_across : (es fs : List Event) (c d : ℕ) → IsQuiet es → 0 < begins c es → 0 < begins d fs
    → IsOver (es ++ fs) c d
over_across es fs c d quiet first second =
    let a = quiet c first in
    let b = begins_stands _ _ second in
    let r = stands_right _ fs _ _ b.1 in (
      a.0,
      r.0,
      omega (arith, ends_within es a.0 c a.1, r.1),
      ends_left es fs a.0 c a.1,
      r.2,
    )

-- an order has first the calls of the first part, and then those of the second
pub cut_order : (es fs : List Event) (order : List ℕ) → IsQuiet es
    → ((c : ℕ) → 0 < times c order → 0 < begins c es + begins c fs)
    → AllPairs (λ first second. ¬ (IsOver (es ++ fs) second first)) order
    → (front : List ℕ) × (back : List ℕ) × (order ≡ front ++ back)
    × ((c : ℕ) → 0 < times c front → 0 < begins c es)
    × ((c : ℕ) → 0 < times c back → 0 < begins c fs)
cut_order es fs [] quiet begun all = grind (arith, times_none)
cut_order es fs (x ∷ order) quiet begun all =
    elim (cases_lt 0 (begins x es)) [
      | inl some ↦
          let r = cut_order es fs order quiet
          (λ c h. begun c (omega (arith, h, times-cons c x order)))
          (λ i j d less within. all (suc i) (suc j) d (omega arith) (omega arith)) in (
            x ∷ r.0,
            r.1,
            ap (λ (l : List ℕ). x ∷ l) r.2,
            λ c h. elim (cases_lt 0 (times c (x ∷ []))) [
              | inl here ↦ rw (← times_same _ _ here) some
              | inr not ↦ r.3 c (omega (arith, h, not, times-cons c x r.0))
            ],
            r.4,
          )
      | inr none ↦ (
        [],
        x ∷ order,
        refl,
        λ c h. absurd (omega (arith, h, times_none c)),
        λ c h. elim (cases_lt 0 (begins c es)) [
          | inr not ↦ omega (arith, not, begun c h)
          | inl early ↦ elim (cases_lt 0 (times c (x ∷ []))) [
            | inl here ↦ grind (arith, times_same)
            | inr not ↦
                let behind : 0 < times c order = omega (arith, h, not, times-cons c x order) in
                let late : 0 < begins x fs =
                omega (arith, none, begun x (times_at (x ∷ order) 0 0 (omega arith))) in
                absurd
                (all_pairs_behind (λ first second. ¬ (IsOver (es ++ fs) second first)) [] order x c
                all behind (over_across _ _ _ _ quiet early late))
          ]
        ],
      )
    ]

-- what was over in the whole when a call of the first part began was over there
pub over_in_left : (es fs : List Event) (c d : ℕ) → IsSound (es ++ fs) → 0 < begins d es
    → IsOver (es ++ fs) c d → IsOver es c d
over_in_left es fs c d whole some o =
    grind (arith, stands_either, ends_either, stands_within, stands_begins, begins-append)

pub over_in_right : (es fs : List Event) (c d : ℕ) → IsSound es → IsSound (es ++ fs)
    → 0 < begins c fs → 0 < begins d fs → IsOver (es ++ fs) c d → IsOver fs c d
over_in_right es fs c d first whole some late o =
    grind (arith, stands_either, stands_begins, begins-append, ends_either)

module _ {S : Type 0} (Step : S → ℕ → S → Type 0) where
  -- an order of the whole is one of the first part and one of the rest
  pub explains_split : (es fs : List Event) (old new : S) (order : List ℕ) → IsSound es
      → IsSound fs → IsSound (es ++ fs) → IsQuiet es → Explains Step (es ++ fs) old order new
      → (mid : S) × (front : List ℕ) × (back : List ℕ) × Explains Step es old front mid
      × Explains Step fs mid back new
  explains_split es fs old new order first second whole quiet ex =
      let P : ℕ → ℕ → Type 0 = λ before after. ¬ (IsOver (es ++ fs) after before) in
      let parts = cut_order es fs order quiet
      (λ c h. omega (arith, ex.begun c h, begins-append c es fs)) ex.real_time in
      let front = parts.0 in
      let back = parts.1 in
      let counts : (c : ℕ) → times c order ≡ times c front + times c back =
      λ c. ap (times c) parts.2 ∙ times-append c front back in
      let pairs : AllPairs P (front ++ back) = rw (← parts.2) ex.real_time in
      let leads = leads_split Step old new front back (rw (← parts.2) ex.leads) in (
        leads.0,
        front,
        back,
        record {
          once = λ c. omega (arith, counts c, ex.once c);
          begun = parts.3;
          answered = λ c a. grind (arith, cases_lt, answered_left, answered_ended, begins-append);
          real_time = λ i j d less within over. all_pairs_front P front back pairs i j d less within
              (over_left es fs (get_or front j d) (get_or front i d) over);
          leads = leads.1;
        },
        record {
          once = λ c. omega (arith, counts c, ex.once c);
          begun = parts.4;
          answered = λ c a. grind (arith, cases_lt, answered_right, answered_ended, begins-append);
          real_time = λ i j d less within over. all_pairs_back P front back pairs i j d less within
              (over_right es fs (get_or back j d) (get_or back i d) over);
          leads = leads.2;
        },
      )

  -- an order of the first part and one of the rest are one of the whole
  pub explains_join : (es fs : List Event) (old mid new : S) (front back : List ℕ) → IsSound es
      → IsSound (es ++ fs) → Explains Step es old front mid
      → Explains Step fs mid back new → Explains Step (es ++ fs) old (front ++ back) new
  explains_join es fs old mid new front back first whole x y =
      let counts : (c : ℕ) → times c (front ++ back) ≡ times c front + times c back =
      λ c. times-append c front back in record {
        once = λ c. grind (arith, cases_lt, begins-append);
        begun = λ c h. grind (arith, cases_lt, begins-append);
        answered = λ c a. grind (arith, stands_either);
        real_time = all_pairs_join (λ before after. ¬ (IsOver (es ++ fs) after before)) front back
            (λ i j d less within over. x.real_time i j d less within
            (over_in_left es fs (get_or front j d) (get_or front i d) whole
            (x.begun (get_or front i d) (times_at front i d (omega arith))) over))
            (λ i j d less within over. y.real_time i j d less within
            (over_in_right es fs (get_or back j d) (get_or back i d) first whole
            (y.begun (get_or back j d) (times_at back j d within))
            (y.begun (get_or back i d) (times_at back i d (omega arith))) over))
            (λ a b here there over.
            let is = over_in_left es fs b a whole (x.begun a here) over in
            absurd
            (omega (
              arith,
              first.begun b (is.0, is.3),
              y.begun b there,
              whole.once b,
              begins-append b es fs,
            )));
        leads = leads_join Step _ _ _ front back x.leads y.leads;
      }

  -- where the states are those that orders lead to, what comes next is judged from them
  pub cut_of : (es : List Event) (olds states : List S) → IsSound es → IsQuiet es
      → ((s : S) → Contains states s ↔ IsLedTo Step es olds s) → IsCut Step olds es states
  cut_of es olds states sound quiet led = record {
    quiet = quiet;
    led = led;
    same = λ rest after whole. (
      λ x.
          let s = explains_split es rest x.0 x.2 x.1 sound after whole quiet x.4 in
          (s.0, s.2, x.2, (led s.0).1 (x.0, s.1, x.3, s.3), s.4),
      λ x.
          let from = (led x.0).0 x.3 in (
            from.0,
            from.1 ++ x.1,
            x.2,
            from.2,
            explains_join es rest from.0 x.0 x.2 from.1 x.1 sound whole from.3 x.4,
          ),
    );
  }

  -- one part after the other
  pub cut_then : (es fs : List Event) (olds mids states : List S) → IsSound es → IsSound fs
      → IsSound (es ++ fs) → IsCut Step olds es mids → IsCut Step mids fs states
      → IsCut Step olds (es ++ fs) states
  cut_then es fs olds mids states first second whole a b =
      cut_of (es ++ fs) olds states whole (quiet_both es fs a.quiet b.quiet)
      (λ s. (
        λ has.
            let back = (b.led s).0 has in
            let front = (a.led back.0).0 back.2 in (
              front.0,
              front.1 ++ back.1,
              front.2,
              explains_join es fs front.0 back.0 s front.1 back.1 first whole front.3 back.3,
            ),
        λ to.
            let parts = explains_split es fs to.0 s to.1 first second whole a.quiet to.3 in
            let mid = (a.led parts.0).1 (to.0, parts.1, to.2, parts.3) in
            (b.led s).1 (parts.0, parts.2, mid, parts.4),
      ))

-- Of a call that has begun, each step is a step of the others too, between what is seen of states.
module _ {S T : Type 0} (Step : S → ℕ → S → Type 0) (Other : T → ℕ → T → Type 0) (seen : S → T)
    (events : List Event)
    (follows : (old : S) (call : ℕ) (new : S) → 0 < begins call events → Step old call new
    → Other (seen old) call (seen new))
  where
    leads_seen : (order : List ℕ) (old new : S)
        → ((call : ℕ) → 0 < times call order → 0 < begins call events)
        → Leads Step old order new → Leads Other (seen old) order (seen new)
    leads_seen [] old new begun leads = ap seen leads
    leads_seen (call ∷ order) old new begun leads = (
      seen leads.0,
      follows old call leads.0
          (begun call (omega (arith, times-cons call call order, times_one call))) leads.1,
      leads_seen order leads.0 new
          (λ c some. begun c (omega (arith, some, times-cons c call order))) leads.2,
    )

    pub explained_seen : (olds : List S) → IsExplained Step events olds
        → IsExplained Other events (map seen olds)
    explained_seen olds x = search (arith, contains_map_of, leads_seen)
