-- What is reported of a reply that is refused, and of configurations. A weak listing can always
-- start, so none is refused.
use Rattle.history_logs.proofs.Words.{All-push, AllZip, Answers, AreLines, AreLinesTo, AreNeededLines, Begin, Bool, Contains, Contains-append_left, Contains-push, Crash, End, Event, HasEventLines, HasSlot, IsBusyFrom, IsCommandOf, IsExplained, IsLine, IsLineAt, IsOpen, IsOrderly, IsRefusedIn, IsReported, IsSaidIn, IsStop, IsTrue, IsWindowOf, Judged, Line, List, None, Option, Part, Refusal, Service, Some, StandsAt, StepOf, Watched, Window, [], all_pairs_push, ap, arith, begins, begins-append, cases_lt, drop, eqb, false, get_or, get_or_from_slice_get, inl, inr, length, length-append, length-take-le, line_text, listed, nat_cmp, news, one_more, refl, same_Some, slice_get, slice_get_read, slice_get_within, starts, stops, subst, sym, take, take-append-drop, take_more, times_one, ℕ, ◌++◌, ◌+◌, ◌<◌, ◌∙◌, ◌∷◌, ◌≡◌, ◌≤◌, ◌⊎◌}
use Rattle.histories.specs.Histories.{Explains, IsOver, times}
use Rattle.histories.proofs.Lists.{times-append, times_same}
use Rattle.histories.proofs.Events.{over_ended}
use Rattle.histories.proofs.Explaining.{explains_end}
use Rattle.histories.proofs.Running.{bit_cases, leads_push, slot_once, slot_within}
use Rattle.histories.specs.declared.window.Stop.TheVariants as stop
use Rattle.service_conformance.specs.Judged.{AreJudgedReplies, JudgedStep, words_of}
use Rattle.service_conformance.specs.Judged.Judged.{call}
use Rattle.service_conformance.specs.Looks.{look_of, looks_after}
use Rattle.std.proofs.Common.{IsPermutation}
use Rattle.std.specs.Int.{bit_at}
use Rattle.std.specs.List.{dedup}
use Rattle.std.specs.List.Sorted.{IsSorted}
use Rattle.std.proofs.lemmas.List.Filters.{All-dedup}
use Rattle.std.proofs.lemmas.List.Kept.{Contains-dedup_nat}
use Rattle.std.proofs.lemmas.List.Sorted.{All-permutation, Contains-permutation}
use Rattle.std.proofs.lemmas.Map.Keys.{IsStrictlyIncreasing-dedup}
use Rattle.std.proofs.lemmas.Slice.Zip.{all_zipped_more}
use Rattle.histories.specs.declared.front.Config.{Config}
use Rattle.history_logs.specs.Judging.{AreBelow, IsLineMade}
use Rattle.history_logs.specs.declared.logs.verdict.Configuration.{Configuration}

module _ {S : Type 0} (Step : S → ℕ → S → Type 0) (es : List Event) (olds : List S)
    (old mid new : S) (from : Contains olds old) (order : List ℕ) (call : ℕ)
    (ex : Explains Step es old order mid) (live : IsOpen es call) (step : Step mid call new) where
  -- a call that is open, and was not made, is made after an order
  made_after : times call order ≡ 0 → Explains Step es old (order ++ call ∷ []) new
  made_after fresh =
      let counts : (c : ℕ) → times c (order ++ call ∷ []) ≡ times c order + times c (call ∷ []) =
      λ c. times-append c order (call ∷ []) in
      record {
        once = λ c.
            elim (cases_lt 0 (times c (call ∷ []))) [
              | inl here ↦
                  rw (← times_same c call here) (omega (arith, counts call, fresh, times_one call))
              | inr away ↦ omega (arith, counts c, ex.once c)
            ];
        begun = λ c some.
            elim (cases_lt 0 (times c (call ∷ []))) [
              | inl here ↦ rw (← times_same c call here) live.0
              | inr away ↦ ex.begun c (omega (arith, counts c))
            ];
        answered = λ c a. omega (arith, ex.answered c a, counts c);
        real_time = all_pairs_push (λ first second. ¬ (IsOver es second first)) order call
            ex.real_time (λ k d within over. live.1 (over_ended es call (get_or order k d) over));
        leads = leads_push Step old mid new order call ex.leads step;
      }

  -- so it may be over then
  over_after : IsExplained Step (es ++ End call ∷ []) olds
  over_after =
      elim (cases_lt 0 (times call order)) [
        | inl made ↦ (
          old,
          order,
          mid,
          from,
          explains_end Step es (End call) old mid order call (inl refl) (λ _. made) ex,
        )
        | inr none ↦
            let ex' = made_after (omega arith) in (
              old,
              order ++ call ∷ [],
              new,
              from,
              explains_end Step es (End call) old new (order ++ call ∷ []) call (inl refl)
                  (λ _. omega (arith, times-append call order (call ∷ []), times_one call)) ex',
            )
      ]

-- a weak listing can start in each state
start_leads : (number : ℕ) (p : Part) (reply : Option (List ℕ)) (w : Watched)
    → (new : Watched) × JudgedStep number (starts p reply) w new
start_leads number p None w = (w, refl)
start_leads number p (Some ids) w = (
  record w { looks = w.looks ++ looks_after w.service (look_of number p ids w.service ∷ []) },
  refl,
)

-- no order is refused where one starts
never : (s : Service) (index number : ℕ) (p : Part) (reply : Option (List ℕ)) → IsOrderly s
    → IsStop (StepOf s) (news s) s.events index stop.Refused
    → StandsAt s.events index (End number)
    → slice_get s.calls number ≡ Some (starts p reply) → ⊥
never s index number p reply o refused ended called =
    let es = take index s.events in
    let x = refused.before in
    let start = start_leads number p reply x.2 in
    let step : StepOf s x.2 number start.0 =
    (starts p reply, (number, omega arith, called), start.1) in
    let live : IsOpen es number = o.history index (End number) ended in
    refused.at.1
    (rw (
      one_more s.events index (End number) refused.within,
      get_or_from_slice_get s.events index (End number) (End number) ended,
    )
    (over_after (StepOf s) es (news s) x.0 x.2 start.0 x.3 x.1 number x.4 live step))

-- where a reply is refused, its call has words, and they stand in the line
pub says_of : (bytes : List ℕ) (s : Service) (index number k : ℕ) (c : Judged) → IsOrderly s
    → IsStop (StepOf s) (news s) s.events index stop.Refused
    → StandsAt s.events index (End number) → slice_get s.calls number ≡ Some c
    → IsSaidIn bytes c k
    → (words : List ℕ) × (words_of c ≡ Some words)
    × ((l : Line) × IsLine l × Answers l words × IsLineAt bytes k (line_text l))
says_of bytes s index number k (call c) o refused ended called said = said
says_of bytes s index number k (starts p reply) o refused ended called said =
    absurd (never s index number p reply o refused ended called)
says_of bytes s index number k (stops start reply) o refused ended called said = said

module _ (s : Service) (o : IsOrderly s) where
  -- the calls that begin are those of the service
  begin_within : (number : ℕ) → 0 < begins number s.events → number < length s.calls
  begin_within number h = omega (arith, o.numbered number h)

  module _ (index : ℕ) (w : Window Watched) (within : index < length s.events)
      (is : IsWindowOf (StepOf s) (news s) (take index s.events) w) where
    pub window_below : AreBelow w.front.slots.items (length s.begins)
    window_below slot number has =
        let live : 0 < begins number is.inside = (is.front.table.each slot number has).0 in
        let whole = begins-append number is.past is.inside in
        let split = ap (begins number) is.split in
        let all = begins-append number (take index s.events) (drop index s.events) in
        let same = ap (begins number) (take-append-drop index s.events) in
        omega (arith, begin_within number (omega arith))

    pub window_within : w.begin < length s.event_lines
    window_within =
        omega (
          arith,
          length-append is.past is.inside,
          ap length is.split,
          length-take-le index s.events (omega arith),
        )

    module _ (bytes : List ℕ) (lines : HasEventLines bytes s) (call line : ℕ)
        (ended : StandsAt s.events index (End call)) (at : slice_get s.event_lines index ≡ Some
        line)
      where
        pub call_within : call < length s.calls
        call_within =
            let a = lines.answers index call line ended at in
            slice_get_within s.calls call a.0 a.1

        pub begun_within : call < length s.begins
        begun_within = omega (arith, call_within, o.all.begins)

        pub refused_in : (begin : ℕ) → slice_get s.begins call ≡ Some begin
            → (reported : Refusal) → reported.reply ≡ line
            → ((seen : Line) (said : List ℕ) → IsLine seen → Answers seen said
            → IsLineAt bytes line (line_text seen) → reported.words.items ≡ said)
            → ((k : ℕ) (text : List ℕ) → IsCommandOf bytes begin k text
            → (reported.call ≡ k) × (reported.command.items ≡ text))
            → IsStop (StepOf s) (news s) s.events index stop.Refused
            → IsBusyFrom w.begin (take index s.events)
            → slice_get s.event_lines w.begin ≡ Some reported.window
            → AreNeededLines s w.begin index call reported.needed.items
            → ((c : Judged) → slice_get s.calls call ≡ Some c
            → AllZip (IsReported s c w.front.slots.items) w.front.configs.items
            reported.configurations.items)
            → IsRefusedIn bytes s line reported
        refused_in begin begun reported own said found stop_is latest opened needed tells =
            let a = lines.answers index call line ended at in
            let b = says_of bytes s index call line a.0 o stop_is ended a.1 a.2 in
            let has = rw (get_or_from_slice_get s.begins call begin 0 begun)
            at (lines.begun call 0 begun_within) in
            let its = found has.0 has.1 has.2 in
            record {
              index = index;
              stops = record { stops = stop_is; there = at };
              line = own;
              report = record {
                number = call;
                ended = ended;
                call = a.0;
                called = a.1;
                words = b.1 ∙ ap Some (sym (said b.2.0 b.0 b.2.1 b.2.2 b.2.3));
                begin = begin;
                begun = begun;
                command = rw (its.0, its.1) has.2;
                window = w;
                is_window = is;
                latest = latest;
                begins = opened;
                needed = needed;
                configurations = tells a.0 a.1;
              };
            }

-- an event that ends a call is no other
pub no_other : (es events : List Event) (index : ℕ) (d : Event) → es ≡ events
    → (call : ℕ) × StandsAt events index (End call)
    → ((x : ℕ) × (get_or es index d ≡ Begin x)) ⊎ ((x : ℕ) × (get_or es index d ≡ Crash x)) → ⊥
no_other es events index d same ended other =
    let is : get_or es index d ≡ End ended.0 =
    ap (λ (l : List Event). get_or l index d) same
    ∙ get_or_from_slice_get events index (End ended.0) d ended.1 in
    elim other [
      | inl b ↦ let other_event = sym b.1 ∙ is in absurd (cc)
      | inr b ↦ let other_event = sym b.1 ∙ is in absurd (cc)
    ]

-- a slot that does not wait
pub not_waiting : (waiting slot : ℕ) (r : Bool) → (bit_at waiting slot ≡ 1 → IsTrue r)
    → r ≡ false → bit_at waiting slot ≡ 0
not_waiting waiting slot r says off =
    elim (bit_cases waiting slot) as (λ _. bit_at waiting slot ≡ 0) [
      | inl a ↦ a
      | inr b ↦ let t = says b in absurd (cc)
    ]

module _ (begins : List ℕ) (slots : List (Option ℕ)) (waiting : ℕ) where
  -- a slot whose call was made
  pub lines_more : (limit number k : ℕ) (lines : List ℕ)
      → AreLinesTo begins slots waiting limit lines → HasSlot slots limit number
      → bit_at waiting limit ≡ 0 → slice_get begins number ≡ Some k
      → AreLinesTo begins slots waiting (limit + 1) (lines ++ k ∷ [])
  lines_more limit number k lines l has made at = record {
    made = All-push (IsLineMade begins slots waiting) lines k l.made
        (number, (limit, has, made), at);
    each = λ slot other line h its was there.
        elim (cases_lt slot limit) as (λ _. Contains (lines ++ k ∷ []) line) [
          | inl before ↦
              Contains-append_left lines (k ∷ []) line (l.each slot other line before its was there)
          | inr late ↦
              let same : slot ≡ limit = omega arith in
              let one : number ≡ other =
              slot_once slots limit number other has
              (subst (λ s. HasSlot slots s other) same its) in
              let found : slice_get begins number ≡ Some line =
              subst (λ n. slice_get begins n ≡ Some line) (sym one) there in
              subst (Contains (lines ++ k ∷ [])) (same_Some k line (sym at ∙ found))
              (Contains-push lines k)
        ];
  }

  -- all slots, where the lines are sorted, and each is kept once
  pub lines_all : (limit : ℕ) (lines sorted kept : List ℕ) → length slots ≤ limit
      → AreLinesTo begins slots waiting limit lines → IsPermutation lines sorted
      → IsSorted nat_cmp sorted → kept ≡ dedup eqb sorted → AreLines begins slots waiting kept
  lines_all limit lines sorted kept h l same ordered is = rw is (record {
    made = All-dedup eqb (IsLineMade begins slots waiting) sorted
        (All-permutation (IsLineMade begins slots waiting) lines sorted same l.made);
    each = λ number k made at.
        Contains-dedup_nat sorted k (Contains-permutation lines sorted k same
        (l.each made.0 number k
        (omega (arith, slot_within slots made.0 number made.1)) made.1 made.2 at));
    rising = IsStrictlyIncreasing-dedup sorted ordered;
  })

pub zip_next : {A B : Type 0} (R : A → B → Type 0) (xs : List A) (i : ℕ) (d : A) (ys more : List B)
    (y : B) → AllZip R (take i xs) ys → i < length xs → d ≡ get_or xs i d → R d y
    → more ≡ ys ++ y ∷ [] → AllZip R (take (i + 1) xs) more
zip_next {A} R xs i d ys more y all h is r new =
    let one : take (i + 1) xs ≡ take i xs ++ d ∷ [] =
    take_more xs i d h ∙ ap (λ (e : A). take i xs ++ e ∷ []) (sym is) in
    rw (new, one) (all_zipped_more R (take i xs) ys d y all r)

-- what is reported of a configuration
pub reported_of : (s : Service) (number : ℕ) (x : Judged) (slots : List (Option ℕ))
    (config : Config Watched) (reported : Configuration) → number < length s.calls
    → x ≡ get_or s.calls number x → AreLines s.begins slots config.waiting reported.made.items
    → AreJudgedReplies config.state x reported.possible
    → reported.nodes.items ≡ listed config.state.service.nodes.registry
    → reported.ports.items
    ≡ listed config.state.service.ports.first.registry
    ++ listed config.state.service.ports.second.registry
    → (c : Judged) × (slice_get s.calls number ≡ Some c) × IsReported s c slots config reported
reported_of s number x slots config reported h is lines possible nodes ports = (
  x,
  slice_get_read s.calls (length s.calls) number x refl h is,
  record {
    made = lines.made;
    each = lines.each;
    rising = lines.rising;
    possible = possible;
    nodes = nodes;
    ports = ports;
  },
)

-- one configuration more
pub reported_more : (s : Service) (number : ℕ) (x : Judged) (slots : List (Option ℕ))
    (configs : List (Config Watched)) (i : ℕ) (d : Config Watched)
    (reported news : List Configuration) (one : Configuration)
    → AllZip (IsReported s x slots) (take i configs) reported → i < length configs
    → d ≡ get_or configs i d
    → (c : Judged) × (slice_get s.calls number ≡ Some c) × IsReported s c slots d one
    → slice_get s.calls number ≡ Some x → news ≡ reported ++ one ∷ []
    → AllZip (IsReported s x slots) (take (i + 1) configs) news
reported_more s number x slots configs i d reported news one all h is t at new =
    zip_next (IsReported s x slots) configs i d reported news one all h is
    (rw (same_Some t.0 x (sym t.1 ∙ at)) at t.2) new
