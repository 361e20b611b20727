-- The calls that a refused reply needs.
use Rattle.history_logs.proofs.Words.{AreNeededLines, Begin, Bool, End, Event, IsExplained, IsHistory, IsOrderly, IsStop, IsWindowOf, Judged, List, Service, StandsAt, StepOf, Watched, Window, WindowStep, [], ap, append-nil, arith, begins, cases_Bool, cases_order, drop, events_of, false, flat_map, flat_map-append, get_or, get_or_from_slice_get, get_or_past, get_or_push, inl, inr, length, length-append, length-take-le, length_push, line_begun, news, one_more, refl, same_Some, slice_get_read, stands_begins, stands_take, sym, take, take-append-drop, take-append_seam, take-take, take_all, take_more, true, ℕ, ◌++◌, ◌+◌, ◌-◌, ◌<◌, ◌∙◌, ◌∷◌, ◌≡◌, ◌≤◌}
use Rattle.std.proofs.lemmas.List.{drop-append-le, length-drop, get_or_append_left}
use Rattle.std.proofs.lemmas.List.Elements.{filter-append}
use Rattle.histories.proofs.Events.{stands_right}
use Rattle.histories.specs.Frontier.{IsIdle}
use Rattle.histories.specs.declared.window.Stop.TheVariants as stop
use Rattle.histories.specs.Windows.{AreIdle, AreNeeded, HasCut, call_of}
use Rattle.histories.proofs.Leaving.{explained_of}
use Rattle.histories.proofs.Verdicts.{formed_history, formed_inside, history_front, sound_formed}
use Rattle.service_conformance.specs.Judged.{IsIdleJudged}
use Rattle.history_logs.specs.Judging.{BeginBelow}
use Rattle.history_logs.specs.Logs.{lines_begun}

-- a call whose reply says that nothing changed, by its number
pub idle_call : (calls : List Judged) (number : ℕ) (x : Judged) → number < length calls
    → x ≡ get_or calls number x → ((n : ℕ) → IsIdleJudged n x)
    → IsIdle (WindowStep 0 calls) number
idle_call calls number x h is none old new step =
    let has = step.1 in
    let at : has.0 ≡ number = omega (arith, has.1) in
    let there = slice_get_read calls (length calls) number x refl h is in
    let same = same_Some step.0 x (sym has.2 ∙ rw at there) in
    none number old new (rw same at step.2)

-- which of the first calls change nothing
pub record IdleTo (calls : List Judged) (count : ℕ) (said : List Bool) : Type 0 where
  pub long : length said ≡ count
  pub idle : AreIdle (WindowStep 0 calls) said

pub idle_none : (calls : List Judged) → IdleTo calls 0 []
idle_none calls = record { long = refl; idle = λ call is_so. absurd (cc) }

pub idle_push : (calls : List Judged) (count : ℕ) (idle news : List Bool) (b : Bool)
    → IdleTo calls count idle → (b ≡ true → IsIdle (WindowStep 0 calls) count)
    → news ≡ idle ++ b ∷ [] → IdleTo calls (count + 1) news
idle_push calls count idle news b t more new = record {
  long = omega (arith, ap length new, length_push idle b);
  idle = λ call is_so.
      let said : get_or (idle ++ b ∷ []) call false ≡ true =
      ap (λ (l : List Bool). get_or l call false) (sym new) ∙ is_so in
      elim (cases_order call count) [
        | inl same ↦ rw same (more (sym (get_or_push idle b false call (omega arith)) ∙ said))
        | inr (inl below) ↦
            t.idle call (sym (get_or_append_left idle (b ∷ []) false call (omega arith)) ∙ said)
        | inr (inr above) ↦
            let past : get_or (idle ++ b ∷ []) call false ≡ false =
            get_or_past (idle ++ b ∷ []) call false (omega (arith, length_push idle b)) in
            absurd (cc)
      ];
}

-- the lines of an event that begins a call that is left out
pub line_left : (begins lines : List ℕ) (kept : ℕ → Bool) (call : ℕ) → kept call ≡ false
    → lines ≡ lines ++ flat_map (line_begun begins) (events_of kept (Begin call ∷ []))
line_left begins lines kept call f = rw f (sym (append-nil lines))

-- the lines of one event more
pub lines_more : (begins : List ℕ) (kept : ℕ → Bool) (es : List Event) (i : ℕ) (d : Event)
    (lines news : List ℕ) → i < length es
    → lines ≡ flat_map (line_begun begins) (events_of kept (take i es))
    → news ≡ lines ++ flat_map (line_begun begins) (events_of kept (get_or es i d ∷ []))
    → news ≡ flat_map (line_begun begins) (events_of kept (take (i + 1) es))
lines_more begins kept es i d lines news h is new =
    let f = line_begun begins in
    let e = get_or es i d in
    let one : events_of kept (take (i + 1) es)
    ≡ events_of kept (take i es) ++ events_of kept (e ∷ []) =
    ap (events_of kept) (take_more es i d h)
    ∙ filter-append (λ e. kept (call_of e)) (take i es) (e ∷ []) in
    new
    ∙ (ap (λ (l : List ℕ). l ++ flat_map f (events_of kept (e ∷ []))) is
    ∙ sym (ap (flat_map f) one
    ∙ flat_map-append f (events_of kept (take i es)) (events_of kept (e ∷ []))))

-- what stands behind the first events stands in all of them
stands_dropped : (es : List Event) (k p : ℕ) (e : Event) → StandsAt (drop k es) p e
    → (q : ℕ) × StandsAt es q e
stands_dropped es k p e at =
    let r = stands_right (take k es) (drop k es) p e at in (r.0, rw take-append-drop at r.2)

module _ {S : Type 0} (Step : S → ℕ → S → Type 0) (olds : List S) (past window : List Event)
    (history : IsHistory (past ++ window)) (c : ℕ) (kept : ℕ → Bool) where
  -- the call whose answer is refused is needed
  pub keeps_last : IsExplained Step (past ++ window) olds
      → AreNeeded Step olds past (window ++ End c ∷ []) kept → kept c ≡ true
  keeps_last x n =
      elim (cases_Bool (kept c)) [
        | inl t ↦ t
        | inr f ↦
            let formed = formed_inside past window history n.cut.quiet in
            let inside : IsExplained Step window n.states =
            (n.cut.same window (sound_formed window formed)
            (sound_formed (past ++ window) (formed_history (past ++ window) history))).0 x in
            let rest : events_of kept (window ++ End c ∷ []) ≡ events_of kept window =
            filter-append (λ e. kept (call_of e)) window (End c ∷ [])
            ∙ rw f (append-nil (events_of kept window)) in
            absurd
            (n.rest.refused
            (rw rest (explained_of kept Step n.rest.others window n.states inside)))
      ]

module _ (s : Service) (o : IsOrderly s) (begin index : ℕ) (within : begin ≤ index) where
  abbrev upto : List Event
  upto = take (index + 1) s.events

  -- the events from the begin of the window on
  abbrev window : List Event
  window = take (length upto - begin) (drop begin upto)

  past_is : take begin upto ≡ take begin s.events
  past_is = take-take begin (index + 1) s.events (omega arith)

  window_is : window ≡ drop begin upto
  window_is =
      take_all (length upto - begin) (drop begin upto) (omega (arith, length-drop begin upto))

  parts : take begin upto ++ window ≡ upto
  parts = rw window_is (take-append-drop begin upto)

  pub window_history : IsHistory (take begin upto ++ window)
  window_history = rw parts (history_front s.events (index + 1) o.history)

  pub window_cut : HasCut (StepOf s) (news s) (take begin s.events)
      → HasCut (StepOf s) (news s) (take begin upto)
  window_cut cut = rw past_is cut

  pub window_begins : BeginBelow window (length s.begins)
  window_begins p call at =
      let there = stands_dropped upto begin p (Begin call) (rw window_is at at) in
      let whole = (stands_take s.events (index + 1) there.0 (Begin call) there.1).0 in
      omega (arith, o.numbered call (stands_begins call s.events there.0 whole))

  module _ (stops : IsStop (StepOf s) (news s) s.events index stop.Refused) (refused : ℕ)
      (ended : StandsAt s.events index (End refused)) where
    pub window_refused : ¬ (IsExplained (StepOf s) (take begin upto ++ window) (news s))
    window_refused = rw parts stops.at.1

    window_last : window ≡ drop begin (take index s.events) ++ End refused ∷ []
    window_last =
        let there : get_or s.events index (End refused) ≡ End refused =
        get_or_from_slice_get s.events index (End refused) (End refused) ended in
        let long : length (take index s.events) ≡ index =
        length-take-le index s.events (omega arith) in
        rw (window_is, one_more s.events index (End refused) stops.within, there)
        (drop-append-le begin (take index s.events) (End refused ∷ []) (omega (arith, long)))

    before : take begin s.events ++ drop begin (take index s.events) ≡ take index s.events
    before =
        rw (← take-take begin index s.events within) (take-append-drop begin (take index s.events))

    -- what is reported of the calls that are left
    pub window_lines : (kept : ℕ → Bool) (lines : List ℕ)
        → AreNeeded (StepOf s) (news s) (take begin upto) window kept
        → lines ≡ lines_begun s.begins (events_of kept window)
        → AreNeededLines s begin index refused lines
    window_lines kept lines needed is =
        let n = rw past_is at needed in
        let history : IsHistory (take begin s.events ++ drop begin (take index s.events)) =
        rw before (history_front s.events index o.history) in
        record {
          kept = kept;
          needed = rw window_is at n;
          is_kept = keeps_last (StepOf s) (news s) (take begin s.events)
              (drop begin (take index s.events)) history refused kept (rw before stops.before)
              (rw window_last at n);
          begin_in = is
              ∙ ap (λ (l : List Event). lines_begun s.begins (events_of kept l)) window_is;
        }

-- the window of a reply that is refused
module _ (s : Service) (index : ℕ) (w : Window Watched) (within : index < length s.events)
    (is : IsWindowOf (StepOf s) (news s) (take index s.events) w) where
  pub begin_within : w.begin ≤ index
  begin_within =
      omega (
        arith,
        ap length is.split,
        length-append is.past is.inside,
        length-take-le index s.events (omega arith),
      )

  pub begin_cut : HasCut (StepOf s) (news s) (take w.begin s.events)
  begin_cut =
      let past : take w.begin s.events ≡ is.past =
      rw (← take-take w.begin index s.events begin_within, is.split, is.begins)
      (take-append_seam is.past is.inside) in
      (is.states, rw past is.cut)
