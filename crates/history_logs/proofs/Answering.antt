-- Calls that are answered, and calls of which the first ones are forgotten.
use Rattle.history_logs.proofs.Words.{End, Event, Handle, HasHandles, Judged, List, NamedCommand, None, Option, SeenReply, Service, Some, Watched, WindowStep, [], added_by, ap, arith, called, calls_answered, calls_shown, changed, drop, forgetting, forgotten, get_or, get_or_past, given_by, given_in, judged_answered, length, length-append, length-replicate, length-take-le, numbered, option_and_then, refl, replicate, role_added, shown, slice_get, slice_get_read, slice_set, start_of, stopped, suc, sym, take, take-append-drop, with_alone, with_end, with_over, zero, ℕ, ◌++◌, ◌+◌, ◌-◌, ◌<◌, ◌↔◌, ◌∙◌, ◌∷◌, ◌≡◌, ◌≤◌}
use Rattle.std.proofs.Math.Seq.{set-append_seam, drop-append-add}
use Rattle.history_logs.specs.Seen.{with_begun, calls_shown_from}
use Rattle.std.proofs.Common.{set}
use Rattle.history_logs.proofs.AtIndex.{get_last}
use Rattle.history_logs.proofs.Orderly.{length_changed}

-- a command is no weak listing that stops
pub called_stops : (s : Service) (c : NamedCommand) → stopped (called s c) ≡ None
called_stops s (numbered c) = refl
called_stops s _ = refl

changed_last : (f : Judged → Judged) (calls : List Judged) (c : Judged)
    → changed f (calls ++ c ∷ []) (length calls) ≡ calls ++ f c ∷ []
changed_last f [] c = refl
changed_last f (x ∷ calls) c = ap (λ (l : List Judged). x ∷ l) (changed_last f calls c)

module _ (s : Service) (c : Judged) (r : SeenReply) (k : ℕ) (h : HasHandles s)
    (none : stopped c ≡ None)
  where
    calls_alone : calls_answered (s.calls ++ c ∷ []) (length s.calls) r
        ≡ s.calls ++ judged_answered c r ∷ []
    calls_alone =
        ap (λ (o : Option ℕ). changed (λ x. judged_answered x r)
        (calls_shown (s.calls ++ c ∷ []) o r) (length s.calls))
        (ap (option_and_then stopped) (get_last s.calls c (length s.calls) refl) ∙ none)
        ∙ changed_last (λ x. judged_answered x r) s.calls c

    given_alone : slice_set (s.given ++ None ∷ []) (length s.calls)
        (given_in s.line (added_by (slice_get (s.calls ++ c ∷ []) (length s.calls))) r)
        ≡ s.given ++ given_in s.line (role_added c) r ∷ []
    given_alone =
        rw (get_last s.calls c (length s.calls) refl, ← h.given)
        (set-append_seam s.given None [] (given_in s.line (role_added c) r))

    alone_is : (made : Judged) (gives : Option Handle) → made ≡ judged_answered c r
        → gives ≡ given_in s.line (role_added c) r
        → with_over (with_begun s made gives k) (length s.calls) k ≡ with_alone s c r k
    alone_is made gives seen is = rw (seen, is, calls_alone, given_alone) refl

    -- a call that begins and is answered in one line
    pub alone_made : (mid new : Service) (made : Judged) (gives : Option Handle) (number : ℕ)
        → made ≡ judged_answered c r → gives ≡ given_in s.line (role_added c) r
        → mid ≡ with_begun s made gives k → number ≡ length s.calls → new ≡ with_over mid number k
        → new ≡ with_alone s c r k
    alone_made mid new made gives number seen is begun same over =
        over ∙ (ap (λ (x : Service). with_over x number k) begun
        ∙ (ap (λ n. with_over (with_begun s made gives k) n k) same
        ∙ alone_is made gives seen is))

pub get_forgotten : {X : Type 0} (first : ℕ) (d : X) (xs : List X) (n : ℕ) → first ≤ n
    → slice_get (replicate first d ++ drop first xs) n ≡ slice_get xs n
get_forgotten zero d [] n h = refl
get_forgotten zero d (x ∷ xs) n h = refl
get_forgotten (suc first) d xs zero h = absurd (omega arith)
get_forgotten (suc first) d [] (suc n) h = none first n (omega arith)
  where
    none : (k m : ℕ) → k ≤ m → slice_get (replicate k d ++ []) m ≡ None
    none zero m h = refl
    none (suc k) zero h = absurd (omega arith)
    none (suc k) (suc m) h = none k m (omega arith)
get_forgotten (suc first) d (x ∷ xs) (suc n) h = get_forgotten first d xs n (omega arith)

pub length_forgotten : {X : Type 0} (first : ℕ) (d : X) (xs : List X) → first ≤ length xs
    → length (replicate first d ++ drop first xs) ≡ length xs
length_forgotten first d xs h =
    omega (
      arith,
      length-append (replicate first d) (drop first xs),
      length-replicate first d,
      length-append (take first xs) (drop first xs),
      ap length (take-append-drop first xs),
      length-take-le first xs h,
    )

-- calls that are kept agree with those of the service
pub get_kept : (first : ℕ) (calls : List Judged) (n : ℕ) → first ≤ n
    → slice_get (replicate first forgotten ++ calls) n ≡ slice_get calls (n - first)
get_kept zero calls n h =
    let same : n - 0 ≡ n = omega arith in
    ap (slice_get calls) (sym same)
get_kept (suc first) calls zero h = absurd (omega arith)
get_kept (suc first) calls (suc n) h =
    let same : suc n - suc first ≡ n - first = omega arith in
    get_kept first calls n (omega arith) ∙ ap (slice_get calls) (sym same)

pub step_same : (first : ℕ) (calls final : List Judged) (n : ℕ) → first ≤ n
    → slice_get (replicate first forgotten ++ calls) n ≡ slice_get final n
    → (old new : Watched) → WindowStep first calls old n new ↔ WindowStep 0 final old n new
step_same first calls final n h same old new =
    let is = sym (get_kept first calls n h) ∙ same in (
      λ w.
          let at : w.1.0 ≡ n - first = omega (arith, w.1.1) in
          let zero_at : n ≡ 0 + n = omega arith in (
            w.0,
            (n, zero_at, sym is ∙ (ap (slice_get calls) (sym at) ∙ w.1.2)),
            w.2,
          ),
      λ w.
          let at : w.1.0 ≡ n = omega (arith, w.1.1) in
          let first_at : n ≡ first + (n - first) = omega arith in (
            w.0,
            (n - first, first_at, is ∙ (ap (slice_get final) (sym at) ∙ w.1.2)),
            w.2,
          ),
    )

pub changed_at : (f : Judged → Judged) (calls : List Judged) (number : ℕ) (c n : Judged)
    → c ≡ get_or calls number c → n ≡ f c → set calls number n ≡ changed f calls number
changed_at f [] number c n is new = refl
changed_at f (x ∷ calls) zero c n is new = ap (λ (y : Judged). y ∷ calls) (new ∙ ap f is)
changed_at f (x ∷ calls) (suc number) c n is new =
    ap (λ (l : List Judged). x ∷ l) (changed_at f calls number c n is new)

-- the number with which a weak listing began is kept in the call
pub start_at : (calls : List Judged) (number : ℕ) (c : Judged) → number < length calls
    → c ≡ get_or calls number c → start_of calls number ≡ stopped c
start_at calls number c h is =
    ap (option_and_then stopped) (slice_get_read calls (length calls) number c refl h is)

-- beyond the calls nothing changes
pub changed_past : (f : Judged → Judged) (calls : List Judged) (number : ℕ)
    → length calls ≤ number → changed f calls number ≡ calls
changed_past f [] number h = refl
changed_past f (x ∷ calls) zero h = absurd (omega arith)
changed_past f (x ∷ calls) (suc number) h =
    ap (λ (l : List Judged). x ∷ l) (changed_past f calls number (omega arith))

-- what a reply shows to the weak listing that the call stops, if it stops one
pub shown_none : (calls : List Judged) (number : ℕ) (c : Judged) (r : SeenReply)
    → number < length calls → c ≡ get_or calls number c → stopped c ≡ None → (first : ℕ)
    → calls ≡ calls_shown_from first calls (start_of calls number) r
shown_none calls number c r h is none first =
    ap (λ (o : Option ℕ). calls_shown_from first calls o r)
    (sym (start_at calls number c h is ∙ none))

module _ (first : ℕ) (calls : List Judged) (number start : ℕ) (c : Judged) (r : SeenReply)
    (h : number < length calls) (is : c ≡ get_or calls number c) (some : stopped c ≡ Some start)
  where
    shown_at : changed (λ x. shown x r) calls (start - first)
        ≡ calls_shown_from first calls (start_of calls number) r
    shown_at =
        ap (λ (o : Option ℕ). calls_shown_from first calls o r)
        (sym (start_at calls number c h is ∙ some))

    pub shown_past : (index : ℕ) → index ≡ start - first → length calls ≤ index
        → calls ≡ calls_shown_from first calls (start_of calls number) r
    shown_past index same past =
        sym (changed_past (λ x. shown x r) calls index past)
        ∙ (ap (changed (λ x. shown x r) calls) same ∙ shown_at)

    pub shown_set : (index : ℕ) → index ≡ start - first → (d n : Judged)
        → d ≡ get_or calls index d → n ≡ shown d r
        → set calls index n ≡ calls_shown_from first calls (start_of calls number) r
    shown_set index same d n at new =
        changed_at (λ x. shown x r) calls index d n at new
        ∙ (ap (changed (λ x. shown x r) calls) same ∙ shown_at)

    pub stops_kept : ((from : ℕ) → start_of calls number ≡ Some from → first ≤ from)
        → first ≤ start
    stops_kept kept = kept start (start_at calls number c h is ∙ some)

-- a command whose call has no handle gave none
pub given_past : (s : Service) (number call : ℕ) → slice_get s.commands number ≡ Some call
    → length s.given ≤ call → None ≡ given_by s number
given_past s number call there past =
    rw there (sym (get_or_past s.given call None past))

-- forgotten calls stand before those that are kept
changed_over : (f : Judged → Judged) (first : ℕ) (d : Judged) (calls : List Judged) (number : ℕ)
    → first ≤ number
    → changed f (replicate first d ++ calls) number
    ≡ replicate first d ++ changed f calls (number - first)
changed_over f zero d calls number h =
    let same : number - 0 ≡ number = omega arith in
    ap (changed f calls) (sym same)
changed_over f (suc first) d calls zero h = absurd (omega arith)
changed_over f (suc first) d calls (suc number) h =
    let same : suc number - suc first ≡ number - first = omega arith in
    ap (λ (l : List Judged). d ∷ l)
    (changed_over f first d calls number (omega arith)
    ∙ ap (λ n. replicate first d ++ changed f calls n) (sym same))

pub start_over : (first : ℕ) (calls : List Judged) (number : ℕ) → first ≤ number
    → start_of (replicate first forgotten ++ calls) number ≡ start_of calls (number - first)
start_over first calls number h = ap (option_and_then stopped) (get_kept first calls number h)

module _ (first : ℕ) (calls : List Judged) (number : ℕ) (r : SeenReply) (kept : first ≤ number)
  where
    abbrev all : List Judged
    all = replicate first forgotten ++ calls

    pub starts_kept : ((start : ℕ) → start_of all number ≡ Some start → first ≤ start)
        → (start : ℕ) → start_of calls (number - first) ≡ Some start → first ≤ start
    starts_kept starts start is = starts start (start_over first calls number kept ∙ is)

    shown_over : (start : Option ℕ)
        → ((from : ℕ) → start ≡ Some from → first ≤ from)
        → calls_shown all start r
        ≡ replicate first forgotten ++ calls_shown_from first calls start r
    shown_over None starts = refl
    shown_over (Some from) starts =
        changed_over (λ x. shown x r) first forgotten calls from (starts from refl)

    pub answered_over : ((start : ℕ) → start_of all number ≡ Some start → first ≤ start)
        → (reported : List Judged)
        → reported ≡ calls_shown_from first calls (start_of calls (number - first)) r
        → (c n : Judged) → c ≡ get_or reported (number - first) c → n ≡ judged_answered c r
        → replicate first forgotten ++ set reported (number - first) n ≡ calls_answered all number r
    answered_over starts reported tells c n is new =
        let at = number - first in
        let begun = start_over first calls number kept in
        let answer : Judged → Judged = λ x. judged_answered x r in
        ap (λ (l : List Judged). replicate first forgotten ++ l)
        (changed_at answer reported at c n is new)
        ∙ (sym (changed_over answer first forgotten reported number kept)
        ∙ ap (λ (l : List Judged). changed answer l number)
        (ap (λ (l : List Judged). replicate first forgotten ++ l) tells
        ∙ (sym (shown_over (start_of calls at) (starts_kept starts))
        ∙ ap (λ (o : Option ℕ). calls_shown all o r) (sym begun))))

pub end_is : (s : Service) (number line : ℕ) (r : SeenReply) (calls : List Judged)
    (c : Judged) (given : Option Handle) (es : List Event) (ps : List ℕ)
    → calls ≡ calls_answered s.calls number r
    → slice_get s.calls number ≡ Some c → given ≡ given_in s.line (role_added c) r
    → es ≡ s.events ++ End number ∷ [] → ps ≡ s.event_lines ++ line ∷ []
    → (made : Service) → made ≡ record {
      line = s.line;
      start = s.start;
      first = s.first;
      calls = calls;
      given = set s.given number given;
      begins = s.begins;
      commands = s.commands;
      events = es;
      event_lines = ps;
    } → made ≡ with_end s number r line
end_is s number line r calls c given es ps a there gives e f made same =
    let b : given ≡ given_in s.line (added_by (slice_get s.calls number)) r = rw there gives in
    same ∙ rw (a, b, e, f) refl

pub length_shown_from : (first : ℕ) (calls : List Judged) (start : Option ℕ) (r : SeenReply)
    → length (calls_shown_from first calls start r) ≡ length calls
length_shown_from first calls None r = refl
length_shown_from first calls (Some start) r =
    length_changed (λ c. shown c r) calls (start - first)

-- the calls that are kept, where more of them are forgotten
pub forget_is : (old s : Service) (begun : ℕ) (calls : List Judged) (first followed : ℕ)
    → s ≡ old → s.first ≡ begun → s.calls ≡ replicate begun forgotten ++ calls
    → old.first ≤ first → (kept : List Judged) → kept ≡ drop (first - begun) calls
    → (events : List Event) → events ≡ drop followed s.events
    → (begins : List ℕ) → begins ≡ [] → (event_lines : List ℕ) → event_lines ≡ []
    → (made : Service) → made ≡ record s {
      first = first;
      calls = replicate first forgotten ++ kept;
      begins = begins;
      events = events;
      event_lines = event_lines;
    } → made ≡ forgetting old first followed
forget_is old s begun calls first followed same from is less kept rest events left begins b
    event_lines p
    made m =
    let low : begun ≤ first = omega (arith, ap (λ (x : Service). x.first) same) in
    let at : length (replicate begun forgotten) + (first - begun) ≡ first =
    omega (arith, length-replicate begun forgotten) in
    let c : kept ≡ drop first s.calls =
    rest ∙ (sym (drop-append-add (replicate begun forgotten) calls (first - begun))
    ∙ (ap (λ n. drop n (replicate begun forgotten ++ calls)) at ∙ ap (drop first) (sym is))) in
    m ∙ (rw (c, left, b, p) refl ∙ ap (λ (x : Service). forgetting x first followed) same)

pub start_under : (first : ℕ) (calls : List Judged) (number : ℕ) → number < first
    → start_of (replicate first forgotten ++ calls) number ≡ None
start_under zero calls number h = absurd (omega arith)
start_under (suc first) calls zero h = refl
start_under (suc first) calls (suc number) h = start_under first calls number (omega arith)
