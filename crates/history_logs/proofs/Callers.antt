-- What callers do.
use Rattle.std.proofs.Common.{All, List, None, Option, Some, ap, arith, cond, get_or, inl, inr, length, refl, sym, true, ℕ, ◌+◌, ◌-◌, ◌<◌, ◌≤◌, ◌∙◌, ◌≡◌, ◌≢◌}
use Rattle.std.specs.Global.{Vec}
use Rattle.std.specs.BTreeMap.{BTreeMap, IsOrdered, UpdatesBy, insert_entry}
use Rattle.std.specs.Cmp.{IsTotalOrder}
use Rattle.std.specs.Cmp.Lexicographic.{slice_cmp}
use Rattle.std.specs.List.{slice_set}
use Rattle.std.specs.List.Sorted.{IsStrictlySortedBy}
use Rattle.std.specs.Map.{KeepsOthers, keys_of, set_value, values_of}
use Rattle.std.specs.Ordering.{is_eq, nat_cmp}
use Rattle.std.specs.declared.cmp.Ordering.{Ordering}
use Rattle.std.proofs.lemmas.Bool.{cases_eq, cases_lt, eq-eqb, false_from_ne_true}
use Rattle.std.proofs.lemmas.Bool.Decides.{eqb_tells}
use Rattle.std.proofs.lemmas.Cmp.{eq_by_cmp_equiv, nat_list_cmp_total, on_total}
use Rattle.std.proofs.lemmas.List.{get_or-set_same, get_or-set_other, get_or_default, get_or_past, length-map}
use Rattle.std.proofs.lemmas.List.Elements.{Contains-get_or}
use Rattle.std.proofs.lemmas.List.Sums.{count_by-le-length, sum_by-le}
use Rattle.std.proofs.lemmas.Map.Entries.{sum_by-insert_entry, sum_by-set_value}
use Rattle.std.proofs.lemmas.Map.Keys.{IsDistinct-from_sorted}
use Rattle.std.proofs.lemmas.Map.Made.{Contains-from_values_of}
use Rattle.std.proofs.lemmas.Map.Text.{is_eq-slice_cmp}
use Rattle.std.proofs.lemmas.Map.Views.{lookup-from_Contains}
use Rattle.std.proofs.lemmas.Slice.Eq.{bytes_eq-Decides}
use Rattle.history_logs.specs.Parts.{AreOpen, Puts, callers_of, is_on, on_by, open_on}
use Rattle.history_logs.specs.Reading.{MayBegin, NoneCalls, Sets}
use Rattle.history_logs.specs.declared.logs.callers.CallerState.{CallerState}
use Rattle.history_logs.specs.declared.logs.callers.CallerState.TheVariants as caller

-- the order of names
abbrev name_cmp : Vec ℕ → Vec ℕ → Ordering
name_cmp a b = slice_cmp nat_cmp a.items b.items

name_total : IsTotalOrder name_cmp
name_total = on_total (λ (v : Vec ℕ). v.items) nat_list_cmp_total

same_name : (a b : List ℕ) → is_eq (slice_cmp nat_cmp a b) ≡ true → a ≡ b
same_name a b e = (bytes_eq-Decides a b).0 (sym (is_eq-slice_cmp a b) ∙ e)

-- after a change at a name its caller does this, and the others do what they did
sets_state : (name : List ℕ) (state : CallerState) (old new : BTreeMap (Vec ℕ) CallerState)
    → UpdatesBy name_cmp (λ k. slice_cmp nat_cmp name k.items) old new (Some state)
    → Sets (callers_of old.entries) name state (callers_of new.entries)
unfolding KeepsOthers
sets_state name state old new h = record {
  own = h.1;
  others = λ other ne.
      h.3 (λ k. is_eq (slice_cmp nat_cmp other k.items))
      (λ x y. (eq_by_cmp_equiv nat_list_cmp_total).congr other x.items y.items)
      (λ k own. false_from_ne_true (is_eq (slice_cmp nat_cmp other k.items))
      (λ is. ne (same_name other k.items is ∙ sym (same_name name k.items own))));
}

-- 1 for a caller that has a call open on the service
abbrev one_on : ℕ → CallerState → ℕ
one_on at state = cond (is_on at state) 1 0

-- a known caller does something else
pub puts_known : (name : List ℕ) (was state : CallerState) (old new : BTreeMap (Vec ℕ) CallerState)
    → callers_of old.entries name ≡ Some was
    → new.entries
    ≡ set_value (λ (k : Vec ℕ). is_eq (slice_cmp nat_cmp name k.items)) old.entries state
    → UpdatesBy name_cmp (λ k. slice_cmp nat_cmp name k.items) old new (Some state)
    → Puts old.entries name (Some was) state new.entries
puts_known name was state old new is entries updates = record {
  sets = sets_state name state old new updates;
  did = sym is;
  count = λ at. rw entries (sum_by-set_value (one_on at)
      (λ (k : Vec ℕ). is_eq (slice_cmp nat_cmp name k.items)) old.entries was state is);
}

-- a caller is new
pub puts_new : (key : Vec ℕ) (state : CallerState) (old new : BTreeMap (Vec ℕ) CallerState)
    → IsOrdered name_cmp old → callers_of old.entries key.items ≡ None
    → new.entries ≡ insert_entry name_cmp old.entries key state
    → UpdatesBy name_cmp (λ k. slice_cmp nat_cmp key.items k.items) old new (Some state)
    → Puts old.entries key.items None state new.entries
puts_new key state old new ordered none entries updates = record {
  sets = sets_state key.items state old new updates;
  did = sym none;
  count = λ at.
      let more = sum_by-insert_entry (one_on at) name_total old.entries key state ordered in
      rw entries (rw none at more);
}

-- a caller that has a call open on the service counts
open_called : (at : ℕ) (states : List (Vec ℕ × CallerState)) (name : List ℕ) (number : ℕ)
    → callers_of states name ≡ Some (caller.Calls at number) → 0 < open_on at states
open_called at states name number is =
    let less = sum_by-set_value (one_on at)
    (λ (k : Vec ℕ). is_eq (slice_cmp nat_cmp name k.items)) states (caller.Calls at number)
    caller.Idle is in
    omega (arith, rw (eq-eqb at at refl) at less)

one_off : (at : ℕ) (state : CallerState)
    → ((number : ℕ) → state ≢ caller.Calls at number) → one_on at state ≤ 0
one_off at (caller.Calls on number) ne =
    elim (eqb_tells on at) [
      | inl same ↦ absurd (ne number (ap (λ n. caller.Calls n number) same.1))
      | inr other ↦ rw other.0 (omega arith)
    ]
one_off at _ ne = omega arith

-- where no caller has one open, none counts
none_open : (at : ℕ) (states : List (Vec ℕ × CallerState))
    → IsStrictlySortedBy name_cmp (keys_of states)
    → NoneCalls (callers_of states) at → open_on at states ≡ 0
none_open at states ordered none =
    let each : All (λ state. one_on at state ≤ 0) (values_of states) =
    λ i d within.
    let state = get_or (values_of states) i d in
    let (key, entry) = Contains-from_values_of states state
    (Contains-get_or (values_of states) i d within) in
    one_off at state (λ number is. none key.items number
    (lookup-from_Contains (eq_by_cmp_equiv name_total) key state states
    (IsDistinct-from_sorted name_cmp (keys_of states) ordered) entry ∙ ap Some is)) in
    omega (arith, sum_by-le (one_on at) 0 (values_of states) each)

-- what a count says
pub says_open : (counts : List ℕ) (states known : List (Vec ℕ × CallerState)) (at count : ℕ)
    → IsStrictlySortedBy name_cmp (keys_of states) → AreOpen counts states → states ≡ known
    → count ≡ get_or counts at 0
    → (0 < count → ¬ (NoneCalls (callers_of known) at))
    × (count ≡ 0 → NoneCalls (callers_of known) at)
says_open counts states known at count ordered are same own = (
  λ some none. omega (arith, none_open at states ordered (rw same none), own, are at),
  λ zero name number calls.
      omega (arith, open_called at states name number (rw same calls), own, are at),
)

-- where one count changes, and is right, all are
set_count : (counts : List ℕ) (at x : ℕ) (f : ℕ → ℕ) → at < length counts → f at ≡ x
    → ((k : ℕ) → k ≢ at → get_or counts k 0 ≡ f k) → (k : ℕ)
    → get_or (slice_set counts at x) k 0 ≡ f k
set_count counts at x f within own others k =
    elim (cases_eq k at) [
      | inl same ↦ rw same (get_or-set_same counts at x 0 within ∙ sym own)
      | inr ne ↦ get_or-set_other counts at k x 0 ne ∙ others k ne
    ]

on_other : (at k number : ℕ) → k ≢ at → on_by k (Some (caller.Calls at number)) ≡ 0
on_other at k number ne =
    elim (eqb_tells at k) [
      | inl same ↦ absurd (ne (sym same.1))
      | inr other ↦ rw other.0 refl
    ]

on_own : (at number : ℕ) → on_by at (Some (caller.Calls at number)) ≡ 1
on_own at number = rw (eq-eqb at at refl) refl

not_on : (k : ℕ) (was : Option CallerState) → MayBegin was → on_by k was ≡ 0
not_on k was (inl none) = rw none refl
not_on k was (inr idle) = rw idle refl

-- a caller that had none open has one: one more is open on its service
pub begun_open : (known counts : List ℕ) (old new : List (Vec ℕ × CallerState)) (name : List ℕ)
    (was : Option CallerState) (at number d : ℕ) → AreOpen known old
    → ((k : ℕ) → get_or counts k 0 ≡ get_or known k 0) → MayBegin (callers_of old name)
    → Puts old name was (caller.Calls at number) new → at < length counts
    → d ≡ get_or counts at d
    → (d + 1 ≤ length new) × AreOpen (slice_set counts at (d + 1)) new
begun_open known counts old new name was at number d are same may puts within is =
    let none : (k : ℕ) → on_by k was ≡ 0 = λ k. not_on k was (rw (← puts.did) at may) in
    let own = is ∙ get_or_default counts at d 0 within in
    let more : open_on at new ≡ d + 1 =
    omega (arith, none at, on_own at number, puts.count at, are at, same at, own) in
    let fit =
    rw (length-map new (λ e. e.1)) at (count_by-le-length (is_on at) (values_of new)) in (
      omega (arith, more, fit),
      set_count counts at (d + 1) (λ k. open_on k new) within more
          (λ k ne. omega (arith, none k, on_other at k number ne, puts.count k, are k, same k)),
    )

-- a caller that had one open has none: one less is open on its service
pub ended_open : (counts : List ℕ) (old new : List (Vec ℕ × CallerState)) (name : List ℕ)
    (state : CallerState) (at number : ℕ) → AreOpen counts old
    → ((k : ℕ) → on_by k (Some state) ≡ 0)
    → Puts old name (Some (caller.Calls at number)) state new
    → (at < length counts)
    × ((d : ℕ) → d ≡ get_or counts at d → (1 ≤ d) × AreOpen (slice_set counts at (d - 1)) new)
ended_open counts old new name state at number are none puts =
    let less : get_or counts at 0 ≡ open_on at new + 1 =
    omega (arith, none at, on_own at number, puts.count at, are at) in
    let within : at < length counts =
    elim (cases_lt at (length counts)) [
      | inl h ↦ h
      | inr h ↦ absurd (omega (arith, less, get_or_past counts at 0 h))
    ] in (
      within,
      λ d is.
          let own = is ∙ get_or_default counts at d 0 within in (
            omega (arith, less, own),
            set_count counts at (d - 1) (λ k. open_on k new) within (omega (arith, less, own))
                (λ k ne. omega (arith, none k, on_other at k number ne, puts.count k, are k)),
          ),
    )

-- where a caller that had none open has none, the counts stay
pub same_open : (counts : List ℕ) (old new : List (Vec ℕ × CallerState)) (name : List ℕ)
    (state : CallerState) (was : Option CallerState) → AreOpen counts old
    → ((k : ℕ) → on_by k (Some state) ≡ 0) → ((k : ℕ) → on_by k was ≡ 0)
    → Puts old name was state new → AreOpen counts new
same_open counts old new name state was are none before puts k =
    omega (arith, none k, before k, puts.count k, are k)
