-- A call that ends is made.
use Rattle.histories.proofs.Words.{[], ◌≡◌, ◌↔◌, ℕ, ◌+◌, ◌<◌, ◌≤◌, List, ◌∷◌, ◌++◌, length, refl, sym, ◌∙◌, ap, arith, inl, inr, append-nil, append_assoc, Option, AllPairs, cases_eq, bit_at, Contains-push, Contains-push_cases, Config, HasSlot, IsLighter, IsSame, LeadTo, Path, Runs, cleared, path_more, path_of, ComesFirst, FromOne, Gathers, GoesFrom, GoesOn, IsClosed, IsClosing, IsDone, IsMadeFrom, IsNextAt, IsSettled, IsUnderWay, Settles, Spot, ones, spot_of}
use Rattle.histories.specs.Gathering.{IsNext}
use Rattle.histories.proofs.Lists.{nothing_in, only}
use Rattle.histories.proofs.Running.{bit_cases, cleared_le, cleared_same, ones_le, ones_less, ones_most, slot_64, slot_once, slot_within, lighter_then, runs_fewer, runs_first, runs_lighter, runs_then}
use Rattle.histories.proofs.Gathering.{adds_as, adds_none, adds_then, from_first, from_last, gathers_none}

-- of none, all are different
pub none_same : {S : Type 0} → AllPairs (λ (a b : Config S). ¬ (IsSame a b)) []
none_same {S} = λ i j d less h. absurd (omega arith)

path_with : ℕ → List ℕ → Path
path_with base calls = record { base = base; calls = calls }

pub path_none : (path : Path) → path ≡ path_more path []
unfolding path_with
path_none path = sym (ap (λ (l : List ℕ). path_with path.base l) (append-nil path.calls))

pub path_is : (p q : Path) → p.base ≡ q.base → p.calls ≡ q.calls → p ≡ q
unfolding path_with
path_is p q base calls =
    ap (λ b. path_with b p.calls) base ∙ ap (λ (l : List ℕ). path_with q.base l) calls

pub path_then : (path : Path) (first second : List ℕ)
    → path_more (path_more path first) second ≡ path_more path (first ++ second)
unfolding path_with
path_then path first second =
    ap (λ (l : List ℕ). path_with path.base l) (append_assoc path.calls first second)

module _ {S : Type 0} (Step : S → ℕ → S → Type 0) (slots : List (Option ℕ)) where
  -- from the new ones too
  pub leads_kept : (Found : Spot S → Type 0) (old new : List (Config S)) (s : S) (rest : ℕ)
      → Gathers Found old new → LeadTo Step slots old s rest → LeadTo Step slots new s rest
  leads_kept Found old new s rest g l = (l.0, g.adds.kept l.0 l.1, l.2)

  pub leads_found : (Found : Spot S → Type 0) (old new : List (Config S)) (config : Spot S)
      (calls : List ℕ) (s : S) (fewer rest : ℕ) → Gathers Found old new → Found config
      → Runs Step slots config.state config.waiting calls s fewer
      → IsLighter Step slots fewer rest → LeadTo Step slots new s rest
  leads_found Found old new config calls s fewer rest g found run light =
      let known = g.complete config found in (
        known.0,
        known.1,
        (calls, fewer, rw known.2.0 (rw (← known.2.1) at run), light),
      )

  -- where calls that change nothing were made, the others lead to the same
  pub leads_sought : (Found : Spot S → Type 0) (old new : List (Config S)) (from : Spot S)
      (calls : List ℕ) (s : S) (fewer rest : ℕ) → length slots ≤ 64 → ¬ (4096 < length new)
      → Settles Step slots Found old new → Found from
      → Runs Step slots from.state from.waiting calls s fewer
      → IsLighter Step slots fewer rest → LeadTo Step slots new s rest
  leads_sought Found old new from calls s fewer rest few short g found run light =
      let one = g.complete short from found in
      let less = runs_lighter _ _ _ _ _ _ _ _ few one.3 run in (
        one.0,
        one.1,
        (less.0, less.1, rw one.2 less.2, lighter_then _ _ _ _ _ less.3 light),
      )

  -- more calls are made
  made_then : (configs : List (Config S)) (from one : Spot S) (calls : List ℕ)
      → Runs Step slots from.state from.waiting calls one.state one.waiting
      → one.made ≡ path_more from.made calls
      → IsMadeFrom Step slots configs from → IsMadeFrom Step slots configs one
  made_then configs from one calls run made m = (
    m.0,
    m.1,
    (
      m.2.0 ++ calls,
      runs_then _ _ _ _ _ _ _ _ _ _ m.2.1 run,
      made ∙ (ap (λ (p : Path). path_more p calls) m.2.2 ∙ path_then (path_of m.0) m.2.0 calls),
    ),
  )

  -- the calls of a settled one are made after those of its configuration
  pub made_settled : (configs : List (Config S)) (from one : Spot S)
      → IsSettled Step slots from one → IsMadeFrom Step slots configs from
      → IsMadeFrom Step slots configs one
  made_settled configs from one is m = made_then _ from _ _ (rw is.state is.runs) is.made m

  pub closing_begin : (configs : List (Config S)) (slot : ℕ)
      → IsClosing Step slots configs slot [] configs (length slots + 1)
  closing_begin configs slot = record {
    sound = λ k has. absurd (nothing_in _ has);
    under_way = λ k has. (k, has, ([], (refl, refl), path_none _));
    complete = λ few new rest l over. inr l;
    short = λ k has. omega (arith, ones_most k.waiting (length slots));
    once = none_same;
  }

  made_next : (configs : List (Config S)) (config : Config S) (next : Spot S)
      → IsNext Step slots config next → IsMadeFrom Step slots configs (spot_of config)
      → IsMadeFrom Step slots configs next
  made_next configs config next is m = search (arith, made_then)

  -- the configuration in which the call in the slot was made and left this state
  abbrev spot_after : Config S → ℕ → ℕ → S → Spot S
  spot_after config at call state = record {
    state = state;
    waiting = cleared config.waiting at;
    made = path_more (path_of config) (call ∷ []);
  }

  -- where the call waits and in the end does not, one that waits is made next
  leads_next : (old new : List (Config S)) (slot : ℕ) (config : Config S) (calls : List ℕ)
      (last : S) (fewer rest : ℕ) → length slots ≤ 64 → ¬ (4096 < length new)
      → Settles Step slots (IsNext Step slots config) old new
      → bit_at config.waiting slot ≡ 1 → bit_at fewer slot ≡ 0
      → Runs Step slots config.state config.waiting calls last fewer
      → IsLighter Step slots fewer rest → LeadTo Step slots new last rest
  leads_next old new slot config [] last fewer rest few short g waits over run light =
      absurd (omega (arith, ap (λ w. bit_at w slot) run.1, waits, over))
  leads_next old new slot config (c ∷ calls) last fewer rest few short g waits over run light =
      leads_sought _ _ _ (spot_after config run.0 c run.2.0) _ _ _ _ few short g
      (run.0, slot_within _ _ _ run.1.0, (c, run.1, run.2.1, refl, refl)) run.2.2 light

  -- from one configuration, in which the call in the slot waits
  goes_one : (slot : ℕ) (config : Config S) (Found : Spot S → Type 0) (old new : List (Config S))
      → bit_at config.waiting slot ≡ 1
      → ((spot : Spot S) → Found spot → IsNext Step slots config spot)
      → (¬ (4096 < length new) → (calls : List ℕ) (last : S) (fewer rest : ℕ)
      → bit_at fewer slot ≡ 0 → Runs Step slots config.state config.waiting calls last fewer
      → IsLighter Step slots fewer rest → LeadTo Step slots new last rest)
      → Settles Step slots Found old new → GoesOn Step slots slot (config ∷ []) old new
  goes_one slot config Found old new waits next leads g = record {
    adds = adds_as _ _ _ _
        (λ k p. (config, Contains-push [] config, (waits, (p.0, next p.0 p.1, p.2)))) g.adds;
    complete = λ short k calls last fewer rest has w over run light.
        leads short calls last fewer rest over (rw (← only _ _ has) run) light;
  }

  -- by each call that waits
  pub goes_all : (slot : ℕ) (config : Config S) (old new : List (Config S)) → length slots ≤ 64
      → bit_at config.waiting slot ≡ 1 → Settles Step slots (IsNext Step slots config) old new
      → GoesOn Step slots slot (config ∷ []) old new
  goes_all slot config old new few waits g =
      goes_one _ _ _ _ _ waits (λ spot found. found) (λ short calls last fewer rest over run light.
      leads_next _ _ _ config _ _ _ _ few short g waits over run light) g

  -- the call in the slot goes before all that is made, where it comes first
  runs_before : (config : Config S) (slot call : ℕ) (new : S) (fewer : ℕ) (calls : List ℕ)
      → length slots ≤ 64 → HasSlot slots slot call → bit_at config.waiting slot ≡ 1
      → ComesFirst Step slots config slot → bit_at fewer slot ≡ 0
      → Runs Step slots config.state config.waiting calls new fewer
      → (mid : S) × Step config.state call mid
      × ((others : List ℕ) × Runs Step slots mid (cleared config.waiting slot) others new fewer)
  runs_before config slot call new fewer calls few here waits (inl moves) over run =
      grind (arith, runs_first, slot_once)
  runs_before config slot call new fewer [] few here waits (inr none) over run =
      absurd (omega (arith, ap (λ w. bit_at w slot) run.1, waits, over))
  runs_before config slot call new fewer (c ∷ calls) few here waits (inr none) over run =
      grind (arith, cases_eq, slot_once)

  -- by the call in the slot alone, which comes first
  pub goes_by : (slot call : ℕ) (config : Config S) (old new : List (Config S))
      → length slots ≤ 64 → HasSlot slots slot call → bit_at config.waiting slot ≡ 1
      → ComesFirst Step slots config slot
      → Settles Step slots (IsNextAt Step slots config slot) old new
      → GoesOn Step slots slot (config ∷ []) old new
  goes_by slot call config old new few here waits comes g =
      goes_one _ _ _ _ _ waits (λ spot found. (slot, slot_within _ _ _ here, found))
      (λ short calls last fewer rest over run light.
      let first = runs_before config _ _ _ _ _ few here waits comes over run in
      leads_sought _ _ _ (spot_after config slot call first.0) _ _ _ _ few short g
      (call, (here, waits), first.1, refl, refl) first.2.1 light) g

  -- where there are too many already
  pub goes_full : (slot : ℕ) (layer old : List (Config S)) → 4096 < length old
      → GoesOn Step slots slot layer old old
  goes_full slot layer old many = grind (arith, adds_none)

  -- where the call does not wait
  pub goes_not : (slot : ℕ) (config : Config S) (old : List (Config S))
      → bit_at config.waiting slot ≡ 0 → GoesOn Step slots slot (config ∷ []) old old
  goes_not slot config old gone = record { adds = adds_none _ _; complete = grind (arith, only) }

  -- from none
  pub goes_none : (slot : ℕ) (old : List (Config S)) → GoesOn Step slots slot [] old old
  goes_none slot old = record { adds = adds_none _ _; complete = grind (arith, nothing_in) }

  -- from one configuration more
  pub goes_pushed : (slot : ℕ) (layer : List (Config S)) (from : Config S)
      (old mid new : List (Config S)) → GoesOn Step slots slot layer old mid
      → GoesOn Step slots slot (from ∷ []) mid new
      → GoesOn Step slots slot (layer ++ from ∷ []) old new
  goes_pushed slot layer from old mid new f g = record {
    adds = adds_then _ _ _ _ _ _ (from_first _ layer from)
        (λ k q. from_last (IsUnderWay Step slots slot) layer from k (rw (← only _ _ q.1) q.2))
        f.adds g.adds;
    complete = λ short k calls last fewer rest has waits over run light.
        elim (Contains-push_cases layer from k has) [
          | inl m ↦
              let l = f.complete (λ many. short (g.adds.longer 4096 many)) k calls last fewer rest
              m waits over run light in (l.0, g.adds.kept l.0 l.1, l.2)
          | inr e ↦
              g.complete short k calls last fewer rest (rw (← e) (Contains-push [] from))
              waits over run light
        ];
  }

  -- a slot that is in no set in the end
  pub lighter_gone : (fewer rest slot call : ℕ) → HasSlot slots slot call
      → IsLighter Step slots fewer rest → bit_at rest slot ≡ 0 → bit_at fewer slot ≡ 0
  lighter_gone fewer rest slot call here light over = grind arith

  -- one call more is made where the call waits, and then some that change nothing
  pub closing_more : (configs done layer more next : List (Config S)) (slot call left : ℕ)
      → length slots ≤ 64 → HasSlot slots slot call
      → IsClosing Step slots configs slot done layer (left + 1)
      → GoesFrom Step slots configs slot done layer
      → Gathers (FromOne (IsDone slot) layer) done more
      → GoesOn Step slots slot layer [] next → IsClosing Step slots configs slot more next left
      × AllPairs (λ a b. ¬ (IsSame a b)) next
  closing_more configs done layer more next slot call left few here cl goes f g = (
    record {
      sound = λ k has.
          elim (f.adds.sound k has) [
            | inl before ↦ cl.sound k before
            | inr found ↦ (
              made_then _ (spot_of found.0) _ [] (found.2.1.0, found.2.1.1)
                  (found.2.1.2 ∙ path_none _) (cl.under_way found.0 found.1),
              ap (λ w. bit_at w slot) found.2.1.1 ∙ found.2.0,
            )
          ];
      under_way = λ k has.
          elim (g.adds.sound k has) [
            | inl none ↦ absurd (nothing_in _ none)
            | inr found ↦
                let made = found.2.1 in
                made_settled _ made.0 _ made.2
                (made_next _ found.0 _ made.1 (cl.under_way found.0 found.1))
          ];
      complete = λ short new rest l over.
          elim (goes new rest l over) [
            | inl before ↦ inl (leads_kept _ _ _ _ _ f before)
            | inr m ↦
                elim (bit_cases _ _) [
                  | inr waits ↦ inr (g.complete short m.0 m.2.0 new m.2.1 rest m.1 waits
                      (lighter_gone _ _ _ _ here m.2.3 over) m.2.2 m.2.3)
                  | inl gone ↦ inl (leads_found _ _ _ _ _ _
                      _ _ f (m.0, m.1, (gone, (refl, refl, refl))) m.2.2 m.2.3)
                ]
          ];
      short = λ k has. elim (g.adds.sound k has) [
        | inl none ↦ absurd (nothing_in _ none)
        | inr found ↦
            let from = found.0 in
            let made = found.2.1.0 in
            let next = found.2.1.1 in
            let is = found.2.1.2 in
            let at = next.0 in
            let h = slot_64 _ at next.2.0 few next.2.1.0 in
            let less : ones (cleared from.waiting at) (length slots) < ones from.waiting (length
            slots) = grind (arith, ones_less, cleared_le, cleared_same) in
            omega (
              arith,
              cl.short from found.1,
              less,
              ap (λ w. ones w (length slots)) next.2.3,
              ones_le k.waiting made.waiting (length slots)
                  (λ i within. runs_fewer Step slots made.state made.state made.waiting k.waiting i
                  is.calls is.runs),
            )
      ];
      once = f.adds.once cl.once;
    },
    g.adds.once none_same,
  )

  -- of no configurations
  pub layer_none : (layer done : List (Config S)) (slot : ℕ) → length layer ≡ 0
      → Gathers (FromOne (IsDone slot) layer) done done × GoesOn Step slots slot layer [] layer
  layer_none [] done slot none = grind (arith, gathers_none, goes_none, nothing_in)
  layer_none (k ∷ layer) done slot none = absurd (omega (arith, none))

  pub closing_end : (configs done layer : List (Config S)) (slot left : ℕ) → left ≡ 0
      → IsClosing Step slots configs slot done layer left → IsClosed Step slots configs slot done
  closing_end configs done [] slot left none cl = record {
    sound = cl.sound;
    complete = λ new rest l over.
        elim (cl.complete (λ many. absurd (omega (arith, many))) new rest l over) [
          | inl there ↦ there
          | inr m ↦ absurd (nothing_in _ m.1)
        ];
    once = cl.once;
  }
  closing_end configs done (k ∷ layer) slot left none cl =
      absurd (omega (arith, cl.short k (0, omega arith, refl), none))

-- the calls that have slots take the same steps
abbrev pub HaveSameSteps : {S : Type 0} → (S → ℕ → S → Type 0) → (S → ℕ → S → Type 0)
    → List (Option ℕ) → Type 0
HaveSameSteps {S} A B slots =
    (slot call : ℕ) → HasSlot slots slot call → (old new : S) → A old call new ↔ B old call new

module _ {S : Type 0} (A B : S → ℕ → S → Type 0) (slots : List (Option ℕ))
    (same : HaveSameSteps A B slots) where
  as_run : (old new : S) (waiting rest : ℕ) (calls : List ℕ)
      → Runs A slots old waiting calls new rest → Runs B slots old waiting calls new rest
  as_run old new waiting rest [] run = run
  as_run old new waiting rest (call ∷ calls) run =
      let step = (same run.0 call run.1.0 old run.2.0).0 run.2.1 in
      let more = as_run run.2.0 new (cleared waiting run.0) rest calls run.2.2 in
      (run.0, run.1, (run.2.0, step, more))

  as_light : (fewer waiting : ℕ) → IsLighter A slots fewer waiting → IsLighter B slots fewer waiting
  as_light fewer waiting l slot call has =
      elim (l slot call has) [
        | inl e ↦ inl e
        | inr idle ↦ inr (idle.0, λ old new b. idle.1 old new ((same slot call has old new).1 b))
      ]

  pub leads_as : (configs : List (Config S)) (new : S) (rest : ℕ)
      → LeadTo A slots configs new rest → LeadTo B slots configs new rest
  leads_as configs new rest l = (
    l.0,
    l.1,
    (l.2.0, l.2.1, as_run _ _ _ _ _ l.2.2, as_light _ _ l.2.3),
  )

  pub made_as : (configs : List (Config S)) (spot : Spot S) → IsMadeFrom A slots configs spot
      → IsMadeFrom B slots configs spot
  made_as configs spot m = search (arith, as_run)

  pub settles_steps : (Found : Spot S → Type 0) (old new : List (Config S))
      → Settles A slots Found old new → Settles B slots Found old new
  settles_steps Found old new a = record {
    adds = adds_as _ _ _ _ (λ k p. (
      p.0,
      p.1,
      record {
        state = p.2.state;
        calls = p.2.calls;
        runs = as_run _ _ _ _ _ p.2.runs;
        lighter = as_light _ _ p.2.lighter;
        made = p.2.made;
      },
    )) a.adds;
    complete = λ few k found.
        let one = a.complete few k found in
        (one.0, one.1, one.2, as_light _ _ one.3);
  }

pub closed_as : {S : Type 0} (A B : S → ℕ → S → Type 0) (slots : List (Option ℕ))
    → HaveSameSteps A B slots → (configs done : List (Config S)) (slot : ℕ)
    → IsClosed A slots configs slot done → IsClosed B slots configs slot done
closed_as A B slots same configs done slot cl = record {
  sound = λ k has.
      let is = cl.sound k has in (made_as _ _ _ same _ _ is.0, is.1);
  complete = λ new rest l over. leads_as _ _ _ same _ _ _ (cl.complete new rest
      (leads_as _ _ _ (λ at call has old new. let e = same at call has old new in (e.1, e.0))
      _ _ _ l) over);
  once = cl.once;
}
