-- Configurations in chains.
use Rattle.histories.proofs.Words.{[], ◌≡◌, ℕ, ◌+◌, ◌%◌, ◌<◌, List, ◌∷◌, ◌++◌, length, get_or, sym, ◌∙◌, ap, subst, arith, inl, inr, true, false, ◌≢◌, ◌-◌, ◌≤◌, Bool, All, drop, set, replicate, cases_order, cases_eq, cases_lt, get_or-drop, get_or-replicate, get_or-set_other, get_or-set_same, get_or_default, get_or_past, length-drop, take_all, length-replicate, length_push, Config, IsSame, IsKnown, AreChained, AreLinked, AreOther, chain_at, chain_of, get_or-append, get_or-append_seam}
use Rattle.histories.proofs.Lists.{less_of}

-- where no index is in a chain
pub linked_none : (chain : ℕ → ℕ) (heads before : List ℕ) → length before ≡ 0
    → ((number : ℕ) → get_or heads number 0 ≡ 0) → AreLinked chain heads before
linked_none chain heads before none empty = grind arith

-- the same chains by other words
pub linked_as : (one other : ℕ → ℕ) (heads before : List ℕ)
    → ((index : ℕ) → index < length before → other index ≡ one index)
    → AreLinked one heads before → AreLinked other heads before
linked_as one other heads before same l = record {
  reached = λ index h. grind arith;
  head = λ number index e.
      let is = l.head number index e in (is.0, same index is.0 ∙ is.1);
  kept = λ index at h below e. grind arith;
  link = λ at index below e.
      let is = l.link at index below e in (
        is.0,
        same index (omega (arith, is.0, below)) ∙ (is.1 ∙ sym (same at below)),
      );
}

-- one index more
pub linked_more : (chain : ℕ → ℕ) (heads before : List ℕ) (number : ℕ)
    → number ≡ chain (length before) → number < length heads → AreLinked chain heads before
    → AreLinked chain (set heads number (length before + 1)) (before ++ get_or heads number 0 ∷ [])
linked_more chain heads before number is within l =
    let last = length before in
    let head = get_or heads number 0 in
    let more : List ℕ = before ++ head ∷ [] in
    let now : List ℕ = set heads number (last + 1) in
    let many : length more ≡ last + 1 = length_push before head in
    let here : get_or now number 0 ≡ last + 1 = get_or-set_same heads number (last + 1) 0 within in
    let there : (other : ℕ) → other ≢ number → get_or now other 0 ≡ get_or heads other 0 = λ other
    ne. get_or-set_other heads number other (last + 1) 0 ne in
    let was : (at : ℕ) → at < last → get_or more at 0 ≡ get_or before at 0 = λ at below.
    get_or-append before (head ∷ []) 0 at below in
    let end : get_or more last 0 ≡ head = get_or-append_seam before head [] 0 in
    record {
      reached = λ index h. grind (arith, cases_eq, here, less_of);
      head = λ other index e.
          elim (cases_eq other number) [
            | inl same ↦ grind (arith, here)
            | inr ne ↦
                let before_ = l.head other index (sym (there other ne) ∙ e) in
                (omega (arith, before_.0, many), before_.1)
          ];
      kept = λ index at h below e. grind (arith, cases_eq, less_of);
      link = λ at index below e.
          elim (cases_eq at last) [
            | inl same ↦
                let before_ = l.head number index
                (sym end ∙ (ap (λ i. get_or more i 0) (sym same) ∙ e)) in
                (omega (arith, before_.0, same), before_.1 ∙ (is ∙ ap chain (sym same)))
            | inr ne ↦
                let less : at < last = less_of at last (omega (arith, below, many)) ne in
                l.link at index less (sym (was at less) ∙ e)
          ];
    }

-- each of many copies of a number is that
pub copies : (count index number : ℕ) → get_or (replicate count number) index number ≡ number
copies count index number = grind (arith, cases_lt, get_or-replicate, get_or_past, length-replicate)

-- the same configurations are in one chain
chain_same : {S : Type 0} (hash : S → ℕ) (a b : Config S) → IsSame a b
    → chain_of hash a ≡ chain_of hash b
chain_same hash a b same =
    ap (λ s. (a.waiting % 1021 + hash s % 1021) % 1021) same.0
    ∙ ap (λ w. (w % 1021 + hash b.state % 1021) % 1021) same.1

module _ {S : Type 0} (hash : S → ℕ) where
  -- a configuration more, which is in no chain yet
  pub chained_push : (configs : List (Config S)) (config : Config S) (heads before : List ℕ)
      → AreChained hash configs heads before
      → AreChained hash (configs ++ config ∷ []) heads before
  chained_push configs config heads before c = (
    omega (arith, c.0, length_push configs config),
    λ d. linked_as _ _ _ _ (λ index h. ap (chain_of hash)
        (get_or-append configs (config ∷ []) d index (omega (arith, h, c.0)))) (c.1 d),
  )

  -- where none is in a chain
  pub chained_none : (configs : List (Config S)) (heads before : List ℕ) → length before ≡ 0
      → ((number : ℕ) → get_or heads number 0 ≡ 0) → AreChained hash configs heads before
  chained_none configs heads before none empty = grind (arith, linked_none)

  -- one configuration more is in its chain
  pub chained_more : (configs : List (Config S)) (item : Config S) (heads before : List ℕ)
      (number : ℕ) → number ≡ chain_of hash item
      → item ≡ get_or configs (length before) item → number < length heads
      → length before < length configs → AreChained hash configs heads before
      → AreChained hash configs (set heads number (length before + 1))
      (before ++ get_or heads number 0 ∷ [])
  chained_more configs item heads before number is at within more c =
      grind (arith, length_push, linked_more, get_or_default, within)

  -- How far a chain was followed: those from here on are others.
  pub record IsFollowing (configs : List (Config S)) (before : List ℕ) (config : Config S)
      (left : ℕ) : Type 0 where
    pub within : left ≤ length before
    pub here : (index : ℕ) (d : Config S) → left ≡ index + 1
        → chain_at hash configs d index ≡ chain_of hash config
    pub others : AreOther configs left (length before) config

  pub following_head : (configs : List (Config S)) (heads before : List ℕ) (config : Config S)
      (left : ℕ) → left ≡ get_or heads (chain_of hash config) 0
      → AreChained hash configs heads before → IsFollowing configs before config left
  following_head configs heads before config left is c =
      let linked = c.1 config in record {
        within = elim (cases_eq left 0) [
          | inl none ↦ omega (arith, none)
          | inr some ↦
              let at = linked.head (chain_of hash config) (left - 1) (omega (arith, is, some)) in
              omega (arith, at.0, some)
        ];
        here = λ index d e. ((c.1 d).head (chain_of hash config) index (sym is ∙ e)).1;
        others = λ index d from below same.
            let chained : chain_at hash configs d index ≡ chain_of hash config =
            chain_same hash (get_or configs index d) config same in
            absurd (omega (
              arith,
              from,
              is,
              ap (λ n. get_or heads n 0) chained,
              (c.1 d).reached index below,
            ));
      }

  pub following_more : (configs : List (Config S)) (heads before : List ℕ)
      (config known : Config S) (at left next : ℕ) → left ≡ at + 1
      → next ≡ get_or before at 0 → known ≡ get_or configs at known
      → ¬ (IsSame known config) → AreChained hash configs heads before
      → IsFollowing configs before config left
      → IsFollowing configs before config next × (next < left)
  following_more configs heads before config known at left next one is item other c f =
      let below : at < length before = omega (arith, f.within, one) in
      let less : next < left = elim (cases_eq next 0) [
        | inl none ↦ omega (arith, none, one)
        | inr some ↦
            let to = (c.1 config).link at (next - 1) below (omega (arith, is, some)) in
            omega (arith, to.0, some, one)
      ] in (
        record {
          within = omega (arith, less, f.within);
          here = λ index d e. ((c.1 d).link at index below (sym is ∙ e)).1 ∙ f.here at d one;
          others = λ index d from end same.
              elim (cases_order index at) [
                | inl e ↦ grind (arith, get_or_default)
                | inr (inl before_) ↦
                    let chained : chain_at hash configs d index ≡ chain_at hash configs d at =
                    chain_same hash (get_or configs index d) config same ∙ sym (f.here at d one) in
                    absurd (omega (arith, from, is, (c.1 d).kept index at before_ below chained))
                | inr (inr behind) ↦ grind arith
              ];
        },
        less,
      )

module _ {S : Type 0} where
  -- the first ones are others, and so are the rest
  pub all_other : (configs : List (Config S)) (config : Config S) (from : ℕ)
      → AreOther configs 0 from config → All (λ known. ¬ (IsSame known config)) (drop from configs)
      → All (λ known. ¬ (IsSame known config)) configs
  all_other configs config from first rest index d below =
      elim (cases_lt index from) [
        | inl less ↦ first index d (omega arith) less
        | inr past ↦
            let at : from + (index - from) ≡ index = omega (arith, past) in
            subst (λ i. ¬ (IsSame (get_or configs i d) config)) at
            (rw (← get_or-drop from configs (index - from) d) (rest (index - from) d
            (omega (arith, length-drop from configs, below, past))))
      ]

  -- whether one of the rest is the same, where the first ones are others
  pub known_rest : (configs : List (Config S)) (config : Config S) (from : ℕ) (r : Bool)
      → AreOther configs 0 from config → IsKnown (drop from configs) config r
      → IsKnown configs config r
  known_rest configs config from true first is =
      let at = is.1.0 in (
        is.0,
        (
          from + at,
          omega (arith, length-drop from configs, is.1.1),
          sym (get_or-drop from configs at is.0) ∙ is.1.2,
        ),
        is.2,
      )
  known_rest configs config from false first is = all_other _ config _ first is

pub ruleset known_there = (known_rest, take_all, length-drop)
