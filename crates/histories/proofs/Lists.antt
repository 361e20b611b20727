-- Lists: how often a number stands in one, what is true of all pairs, changes index by index, and
-- orders that are read from links.
use Rattle.histories.proofs.Words.{[], ◌≤◌, length-append, ◌≡◌, ◌≢◌, ℕ, zero, suc, ◌+◌, ◌<◌, List, ◌∷◌, ◌++◌, length, take, drop, get_or, refl, arith, inl, inr, eq-eqb, split_at, eqb_tells, AllPairs, get_or-append, get_or-append_right, cases_lt, get_or-append-add, slice_set, append-nil, take_all, set, sym, ◌∙◌, ap, Contains, map, get_or-map, cases_eq, Contains-get_or, AreEach, drop_all, get_or-set_other, get_or-set_same, get_or_default, length-set, length-map, Option, None, map-id, take-append-drop, reverse, append_assoc, get_or-append_seam, get_or_past, length-take-le, reverse-append, take_more, Config, Link, Event, IsFollowed, IsFrontier, Path, no_path, order_at, path_more, AreLaid, Grows, IsLaid, IsLaidOut, remove, ◌-◌, cases_order, Front, IsFrontOf, IsFirstOrder, IsOrder, AreAll, AreEnough}
use Rattle.histories.specs.Histories.{times}
use Rattle.histories.specs.Frontier.{orders, read}
use Rattle.std.proofs.lemmas.Iterator.Adapters.{YieldsList-from_vec}
use Rattle.std.proofs.lemmas.Iterator.Consumers.{YieldsList-end}
use Rattle.std.proofs.lemmas.List.Edits.{get_or-remove_above, get_or-remove_below, length-remove}
use Rattle.std.specs.Iterator.{Yields}
use Rattle.std.specs.declared.vec.IntoIter.{IntoIter}
use Rattle.std.specs.Vec.Iter.{into_iter_items, into_iter_len, into_iter_steps}

-- a number of which none is more than zero
pub not_some : (n : ℕ) → (0 < n → ⊥) → n ≡ 0
not_some zero h = refl
not_some (suc n) h = absurd (h (omega arith))

-- no more than may be followed are not too many
pub not_many : (n most : ℕ) → n ≤ most → most ≤ 4096 → ¬ (4096 < n)
not_many n most below few many = absurd (omega (arith, below, few, many))

pub times_none : (c : ℕ) → times c [] ≡ 0
unfolding times
times_none c = refl

pub times-cons : (c x : ℕ) (xs : List ℕ) → times c (x ∷ xs) ≡ times c (x ∷ []) + times c xs
unfolding times
times-cons c x xs = omega arith

pub times-append : (c : ℕ) (xs ys : List ℕ) → times c (xs ++ ys) ≡ times c xs + times c ys
times-append c [] ys = omega (arith, times_none c)
times-append c (x ∷ xs) ys =
    omega (arith, times-cons c x (xs ++ ys), times-cons c x xs, times-append c xs ys)

pub times_one : (c : ℕ) → times c (c ∷ []) ≡ 1
unfolding times
times_one c = rw (eq-eqb c c refl) refl

pub times_other : (c x : ℕ) → x ≢ c → times c (x ∷ []) ≡ 0
unfolding times
times_other c x ne = grind (arith, eqb_tells)

-- a number that stands in a list of one is that one
pub times_same : (c x : ℕ) → 0 < times c (x ∷ []) → x ≡ c
times_same c x h = grind (arith, eqb_tells, times_other)

-- what stands at an index stands in the list
pub times_at : (xs : List ℕ) (i d : ℕ) → i < length xs → 0 < times (get_or xs i d) xs
times_at [] i d h = absurd (omega arith)
times_at (x ∷ xs) zero d h = omega (arith, times-cons x x xs, times_one x)
times_at (x ∷ xs) (suc i) d h =
    omega (arith, times-cons (get_or xs i d) x xs, times_at xs i d (omega (arith, h)))

-- what stands in the list stands at an index
pub at_times : (c : ℕ) (xs : List ℕ) → 0 < times c xs
    → (i : ℕ) × (i < length xs) × (get_or xs i 0 ≡ c)
at_times c [] h = absurd (omega (arith, times_none c))
at_times c (x ∷ xs) h =
    elim (eqb_tells x c) [
      | inl t ↦ (0, omega arith, t.1)
      | inr f ↦
          let more : (i : ℕ) × (i < length xs) × (get_or xs i 0 ≡ c) =
          at_times c xs (omega (arith, times-cons c x xs, times_other c x f.1)) in
          (suc more.0, omega (arith, more.1), more.2)
    ]

-- a number stands in the list once where it stands at one index alone
pub times_once : (c : ℕ) (xs : List ℕ)
    → ((i j : ℕ) → i < length xs → j < length xs → get_or xs i 0 ≡ c → get_or xs j 0 ≡ c → i ≡ j)
    → times c xs ≤ 1
times_once c [] one = omega (arith, times_none c)
times_once c (x ∷ xs) one =
    let rest : times c xs ≤ 1 = times_once c xs (λ i j h k a b.
    omega (arith, one (suc i) (suc j) (omega (arith, h)) (omega (arith, k)) a b)) in
    elim (eqb_tells x c) [
      | inr f ↦ omega (arith, rest, times-cons c x xs, times_other c x f.1)
      | inl t ↦ elim (cases_lt 0 (times c xs)) [
        | inl again ↦
            let at = at_times c xs again in
            absurd (omega (arith, one 0 (suc at.0) (omega arith) (omega (arith, at.1)) t.1 at.2))
        | inr none ↦
            let here : times c (x ∷ []) ≡ 1 = rw t.1 (times_one c) in
            omega (arith, none, times-cons c x xs, here)
      ]
    ]

-- a list around a number that stands in it
pub split_times : (c : ℕ) (xs : List ℕ) → 0 < times c xs
    → (before : List ℕ) × (after : List ℕ) × (xs ≡ before ++ c ∷ after)
split_times c xs h =
    let at = at_times _ _ h in (
      take at.0 xs,
      drop (suc at.0) xs,
      rw at.2 at (split_at xs at.0 0 at.1),
    )

-- it is the empty list where no number stands in it
pub no_times : (xs : List ℕ) → ((c : ℕ) → times c xs ≡ 0) → xs ≡ []
no_times [] none = refl
no_times (x ∷ xs) none = absurd (omega (arith, none x, times-cons x x xs, times_one x))

-- a number that stands in the order is not one that does not
pub apart : (order : List ℕ) (call c : ℕ) → times call order ≡ 0 → 0 < times c order
    → times c (call ∷ []) ≡ 0
apart order call c none some = times_other _ _ (λ e. absurd (omega (arith, rw e at none, some)))

-- what is true of all pairs of a list is true of those of its front
pub all_pairs_front : (P : ℕ → ℕ → Type 0) (xs ys : List ℕ) → AllPairs P (xs ++ ys) → AllPairs P xs
all_pairs_front P xs ys all = grind (arith, get_or-append, length-append)

-- and of its back
pub all_pairs_back : (P : ℕ → ℕ → Type 0) (xs ys : List ℕ) → AllPairs P (xs ++ ys) → AllPairs P ys
all_pairs_back P xs ys all = grind (arith, get_or-append-add, length-append)

-- and of a number with each behind it
pub all_pairs_behind : (P : ℕ → ℕ → Type 0) (xs ys : List ℕ) (x y : ℕ)
    → AllPairs P (xs ++ x ∷ ys) → 0 < times y ys → P x y
all_pairs_behind P xs ys x y all h =
    let at = at_times _ _ h in
    rw at.2 at (all_pairs_back P xs (x ∷ ys) all 0 (suc at.0) 0 (omega arith)
    (omega (arith, at.1)))

-- what is true of all pairs of two lists, and across them, is true of those of both
pub all_pairs_join : (P : ℕ → ℕ → Type 0) (xs ys : List ℕ) → AllPairs P xs → AllPairs P ys
    → ((x y : ℕ) → 0 < times x xs → 0 < times y ys → P x y) → AllPairs P (xs ++ ys)
all_pairs_join P xs ys a b across =
    grind (arith, cases_lt, get_or-append, length-append, get_or-append_right, times_at)

-- up to an index each value is related to the one that was there, and from there on it is that one
pub record AreDone {X : Type 0} (R : X → X → Type 0) (olds now : List X) (at : ℕ) : Type 0 where
  pub many : length now ≡ length olds
  pub done : (index : ℕ) (d : X) → index < at → R (get_or olds index d) (get_or now index d)
  pub rest : (index : ℕ) (d : X) → at ≤ index → get_or now index d ≡ get_or olds index d

pub less_of : (i n : ℕ) → i < n + 1 → i ≢ n → i < n
less_of i n h ne = grind (arith, cases_lt)

-- one index more
pub done_more : {X : Type 0} (R : X → X → Type 0) (olds now : List X) (at : ℕ) (item one : X)
    → at < length now → item ≡ get_or now at item → R item one → AreDone R olds now at
    → AreDone R olds (set now at one) (at + 1)
done_more {X} R olds now at item one h is r a =
    grind (arith, length-set, cases_eq, get_or-set_same, get_or_default, get_or-set_other, less_of)

-- the same by a relation that follows
pub done_as : {X : Type 0} (P Q : X → X → Type 0) (olds now : List X) (at : ℕ)
    → ((x y : X) → P x y → Q x y) → AreDone P olds now at → AreDone Q olds now at
done_as P Q olds now at follows a = grind arith

-- from each a new one has come, and each has a new one
pub each_from : {X : Type 0} (R : X → X → Type 0) (olds news : List X) (y : X) → AreEach R olds news
    → Contains news y → (x : X) × Contains olds x × R x y
each_from R olds news y e has = grind (arith, Contains-get_or)

pub each_to : {X : Type 0} (R : X → X → Type 0) (olds news : List X) (x : X) → AreEach R olds news
    → Contains olds x → (y : X) × Contains news y × R x y
each_to R olds news x e has = grind (arith, Contains-get_or)

-- what was changed in place is all there is
pub put_back : {X : Type 0} (new old : List X) (len : ℕ) → length new ≡ length old
    → len ≡ length old → take len (new ++ drop (length new) old) ≡ new
put_back new old len many is = grind (arith, drop_all, append-nil, take_all)

-- a loop over a vector that it owns ends once it took all items
pub all_taken : {A Z : Type 0} (s t u : IntoIter A Z) (r : Option A) (items taken : List A)
    → into_iter_items s ≡ items → into_iter_len s ≡ length items
    → Yields into_iter_steps s taken t → r ≡ None → into_iter_steps t r u → taken ≡ items
all_taken s t u r items taken all many by none end =
    sym (map-id taken)
    ∙ (YieldsList-end (YieldsList-from_vec {s = s} items all many) taken t by r u none end).0

-- a list of none has none
pub nothing_in : {X : Type 0} (k : X) → ¬ (Contains [] k)
nothing_in k has = absurd (omega (arith, has.1))

-- the one that a list of one has
pub only : {X : Type 0} (x k : X) → Contains (x ∷ []) k → k ≡ x
only x k has = grind arith

-- a list of one value, and the same where another is put in its stead
pub one_of_one : {X : Type 0} (xs : List X) (x y : X) → length xs ≡ 1 → x ≡ get_or xs 0 x
    → (xs ≡ x ∷ []) × (slice_set xs 0 y ≡ y ∷ [])
one_of_one [] x y one is = absurd (omega (arith, one))
one_of_one (z ∷ []) x y one is = (ap (λ v. v ∷ []) (sym is), refl)
one_of_one (z ∷ w ∷ xs) x y one is = absurd (omega (arith, one))

-- what is no more there once another one is removed was that one
still : {X : Type 0} (ys : List X) (i : ℕ) (x y : X) → i < length ys → get_or ys i x ≡ x
    → Contains ys y → y ≢ x → Contains (remove ys i) y
still ys i x y within is (k, below, has) ne =
    elim (cases_order k i) [
      | inl e ↦ absurd (ne (sym has ∙ (ap (λ n. get_or ys n y) e ∙ (get_or_default ys i y x within ∙ is))))
      | inr (inl less) ↦ (
        k,
        omega (arith, less, within, length-remove ys i within),
        get_or-remove_below ys i y k less within ∙ has,
      )
      | inr (inr more) ↦
          let before : (k - 1) + 1 ≡ k = omega (arith, more) in (
            k - 1,
            omega (arith, more, below, length-remove ys i within),
            get_or-remove_above ys i y (k - 1) (omega (arith, more)) within
                ∙ (ap (λ n. get_or ys n y) before ∙ has),
          )
    ]

-- values that differ, each of which is one of others, are no more than these
pub no_more : {X : Type 0} (xs ys : List X) → AllPairs (λ a b. a ≢ b) xs
    → ((x : X) → Contains xs x → Contains ys x) → length xs ≤ length ys
no_more [] ys differ inside = omega arith
no_more (x ∷ xs) ys differ inside =
    let at = inside x (0, omega arith, refl) in
    let fewer =
    no_more xs (remove ys at.0)
    (λ i j d less below. differ (suc i) (suc j) d (omega (arith, less)) (omega (arith, below)))
    (λ y has. still ys at.0 x y at.1 at.2 (inside y (suc has.0, omega (arith, has.1), has.2))
    (λ e. differ 0 (suc has.0) y (omega arith) (omega (arith, has.1)) (sym e ∙ sym has.2))) in
    omega (arith, fewer, length-remove ys at.0 at.1)

-- what stands in the list of the values of others
pub contains_map_of : {X Y : Type 0} (f : X → Y) (xs : List X) (x : X) → Contains xs x
    → Contains (map f xs) (f x)
contains_map_of f xs x has =
    (has.0, omega (arith, has.1, length-map xs f), get_or-map f xs has.0 x ∙ ap f has.2)

contains_map_at : {X Y : Type 0} (f : X → Y) (xs : List X) (y : Y) (i : ℕ)
    → i < length (map f xs) → get_or (map f xs) i y ≡ y → (x : X) × Contains xs x × (f x ≡ y)
contains_map_at f [] y i h is = absurd (omega (arith, h))
contains_map_at f (x ∷ xs) y zero h is = (x, (0, omega arith, refl), is)
contains_map_at f (x ∷ xs) y (suc i) h is =
    let r = contains_map_at f xs y i (omega (arith, h)) is in
    (r.0, (suc r.1.0, omega (arith, r.1.1), r.1.2), r.2)

pub contains_of_map : {X Y : Type 0} (f : X → Y) (xs : List X) (y : Y) → Contains (map f xs) y
    → (x : X) × Contains xs x × (f x ≡ y)
contains_of_map f xs y has = contains_map_at _ _ _ _ has.1 has.2

orders_append : (known : List (List ℕ)) (xs ys : List Link)
    → orders known (xs ++ ys) ≡ orders (orders known xs) ys
unfolding orders
orders_append known [] ys = refl
orders_append known (x ∷ xs) ys =
    orders_append (known ++ (get_or known x.before [] ++ x.call ∷ []) ∷ []) xs ys

orders_length : (known : List (List ℕ)) (xs : List Link)
    → length (orders known xs) ≡ length known + length xs
unfolding orders
orders_length known [] = omega arith
orders_length known (x ∷ xs) =
    let one : List ℕ = get_or known x.before [] ++ x.call ∷ [] in
    omega (arith, orders_length (known ++ one ∷ []) xs, length-append known (one ∷ []))

-- those that are known stay
orders_keep : (known : List (List ℕ)) (xs : List Link) (n : ℕ) → n < length known
    → get_or (orders known xs) n [] ≡ get_or known n []
unfolding orders
orders_keep known [] n h = refl
orders_keep known (x ∷ xs) n h =
    let one : List ℕ = get_or known x.before [] ++ x.call ∷ [] in
    orders_keep (known ++ one ∷ []) xs n (omega (arith, h, length-append known (one ∷ [])))
    ∙ get_or-append known (one ∷ []) [] n h

pub read_zero : (links : List Link) → read links 0 ≡ []
unfolding read
read_zero links = orders_keep _ _ _ (omega arith)

-- what was read is read still where there are more links
read_keep : (links others : List Link) (n : ℕ) → n ≤ length links
    → read (links ++ others) n ≡ read links n
unfolding read
read_keep links others n h = grind (arith, orders_append, orders_keep, orders_length)

-- one link more
read_push : (links : List Link) (link : Link)
    → read (links ++ link ∷ []) (length links + 1) ≡ read links link.before ++ link.call ∷ []
unfolding read orders
read_push links link =
    let known : List (List ℕ) = orders ([] ∷ []) links in
    let one : List ℕ = get_or known link.before [] ++ link.call ∷ [] in
    let many : length links + 1 ≡ length known = omega (arith, orders_length ([] ∷ []) links) in
    ap (λ (l : List (List ℕ)). get_or l (length links + 1) [])
    (orders_append ([] ∷ []) links (link ∷ []))
    ∙ (ap (λ n. get_or (known ++ one ∷ []) n []) many ∙ get_or-append_seam known one [] [])

-- past all links nothing is read
read_past : (links : List Link) (base : ℕ) → length links < base → read links base ≡ []
unfolding read
read_past links base h =
    get_or_past (orders ([] ∷ []) links) base [] (omega (arith, h, orders_length ([] ∷ []) links))

left_short : (front : List Link) (at left : ℕ) (link : Link) → length front ≡ at
    → (link.before ≤ at → left ≡ link.before) → (at < link.before → left ≡ 0) → left ≤ length front
left_short front at left link long same none = grind (arith, cases_lt)

-- the number, or 0 where more links are asked for than there are
pub read_bounded : (links : List Link) (base left : ℕ)
    → (base ≤ length links → left ≡ base) → (length links < base → left ≡ 0)
    → read links base ≡ read links left
read_bounded links base left same none = grind (arith, cases_lt, read_past, read_zero)

-- one call more is read
pub read_step : (links : List Link) (at left : ℕ) (link : Link) → at < length links
    → link ≡ get_or links at link → (link.before ≤ at → left ≡ link.before)
    → (at < link.before → left ≡ 0) → read links (at + 1) ≡ read links left ++ link.call ∷ []
read_step links at left link h is same none =
    let front : List Link = take at links in
    let rest : List Link = drop (at + 1) links in
    let long : length front ≡ at = length-take-le at links (omega arith) in
    let whole : (front ++ link ∷ []) ++ rest ≡ links = grind (arith, take_more, take-append-drop) in
    let here : read links (at + 1) ≡ read (front ++ link ∷ []) (at + 1) =
    ap (λ (l : List Link). read l (at + 1)) (sym whole) ∙ read_keep _ _ _
    (omega (arith, long, length-append front (link ∷ []))) in
    let last : read (front ++ link ∷ []) (at + 1) ≡ read front link.before ++ link.call ∷ [] =
    ap (λ n. read (front ++ link ∷ []) (n + 1)) (sym long) ∙ read_push _ _ in
    let before : read front link.before ≡ read links left =
    read_bounded _ _ _ (λ few. same (omega (arith, few, long)))
    (λ many. none (omega (arith, many, long)))
    ∙ (sym (read_keep _ _ _ (left_short _ at left link long same none))
    ∙ ap (λ (l : List Link). read l left) (take-append-drop at links)) in
    here ∙ (last ∙ ap (λ (o : List ℕ). o ++ link.call ∷ []) before)

-- the calls that were read, the last one first
pub read_more : (links : List Link) (base at left : ℕ) (link : Link) (found : List ℕ)
    → at < length links → link ≡ get_or links at link
    → (link.before ≤ at → left ≡ link.before) → (at < link.before → left ≡ 0)
    → read links base ≡ read links (at + 1) ++ reverse found
    → read links base ≡ read links left ++ reverse (found ++ link.call ∷ [])
read_more links base at left link found h is same none before =
    before ∙ (ap (λ (o : List ℕ). o ++ reverse found) (read_step _ at left link h is same none)
    ∙ (append_assoc (read links left) (link.call ∷ []) (reverse found)
    ∙ ap (λ (o : List ℕ). read links left ++ o) (sym (reverse-append found (link.call ∷ [])))))

pub length_grows : (links more : List Link) → Grows links more → length links ≤ length more
length_grows links more g = omega (arith, ap length g.1, length-append links g.0)

pub read_grows : (links more : List Link) (n : ℕ) → Grows links more → n ≤ length links
    → read more n ≡ read links n
read_grows links more n g h = ap (λ (l : List Link). read l n) g.1 ∙ read_keep _ _ _ h

pub grows_then : (links mid more : List Link) → Grows links mid → Grows mid more → Grows links more
grows_then links mid more f g = grind (arith, append_assoc)

pub grows_none : (links : List Link) → Grows links links
grows_none links = ([], sym (append-nil links))

-- a path with more calls is read to an order with more calls
pub order_more : (links : List Link) (path : Path) (calls : List ℕ)
    → order_at links (path_more path calls) ≡ order_at links path ++ calls
order_more links path calls = sym (append_assoc (read links path.base) path.calls calls)

pub order_none : (links : List Link) → order_at links no_path ≡ []
order_none links = append-nil (read links 0) ∙ read_zero _

pub laid_out_none : (links : List Link) (base : ℕ) → IsLaidOut links base [] links base
laid_out_none links base = (grows_none _, λ within. (within, sym (append-nil (read links base))))

-- one call more
pub laid_out_more : (links mid : List Link) (base at : ℕ) (calls : List ℕ) (link : Link)
    → at < length calls → link.call ≡ get_or calls at 0
    → IsLaidOut links base (take at calls) mid link.before
    → IsLaidOut links base (take (at + 1) calls) (mid ++ link ∷ []) (length mid + 1)
laid_out_more links mid base at calls link h is l = (
  grows_then _ _ _ l.0 (link ∷ [], refl),
  λ within. (
    omega (arith, length-append mid (link ∷ [])),
    read_push _ _ ∙ (ap (λ (o : List ℕ). o ++ link.call ∷ []) (l.1 within).1
        ∙ (append_assoc (read links base) (take at calls) (link.call ∷ [])
        ∙ ap (λ (t : List ℕ). read links base ++ t)
        (ap (λ c. take at calls ++ c ∷ []) is ∙ sym (take_more calls at 0 h)))),
  ),
)

module _ {S : Type 0} where
  -- with fewer links before it, and more after it
  pub laid_within : (links mid more last : List Link) (config laid : Config S) → Grows links mid
      → Grows more last → IsLaid mid more config laid → IsLaid links last config laid
  laid_within links mid more last config laid g h l = (
    l.0,
    l.1,
    grows_then _ _ _ g (grows_then _ _ _ l.2 h),
    λ within.
        let is = l.3 (omega (arith, within, length_grows links mid g)) in (
          omega (arith, is.0, length_grows more last h),
          ap (λ (o : List ℕ). o ++ laid.made.items) (read_grows _ _ _ h is.0)
              ∙ (is.1 ∙ ap (λ (o : List ℕ). o ++ config.made.items) (read_grows _ _ _ g within)),
        ),
  )

module _ {S : Type 0} (Step : S → ℕ → S → Type 0) where
  laid_followed : (links more : List Link) (slots : List (Option ℕ)) (es : List Event)
      (olds : List S) (config laid : Config S) → IsLaid links more config laid
      → IsFollowed Step links slots es olds config → IsFollowed Step more slots es olds laid
  laid_followed links more slots es olds config laid l f = grind arith

  -- the same configurations with the same orders
  pub frontier_laid : (links more : List Link) (slots : List (Option ℕ)) (es : List Event)
      (olds : List S) (configs laid : List (Config S)) → AreLaid links more configs laid
      → IsFrontier Step links slots es olds configs → IsFrontier Step more slots es olds laid
  frontier_laid links more slots es olds configs laid a f = record {
    sound = λ k has.
        let from = each_from (IsLaid links more) configs laid k a.1 has in
        laid_followed links more slots es olds from.0 k from.2 (f.sound from.0 from.1);
    complete = λ old order new from ex.
        let lead = f.complete old order new from ex in
        let config = lead.2.0 in
        let run = lead.2.2 in
        let one = each_to (IsLaid links more) configs laid config a.1 lead.2.1 in
        let k = one.0 in
        let is = one.2 in (
          lead.0,
          lead.1,
          (k, one.1, (run.0, run.1, rw is.0 (rw (← is.1) at run.2), run.3)),
        );
    once = λ i j d less within same. grind arith;
    table = f.table;
  }

-- the calls of the links, and those that were made since
pub order_first : {S : Type 0} (front : Front S) (k : Config S) (known order : List ℕ)
    → 0 < length front.configs.items → k ≡ get_or front.configs.items 0 k
    → known ≡ read front.links.items k.base → order ≡ known ++ k.made.items
    → IsFirstOrder front order
order_first {S} front k known order some is reads all d = grind (arith, get_or_default)

first_of : {X : Type 0} (xs : List X) → 0 < length xs → X
first_of [] some = absurd (omega arith)
first_of (x ∷ xs) some = x

-- it explains what the front is of
pub first_explains : {S : Type 0} (Step : S → ℕ → S → Type 0) (front : Front S) (es : List Event)
    (olds : List S) (order : List ℕ) → IsFrontOf Step front es olds
    → 0 < length front.configs.items → IsFirstOrder front order → IsOrder Step es olds order
first_explains {S} Step front es olds order f some is =
    let d : Config S = first_of _ some in
    let k = get_or front.configs.items 0 d in
    let followed = f.sound k (0, some, get_or_default front.configs.items 0 k d some) in (
      followed.old,
      k.state,
      followed.from,
      rw (is d) followed.explains,
    )

-- one value, or none, is enough where that is all
pub enough : {S : Type 0} (Fact : S → Type 0) (xs : List S) → length xs ≤ 1 → AreAll Fact xs
    → AreEnough Fact xs
enough Fact xs few all =
    (all.0, λ i j d less below. absurd (omega (arith, few, less, below)), inl all.1)
