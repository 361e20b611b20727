-- Listings by a callback that puts what it is shown into an array, and by one that also counts it.
use Rattle.iox2sd.proofs.Names.{Bool, ContainerState, CountsIn, Entry, Id, IfNone, IfSome, IsTrue, LacksRole, List, ListsIn, None, Option, PatternKind, Port, PortDetails, Ports, Role, Service, Some, Visit, [], add-one, ap, arith, count_by-le-length, details_where, drop, false, filter, first_role, id_of, if◌then◌else◌, inl, inr, is_of, length, length-filter, listed, map, node_of, ports_of_node, refl, role_at, roles_differ, second_role, slice_set, subst, suc, sym, true, true≢false, ℕ, ◌++◌, ◌+◌, ◌<◌, ◌^◌, ◌↔◌, ◌∙◌, ◌∷◌, ◌≡◌, ◌≤◌}
use Rattle.iox2sd.specs.Ports.{c_port}
use Rattle.iox2sd.specs.Listings.{Counts, ListsAll, NeedsMore, Notes, NotesAll, NotesOfRole, PortsOf, Puts, PutsAll, PutsAt, Stand, nodes_in, ports_in, ports_of_kind}
use Rattle.iox2_texts.specs.declared.bounded.CallbackProgression.TheVariants.{Continue, Stop}
use Rattle.iox2_texts.specs.declared.bounded.CallbackProgression.{CallbackProgression}
use Rattle.iox2_texts.specs.Attribute.{Visits}
use Rattle.std.specs.Bool.{beq}
use Rattle.std.specs.Option.{option_eq}
use Rattle.iox2_dynamic.specs.Ports.{side_of}
use Rattle.std.proofs.lemmas.List.{append-nil, append_assoc, length-append, length-map, length-set, map-append}
use Rattle.std.proofs.Math.Seq.{set-append_seam, drop-cons}
use Rattle.iox2_container.specs.State.{entry_as, container_as}
use Rattle.iox2_container.proofs.Lists.{filter-map}

puts_all : {A : Type 0} (before : List A × ℕ) (items : List A) (after : List A × ℕ)
    → Visits Puts before items after → PutsAll items before after
puts_all before [] after end done left is n fits = ap (λ p. p.0) end ∙ is
    ∙ ap (λ l. l ++ left) (sym (append-nil done))
puts_all before (x ∷ xs) after steps done [] is n fits = absurd (omega (arith, fits))
puts_all before (x ∷ xs) after (inl full) done (y ∷ left) is n fits =
    absurd (omega (arith, full, n, ap length is, length-append done (y ∷ left)))
puts_all {A} before (x ∷ xs) after (inr goes) done (y ∷ left) is n fits =
    let between : goes.0.0 ≡ (done ++ x ∷ []) ++ left =
    goes.1.1 ∙ ap (λ (l : List A). slice_set l before.1 x) is
    ∙ ap (λ i. slice_set (done ++ y ∷ left) i x) (sym n)
    ∙ set-append_seam done y left x ∙ sym (append_assoc done (x ∷ []) left) in
    puts_all goes.0 xs after goes.2 (done ++ x ∷ []) left between
    (length-append done (x ∷ []) ∙ omega (arith, n, goes.1.2)) (omega (arith, fits))
    ∙ ap (λ (l : List A). l ++ drop (length xs) left) (append_assoc done (x ∷ []) xs)

-- a visit by a closure that holds the array, of which something stays true
module _ {F T A : Type 0} (calls : F → T → CallbackProgression → F → Type 0) (k : F → List A × ℕ)
    (item : T → A) (I : F → Type 0)
    (step : (f : F) (x : T) (r : CallbackProgression) (h : F) → I f → calls f x r h → I h
    × Puts (k f) (item x) r (k h)) where
  visits_put : (f : F) (items : List T) (h : F) → I f → Visits calls f items h → I h
      × Visits Puts (k f) (map item items) (k h)
  visits_put f [] h i end = (subst I (sym end) i, ap k end)
  visits_put f (x ∷ xs) h i (inl stopped) = let s = step f x Stop h i stopped in (s.0, inl s.1)
  visits_put f (x ∷ xs) h i (inr goes) =
      let s = step f x Continue goes.0 i goes.1 in let rest = visits_put goes.0 xs h s.0 goes.2 in
      (rest.0, inr (k goes.0, s.1, rest.1))

  pub all_put : (f : F) (items : List T) (h : F) → I f → Visit calls f items h → I h
      × PutsAll (map item items) (k f) (k h)
  all_put f items h i visit = let v = visits_put f items h i visit.visits in
      (v.0, puts_all (k f) (map item items) (k h) v.1)

shown_as : {T : Type 0} (details : T → PortDetails) (es : List (Entry T))
    → map (λ x. c_port (details x)) (map (λ e. e.details) es)
    ≡ map c_port (map (λ e. e.details) (map (entry_as details) es))
shown_as details [] = refl
shown_as details (e ∷ es) = ap (λ l. c_port (details e.details) ∷ l) (shown_as details es)

-- a listing of the ports of one kind, with the details of their own
pub kind_put : {F T : Type 0} (details : T → PortDetails)
    (calls : F → T → CallbackProgression → F → Type 0) (k : F → List Port × ℕ) (I : F → Type 0)
    → ((f : F) (x : T) (r : CallbackProgression) (h : F) → I f → calls f x r h → I h
    × Puts (k f) (c_port (details x)) r (k h))
    → (ports : ContainerState T) (f h : F) → I f → Visit calls f (listed ports.registry) h
    → I h × PutsAll (ports_in (container_as details ports)) (k f) (k h)
kind_put details calls k I step ports f h i visit =
    let all =
    all_put calls k (λ x. c_port (details x)) I step f (listed ports.registry) h i visit in
    (all.0, subst (λ l. PutsAll l (k f) (k h)) (shown_as details ports.registry.entries) all.1)

as_long : {T A : Type 0} (item : T → A) (state : ContainerState T)
    → length (map item (listed state.registry)) ≡ length state.registry.entries
as_long item state = length-map (listed state.registry) item
    ∙ length-map state.registry.entries (λ e. e.details)

-- the ports of a role, as many as were counted
pub counted : (s : Service) (role : Role) (n : ℕ)
    → CountsIn (first_role s.pattern) (second_role s.pattern) s.ports role (Some n)
    → (ports : List Port) × PortsOf s role ports × (n ≡ length ports)
counted s role n (inl found) =
    (ports_in s.ports.first, inl (found.0, refl), found.1 ∙ sym (as_long c_port s.ports.first))
counted s role n (inr found) =
    (ports_in s.ports.second, inr (found.0, refl), found.1 ∙ sym (as_long c_port s.ports.second))

-- the nodes, as many as were counted
pub counted_nodes : (nodes : ContainerState ℕ) (n : ℕ) → n ≡ length nodes.registry.entries
    → n ≡ length (nodes_in nodes)
counted_nodes nodes n count = count ∙ sym (as_long id_of nodes)

-- a role is that of the first kind where its side says so
pub is_first : (pattern : PatternKind) (role : Role) (side : Option Bool)
    → IfSome side (λ first. role ≡ role_at pattern (side_of first))
    → IfNone side (LacksRole pattern role)
    → IsTrue (option_eq beq side (Some true)) ↔ (role ≡ first_role pattern)
is_first pattern role (Some true) some none = ((λ _. some), (λ _. refl))
is_first pattern role (Some false) some none =
    ((λ t. absurd (true≢false (sym t))), (λ e. absurd (roles_differ pattern (sym e ∙ some))))
is_first pattern role None some none =
    ((λ t. absurd (true≢false (sym t))), (λ e. absurd (none.0 e)))

-- its ports are those of that kind
pub of_kind : (s : Service) (role : Role) (is_first : Bool)
    → (IsTrue is_first ↔ (role ≡ first_role s.pattern)) → (ports : List Port)
    → PortsOf s role ports → ports_of_kind is_first s.ports ≡ ports
of_kind s role true same ports (inl is) = sym is.1
of_kind s role false same ports (inl is) = absurd (true≢false (sym (same.1 is.0)))
of_kind s role true same ports (inr is) =
    absurd (roles_differ s.pattern (sym (same.0 refl) ∙ is.0))
of_kind s role false same ports (inr is) = sym is.1

-- as many items as were counted stand at the front of an array that has room for them
pub at_front : {A : Type 0} (items before after : List A) (used n : ℕ) → n ≡ length items
    → PutsAll items (before, 0) (after, used) → n ≤ length before → ListsAll items before n after
at_front items before after used n count puts fits =
    let room : length items ≤ length before = subst (λ m. m ≤ length before) count fits in
    (room, puts [] before refl refl room, count)

-- or there are more than it has room for
pub too_many : {A : Type 0} (items before : List A) (n : ℕ) → n ≡ length items
    → length before < n → NeedsMore items before n before
too_many items before n count more =
    (subst (λ m. length before < m) count more, refl, count)

-- the array with one more item
put_behind : {A : Type 0} (before done old new : List A) (item : A) → old ≡ done
    ++ drop (length done) before → new ≡ slice_set old (length done) item
    → length done < length before → new ≡ (done ++ item ∷ [])
    ++ drop (length (done ++ item ∷ [])) before
put_behind {A} before done old new item was is room =
    let rest : List A = drop (suc (length done)) before in
    let as_long : suc (length done) ≡ length (done ++ item ∷ []) =
    sym (length-append done (item ∷ []) ∙ add-one (length done)) in
    is ∙ ap (λ (l : List A). slice_set l (length done) item)
    (was ∙ ap (λ (l : List A). done ++ l) (drop-cons before (length done) item room))
    ∙ set-append_seam done _ rest item ∙ sym (append_assoc done (item ∷ []) rest)
    ∙ ap (λ n. (done ++ item ∷ []) ++ drop n before) as_long

-- its count
count_behind : {A : Type 0} (before done new : List A) (item : A) (count : Option ℕ)
    → Counts (length done + 1) count → length new ≡ length before
    → (length (done ++ item ∷ []) ≤ length before → new ≡ (done ++ item ∷ [])
    ++ drop (length (done ++ item ∷ [])) before)
    → Stand before (done ++ item ∷ []) new count
count_behind before done new item (Some n) counts long is =
    (counts ∙ sym (length-append done (item ∷ [])), long, is)
count_behind before done new item None counts long is =
    (omega (arith, counts, length-append done (item ∷ [])), long)

pub noted : {A : Type 0} (old new : List A) (was count : Option ℕ) (item : A)
    → PutsAt was item old new → ((n : ℕ) → Counts n was → Counts (n + 1) count)
    → NotesAll (item ∷ []) (old, was) (new, count)
noted {A} old new (Some n) count item (inl puts) more before done s =
    count_behind before done new item count (more (length done) s.0)
    (ap length puts.1 ∙ length-set old n item ∙ s.1)
    (λ fits. put_behind before done old new item
    (s.2 (omega (arith, fits, length-append done (item ∷ []))))
    (puts.1 ∙ ap (λ i. slice_set old i item) s.0)
    (omega (arith, fits, length-append done (item ∷ []))))
noted old new (Some n) count item (inr full) more before done s =
    count_behind before done new item count (more (length done) s.0) (ap length full.1 ∙ s.1)
    (λ fits. absurd (omega (arith, fits, length-append done (item ∷ []), full.0, s.0, s.1)))
noted old new None None item puts more before done s =
    (omega (arith, s.0, length-append done (item ∷ [])), ap length puts ∙ s.1)
noted old new None (Some n) item puts more before done s =
    absurd (omega (arith, more (length done) s.0, more (length done + 1) (omega (arith, s.0))))

-- a visit by a closure that holds the array and the count, of which something stays true
module _ {F T A N M : Type 0} (calls : F → T → CallbackProgression → F → Type 0) (array : F → N)
    (counter : F → M) (k : F → List A × Option ℕ) (p : T → Bool) (item : T → A) (I : F → Type 0)
    (step : (f : F) (x : T) (r : CallbackProgression) (h : F) → I f → calls f x r h
    → (array h ≡ array f) × (counter h ≡ counter f) × (r ≡ Continue) × I h
    × Notes (p x) (k f) (item x) (k h)) where
  note_more : (b : Bool) (x : T) (xs : List T) (f g h : List A × Option ℕ) → Notes b f (item x) g
      → NotesAll (map item xs) g h → NotesAll (map item (if b then x ∷ xs else xs)) f h
  note_more true x xs f g h one rest before done s =
      subst (λ (l : List A). Stand before l h.0 h.1) (append_assoc done (item x ∷ []) (map item xs))
      (rest before (done ++ item x ∷ []) (one before done s))
  note_more false x xs f g h one rest before done s =
      rest before done
      (subst (λ (l : List A). Stand before done l g.1) (sym one.0)
      (subst (λ (n : Option ℕ). Stand before done f.0 n) (sym one.1) s))

  visits_note : (f : F) (items : List T) (h : F) → I f → Visits calls f items h
      → (array h ≡ array f) × (counter h ≡ counter f)
      × NotesAll (map item (filter p items)) (k f) (k h)
  visits_note f [] h i end = (
    ap array end,
    ap counter end,
    λ before done s. subst (λ (q : List A × Option ℕ). Stand before (done ++ []) q.0 q.1)
        (ap k (sym end))
        (subst (λ (l : List A). Stand before l (k f).0 (k f).1) (sym (append-nil done)) s),
  )
  visits_note f (x ∷ xs) h i (inl stopped) =
      (let z : Stop ≡ Continue = (step f x Stop h i stopped).2 in cc)
  visits_note f (x ∷ xs) h i (inr goes) =
      let s = step f x Continue goes.0 i goes.1 in
      let rest = visits_note goes.0 xs h s.3 goes.2 in (
        rest.0 ∙ s.0,
        rest.1 ∙ s.1,
        note_more (p x) x (filter p xs) (k f) (k goes.0) (k h) s.4 rest.2,
      )

-- a listing of the ports of a role, of which those of a node are put and counted
pub ports_noted : {F N M : Type 0} (calls : F → PortDetails → CallbackProgression → F → Type 0)
    (array : F → N) (counter : F → M) (k : F → List Port × Option ℕ) (node : ℕ) (I : F → Type 0)
    → ((f : F) (x : PortDetails) (r : CallbackProgression) (h : F) → I f → calls f x r h
    → (array h ≡ array f) × (counter h ≡ counter f) × (r ≡ Continue) × I h
    × Notes (is_of node_of node x) (k f) (c_port x) (k h))
    → (s : Service) (role : Role) (f : F) (found : Bool) (h : F) → I f
    → ListsIn calls (first_role s.pattern) (second_role s.pattern) s.ports role f found h
    → (array h ≡ array f) × (counter h ≡ counter f) × NotesOfRole s role node (k f) (k h)
ports_noted calls array counter k node I step s role f false h i shown =
    (ap array shown.1, ap counter shown.1, (λ e. absurd (shown.0.0 e), λ e. absurd (shown.0.1 e)))
ports_noted calls array counter k node I step s role f true h i (inl shown) =
    let all =
    visits_note calls array counter k (is_of node_of node) c_port I step f
    (listed s.ports.first.registry) h i shown.1.visits in
    let its =
    subst (λ (l : List PortDetails). NotesAll (map c_port l) (k f) (k h))
    (filter-map (is_of node_of node) (λ e. e.details) s.ports.first.registry.entries) all.2 in
    (all.0, all.1, (λ e. its, λ e. absurd (roles_differ s.pattern (sym shown.0 ∙ e))))
ports_noted calls array counter k node I step s role f true h i (inr shown) =
    let all =
    visits_note calls array counter k (is_of node_of node) c_port I step f
    (listed s.ports.second.registry) h i shown.1.visits in
    let its =
    subst (λ (l : List PortDetails). NotesAll (map c_port l) (k f) (k h))
    (filter-map (is_of node_of node) (λ e. e.details) s.ports.second.registry.entries) all.2 in
    (all.0, all.1, (λ e. absurd (roles_differ s.pattern (sym e ∙ shown.0)), λ e. its))

-- the ports of both kinds
pub both_noted : (xs ys : List PortDetails) (before : List Port)
    (between after : List Port × Option ℕ)
    → NotesAll (map c_port xs) (before, Some 0) between
    → NotesAll (map c_port ys) between after
    → Stand before (map c_port (xs ++ ys)) after.0 after.1
both_noted xs ys before between after first second =
    subst (λ (l : List Port). Stand before l after.0 after.1) (sym (map-append c_port xs ys))
    (second before (map c_port xs) (first before [] (refl, refl, λ fits. refl)))

few_of_one : (node : ℕ) (ports : ContainerState PortDetails)
    → length (details_where (is_of node_of node) ports.registry) ≤ length ports.registry.entries
few_of_one node ports =
    omega (
      arith,
      length-map (filter (λ e. is_of node_of node e.details) ports.registry.entries)
          (λ e. e.details),
      length-filter (λ e. is_of node_of node e.details) ports.registry.entries,
      count_by-le-length (λ e. is_of node_of node e.details) ports.registry.entries,
    )

-- a node has no more ports than there are
pub few_of_node : (node : ℕ) (ports : Ports)
    → length (map c_port (ports_of_node node ports))
    ≤ length ports.first.registry.entries + length ports.second.registry.entries
few_of_node node ports =
    omega (
      arith,
      length-map (ports_of_node node ports) c_port,
      length-append (details_where (is_of node_of node) ports.first.registry)
          (details_where (is_of node_of node) ports.second.registry),
      few_of_one node ports.first,
      few_of_one node ports.second,
    )

-- where all ports there are fit an array, those of a node stand in it
pub all_fit : (node : ℕ) (ports : Ports) (before after : List Port) (n : ℕ)
    → length ports.first.registry.entries + length ports.second.registry.entries ≤ length before
    → Stand before (map c_port (ports_of_node node ports)) after (Some n)
    → ListsAll (map c_port (ports_of_node node ports)) before n after
all_fit node ports before after n room s =
    let fits : length (map c_port (ports_of_node node ports)) ≤ length before =
    omega (arith, room, few_of_node node ports) in
    (fits, s.2 fits, s.0)

-- and they are not too many to be counted
pub not_too_many : (node : ℕ) (ports : Ports) (before after : List Port)
    → length before < 2 ^ 64
    → length ports.first.registry.entries + length ports.second.registry.entries ≤ length before
    → Stand before (map c_port (ports_of_node node ports)) after None → ⊥
not_too_many node ports before after long room s =
    omega (arith, long, room, s.0, few_of_node node ports)
