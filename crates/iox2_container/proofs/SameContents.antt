-- Two registries under the same calls: what each knows of the handles that it gave, how their
-- replies agree, and runs of calls.
use Rattle.iox2_container.proofs.Prelude.{AddStep, Adding, AgreesBy, All, AllZip, AllZip-push, Answered, Bool, CallRun, CallStep, ContainerAddFailure, ContainerRemoveError, ContainerState, Enters, Entry, EquallyMany, Err, Handle, HasRoom, IsFull, IsLocked, IsNew, IsPermutation, IsRegistry, IsTrue, Leaves, List, Made, None, Ok, Option, OutOfSpace, RecoverStep, RegistryCall, RegistryReply, RegistryState, ReleaseMode, ReleaseState, RemoveGiven, RemoveStep, Result, SameKind, SameReply, Some, [], ap, append-nil, append_assoc, arith, count_by, eq-eqb, eqb, eqb-true, get_or, handle_given, handle_in, handle_of, inl, inr, is_of, is_outside, length, length-append, length-map, length_permutation, list_all, listed, lock_after, not, refl, release_state, reply_of_add, reply_of_remove, rules, suc, sum_by-IsPermutation, sym, take, take_more, zero, ℕ, ⊤, ◌&&◌, ◌++◌, ◌+◌, ◌<◌, ◌↔◌, ◌∙◌, ◌∷◌, ◌≡◌, ◌≢◌}
use Rattle.std.proofs.lemmas.List.Sums.{AllPass-from_list_all, list_all-from_AllPass}
use Rattle.iox2_container.specs.declared.container.comparison.RegistryCall.TheVariants as Call
use Rattle.iox2_container.specs.declared.container.comparison.RegistryReply.TheVariants as Reply
use Rattle.iox2_container.proofs.Lists.{Among, of_all, gained}
use Rattle.iox2_container.proofs.Histories.{Grows, edits, grows_same, grows_add, grows_remove, grows_recover, same_key, ticket_of}
use Rattle.iox2_container.proofs.Callable.{answers_by}
use Rattle.iox2_container.proofs.SameEntries.{AreAmong, same_members, nothing_within, within_after_add, within_after_remove, within_after_filter, passing, staying_by}
use Rattle.iox2_container.proofs.Keeping.{new_is_registry}

-- a handle whose ticket was handed out is determined by its ticket
pub record Knows {T : Type 0} (r : RegistryState T) (handle : Handle) : Type 0 where
  pub ticket : handle.ticket < r.used
  pub same : (x : Entry T) → Among x r.entries → x.ticket ≡ handle.ticket → handle ≡ handle_of r x

knows_on : {T : Type 0} (old new : RegistryState T) (handle : Handle) → Grows old new
    → Knows old handle → Knows new handle
knows_on {T} old new handle m k = record {
  ticket = omega (arith, k.ticket, m.used);
  same = λ x a e. elim (m.entries x a) [
    | inl o ↦ k.same x o e ∙ same_key old new x m
    | inr n ↦ absurd (omega (arith, k.ticket, n, e))
  ];
}

-- the handle in a reply
abbrev pub given_by : {T : Type 0} → RegistryReply T → Option Handle
given_by reply = handle_in (Some reply)

-- the registry knows the handle that it gave
pub knows_added : {T : Type 0} (old new : RegistryState T) (d : T) (key : Handle) → IsRegistry old
    → AddStep old d (Ok key) new → Knows new key
knows_added {T} old new d key w s =
    let n : Enters old d key new = s.2 in
    let k : key.ticket ≡ old.used = ap (λ (h : Handle). h.ticket) n.0 in
    let m = edits old (Adding d (Ok key)) new s in
    record {
      ticket = omega (arith, k, ap (λ r. r.used) n.3);
      same = λ x a e. elim (m.was x a) [
        | inl o ↦ absurd (omega (
          arith,
          k,
          e,
          of_all (λ (z : Entry T). z.ticket < old.used) old.entries x w.tickets_used o.0,
        ))
        | inr q ↦ (let one : key ≡ handle_of old x = (cc) in one ∙ same_key old new x m.grows)
      ];
    }

-- each call leaves as it was what `Grows` says
module _ {T : Type 0} (node number : T → ℕ) (old : ContainerState T)
    (earlier : List (RegistryReply T)) (reply : RegistryReply T) (new : ContainerState T) where
  grows_given : (given : Option Handle) (mode : ReleaseMode) → RemoveGiven old given mode reply new
      → Grows old.registry new.registry
  grows_given None mode s = grows_same old.registry new.registry (ap (λ c. c.registry) s.1)
  grows_given (Some handle) mode s = grind (arith, grows_remove)

  pub grows_call : (call : RegistryCall T) → CallStep node number old earlier call reply new
      → Grows old.registry new.registry
  grows_call (Call.Add d) s = grows_add old.registry d s.result new.registry s.step.step
  grows_call (Call.Remove k mode) s = grows_given (handle_given earlier k) mode s
  grows_call (Call.Recover dead keys mode) s =
      grows_recover (is_of node dead) s.step.step.marked old.registry mode s.result new.registry
      s.step.step.recovers
  grows_call Call.List s = grows_same old.registry new.registry (ap (λ c. c.registry) s.step.1)
  grows_call Call.Len s = grows_same old.registry new.registry (ap (λ c. c.registry) s.1)

-- two handles of one ticket, each known to its registry, or no handle
abbrev pub KnowBoth : {T : Type 0} → RegistryState T → RegistryState T → Option Handle
    → Option Handle → Type 0
KnowBoth a b None None = ⊤
KnowBoth a b (Some h) (Some k) = (h.ticket ≡ k.ticket) × Knows a h × Knows b k
KnowBoth a b one other = ⊥

-- the handles in two lists of replies, one after another
abbrev pub KnowAll : {T : Type 0} → RegistryState T → RegistryState T → List (RegistryReply T)
    → List (RegistryReply T) → Type 0
KnowAll a b xs ys = AllZip (λ x y. KnowBoth a b (given_by x) (given_by y)) xs ys

-- they are still known after a call
module _ {T : Type 0} (a b a' b' : RegistryState T) (m : Grows a a') (n : Grows b b') where
  both_on : (one other : Option Handle) → KnowBoth a b one other → KnowBoth a' b' one other
  both_on None None k = tt
  both_on (Some h) (Some i) k = (k.0, knows_on a a' h m k.1, knows_on b b' i n k.2)
  both_on one other k = absurd k

  pub all_on : (xs ys : List (RegistryReply T)) → KnowAll a b xs ys → KnowAll a' b' xs ys
  all_on [] [] k = tt
  all_on (x ∷ xs) (y ∷ ys) k = (both_on (given_by x) (given_by y) k.0, all_on xs ys k.1)
  all_on xs ys k = absurd k

pub both_at : {T : Type 0} (a b : RegistryState T) (xs ys : List (RegistryReply T)) (i : ℕ)
    → KnowAll a b xs ys → KnowBoth a b (handle_given xs i) (handle_given ys i)
both_at a b [] [] i k = tt
both_at a b (x ∷ xs) (y ∷ ys) zero k = k.0
both_at a b (x ∷ xs) (y ∷ ys) (suc i) k = both_at a b xs ys i k.1
both_at a b xs ys i k = absurd k

-- two registries that hold the same
record SameContents {T : Type 0} (a b : RegistryState T) : Type 0 where
  pub one : IsRegistry a
  pub other : IsRegistry b
  pub capacity : a.capacity ≡ b.capacity
  pub budget : a.budget ≡ b.budget
  pub used : a.used ≡ b.used
  pub locked : a.locked ≡ b.locked
  pub there : AreAmong a.entries b.entries
  pub back : AreAmong b.entries a.entries

module _ {T : Type 0} {a b : RegistryState T} (v : IsRegistry a) (w : IsRegistry b)
    (there : AreAmong a.entries b.entries) (back : AreAmong b.entries a.entries) where
  same_listed : IsPermutation (listed a) (listed b)
  same_listed = same_members a.entries b.entries v.tickets_differ w.tickets_differ there back

  same_length : length a.entries ≡ length b.entries
  same_length = grind (arith, length_permutation, same_listed, length-map)

module _ {T : Type 0} {a b : RegistryState T} (l : SameContents a b) where
  turned : SameContents b a
  turned = grind arith

  as_long : length a.entries ≡ length b.entries
  as_long = same_length l.one l.other l.there l.back

  no_room : IsFull a → HasRoom b → ⊥
  no_room (inl e) q = omega (arith, e, q.0, l.capacity, as_long)
  no_room (inr e) q = omega (arith, e, q.1, l.budget, l.used)

  -- they still do, where only entries, locks and tickets changed
  alike_after : {a' b' : RegistryState T} {es fs : List (Entry T)} {k m : Bool} {u v : ℕ}
      → IsRegistry a' → IsRegistry b' → a' ≡ record a { entries = es; locked = k; used = u }
      → b' ≡ record b { entries = fs; locked = m; used = v } → u ≡ v → k ≡ m
      → AreAmong a'.entries b'.entries → AreAmong b'.entries a'.entries → SameContents a' b'
  alike_after va wb ea eb used locked there back = grind arith

  -- a removal finds an entry that another does not
  one_removes : (a' : RegistryState T) (mode : ReleaseMode) (h k : Handle) → h.ticket ≡ k.ticket
      → Knows b k → Leaves a h mode a' → All (λ x. k ≢ handle_of b x) b.entries → ⊥
  one_removes a' mode h k e kb p q =
      let w = l.there p.0.ticket p.0.details (p.0, gained a'.entries a.entries p.0 p.2, refl, refl)
      in
      of_all (λ z. k ≢ handle_of b z) b.entries w.0 q w.1
      (kb.same w.0 w.1 (sym w.2 ∙ (sym (ticket_of h (handle_of a p.0) p.1) ∙ e)))

-- what the same call does to two registries
record Outcome {T : Type 0} (a b : RegistryState T) (reply other : RegistryReply T) : Type 0 where
  pub same : SameReply reply other
  pub alike : SameContents a b
  pub handles : KnowBoth a b (given_by reply) (given_by other)

-- what stays, where the callback says of each candidate what a function says
left_by : {T : Type 0} (is_dead answer : T → Bool) (old new : RegistryState T)
    (mode : ReleaseMode) (state : ReleaseState)
    → RecoverStep {F = Unit {0}} (λ _ d goes _. goes ≡ answer d) is_dead old tt mode state new tt
    → new.entries ≡ passing (λ d. not (is_dead d && answer d)) old.entries
left_by is_dead answer old new mode state r =
    ap (λ s. s.entries) r.recovers.0
    ∙ staying_by is_dead answer r.marked old.entries
    (answers_by {F = Unit {0}} {K = Unit {0}} (λ _ d goes _. goes ≡ answer d) (λ q. q) (λ _. answer)
    (λ q x r v e. (refl, e)) tt _ _ tt r.called)

module _ {T : Type 0} {a b a' b' : RegistryState T} (l : SameContents a b) (v : IsRegistry a')
    (w : IsRegistry b') where
  add_same : (d : T) (r s : Result Handle ContainerAddFailure) → AddStep a d r a'
      → AddStep b d s b' → Outcome a' b' (reply_of_add r) (reply_of_add s)
  add_same d (Err IsLocked) (Err IsLocked) p q = grind arith
  add_same d (Err OutOfSpace) (Err OutOfSpace) p q = grind arith
  add_same d (Err OutOfSpace) (Ok k) p q = absurd (no_room l p.1 q.1)
  add_same d (Ok h) (Err OutOfSpace) p q = absurd (no_room (turned l) q.1 p.1)
  add_same d (Ok h) (Ok k) p q =
      let n : Enters a d h a' = p.2 in
      let m : Enters b d k b' = q.2 in
      let x : Entry T = record { slot = h.slot; ticket = a.used; details = d } in
      let y : Entry T = record { slot = k.slot; ticket = b.used; details = d } in
      record {
        same = tt;
        alike = alike_after l v w n.3 m.3 (ap (λ u. u + 1) l.used) l.locked
            (within_after_add a.entries b.entries a'.entries b'.entries x y n.2 m.2 l.used refl
            l.there)
            (within_after_add b.entries a.entries b'.entries a'.entries y x m.2 n.2
            (sym l.used) refl l.back);
        handles = (
          ticket_of h (handle_of a x) n.0 ∙ (l.used ∙ sym (ticket_of k (handle_of b y) m.0)),
          knows_added a a' d h l.one p,
          knows_added b b' d k l.other q,
        );
      }
  add_same d r s p q = cc (l.locked, p.0, q.0)

  module _ (mode : ReleaseMode) where
    -- entries went from both, and what is left is the same
    released_same : (t u : ReleaseState) {es fs : List (Entry T)}
        → a' ≡ record a {
          entries = es;
          locked = lock_after mode (length a.entries) (length a'.entries) a.locked;
        } → b' ≡ record b {
          entries = fs;
          locked = lock_after mode (length b.entries) (length b'.entries) b.locked;
        } → t ≡ release_state a'.locked → u ≡ release_state b'.locked
        → AreAmong a'.entries b'.entries → AreAmong b'.entries a'.entries
        → Outcome a' b' (Reply.State t) (Reply.State u)
    released_same t u ea eb st su there back =
        grind (arith, alike_after, as_long, same_length, release_state)

    remove_same : (h k : Handle) (r s : Result ReleaseState ContainerRemoveError)
        → KnowBoth a b (Some h) (Some k) → RemoveStep a h mode r a' → RemoveStep b k mode s b'
        → Outcome a' b' (reply_of_remove r) (reply_of_remove s)
    remove_same h k (Err f) (Err f') e p q = grind arith
    remove_same h k (Ok t) (Err f') e p q =
        absurd (one_removes l a' mode h k e.0 e.2 p.0 q.0)
    remove_same h k (Err f) (Ok u) e p q =
        absurd (one_removes (turned l) b' mode k h (sym e.0) e.1 q.0 p.0)
    remove_same h k (Ok t) (Ok u) e p q =
        let n : Leaves a h mode a' = p.0 in
        let m : Leaves b k mode b' = q.0 in
        let st : n.0.ticket ≡ m.0.ticket = sym (ticket_of h (handle_of a n.0) n.1)
        ∙ (e.0 ∙ ticket_of k (handle_of b m.0) m.1) in
        released_same t u n.3 m.3 p.1 q.1
        (within_after_remove a.entries b.entries a'.entries b'.entries n.0 m.0 n.2 m.2 st
        l.one.tickets_differ l.there)
        (within_after_remove b.entries a.entries b'.entries a'.entries m.0 n.0 m.2 n.2 (sym st)
        l.other.tickets_differ l.back)

    recover_same : (is_dead answer : T → Bool) (t u : ReleaseState)
        → RecoverStep {F = Unit {0}} (λ _ d goes _. goes ≡ answer d) is_dead a tt mode t a' tt
        → RecoverStep {F = Unit {0}} (λ _ d goes _. goes ≡ answer d) is_dead b tt mode u b' tt
        → Outcome a' b' (Reply.State t) (Reply.State u)
    recover_same is_dead answer t u r s =
        let keep : T → Bool = λ d. not (is_dead d && answer d) in
        let ea = left_by is_dead answer a a' mode t r in
        let eb = left_by is_dead answer b b' mode u s in
        released_same t u r.recovers.0 s.recovers.0 r.recovers.1 s.recovers.1
        (rw (ea, eb) (within_after_filter keep a.entries b.entries l.there))
        (rw (ea, eb) (within_after_filter keep b.entries a.entries l.back))

module _ {T : Type 0} (a b a' b' : ContainerState T) (l : SameContents a.registry b.registry)
    (v : IsRegistry a'.registry) (w : IsRegistry b'.registry) where
  -- where nothing changed
  outcome_still : (r r' s s' : RegistryReply T) → r ≡ r' → s ≡ s' → a' ≡ a → b' ≡ b
      → SameReply r' s' → KnowBoth a.registry b.registry (given_by r') (given_by s')
      → Outcome a'.registry b'.registry r s
  outcome_still r r' s s' e f ea eb same k = grind arith

  given_same : (mode : ReleaseMode) (one other : Option Handle) (r s : RegistryReply T)
      → KnowBoth a.registry b.registry one other → RemoveGiven a one mode r a'
      → RemoveGiven b other mode s b' → Outcome a'.registry b'.registry r s
  given_same mode None None r s k p q = grind (arith, outcome_still)
  given_same mode (Some h) (Some i) r s k p q =
      rw (p.reply_is, q.reply_is)
      (remove_same l v w mode h i p.result q.result k p.step.step q.step.step)
  given_same mode one other r s k p q = absurd k

  call_same : (node number : T → ℕ) (xs ys : List (RegistryReply T)) (call : RegistryCall T)
      (r s : RegistryReply T) → KnowAll a.registry b.registry xs ys
      → CallStep node number a xs call r a' → CallStep node number b ys call s b'
      → Outcome a'.registry b'.registry r s
  call_same node number xs ys (Call.Add d) r s k p q =
      rw (p.reply_is, q.reply_is)
      (add_same l v w d p.result q.result p.step.step q.step.step)
  call_same node number xs ys (Call.Remove i mode) r s k p q =
      given_same mode (handle_given xs i) (handle_given ys i) r s
      (both_at a.registry b.registry xs ys i k) p q
  call_same node number xs ys (Call.Recover dead keys mode) r s k p q =
      rw (p.reply_is, q.reply_is)
      (recover_same l v w mode (is_of node dead) (is_outside number keys.items) p.result q.result
      p.step.step q.step.step)
  call_same node number xs ys Call.List r s k p q = grind (arith, same_listed, outcome_still)
  call_same node number xs ys Call.Len r s k p q = grind (arith, as_long, outcome_still)

run_same : {T : Type 0} (node number : T → ℕ) (a b a' b' : ContainerState T)
    (xs ys : List (RegistryReply T)) (calls : List (RegistryCall T))
    (rs ss : List (RegistryReply T)) → SameContents a.registry b.registry
    → KnowAll a.registry b.registry xs ys → CallRun node number a xs calls rs a'
    → CallRun node number b ys calls ss b' → SameKind rs ss
run_same node number a b a' b' xs ys [] [] [] l k p q = tt
run_same node number a b a' b' xs ys [] (r ∷ rs) ss l k p q = absurd p
run_same node number a b a' b' xs ys [] [] (s ∷ ss) l k p q = absurd q
run_same node number a b a' b' xs ys (c ∷ cs) [] ss l k p q = absurd p
run_same node number a b a' b' xs ys (c ∷ cs) (r ∷ rs) [] l k p q = absurd q
run_same {T} node number a b a' b' xs ys (c ∷ cs) (r ∷ rs) (s ∷ ss) l k p q =
    let o = call_same a b p.0 q.0 l p.2 q.2 node number xs ys c r s k p.1 q.1 in
    let known = all_on a.registry b.registry p.0.registry q.0.registry
    (grows_call node number a xs r p.0 c p.1) (grows_call node number b ys s q.0 c q.1) xs ys k in (
      o.same,
      run_same node number p.0 q.0 a' b' (xs ++ r ∷ []) (ys ++ s ∷ []) cs rs ss o.alike
          (AllZip-push _ xs ys r s known o.handles) p.3 q.3,
    )

-- the same calls on two new registries give replies of one kind
pub same_kind : {T : Type 0} (node number : T → ℕ) (a b a' b' : ContainerState T)
    (calls : List (RegistryCall T)) (rs ss : List (RegistryReply T)) → IsNew a.registry
    × IsNew b.registry → a.registry.capacity ≡ b.registry.capacity
    → a.registry.budget ≡ b.registry.budget → CallRun node number a [] calls rs a'
    → CallRun node number b [] calls ss b' → SameKind rs ss
same_kind node number a b a' b' calls rs ss n c g p q =
    run_same node number a b a' b' ([]) ([]) calls rs ss
    (record {
      one = new_is_registry a.registry n.0;
      other = new_is_registry b.registry n.1;
      capacity = c;
      budget = g;
      used = n.0.2 ∙ sym n.1.2;
      locked = n.0.1 ∙ sym n.1.1;
      there = nothing_within a.registry.entries b.registry.entries n.0.0;
      back = nothing_within b.registry.entries a.registry.entries n.1.0;
    }) tt p q

run_more : {T : Type 0} (node number : T → ℕ) (old : ContainerState T)
    (earlier : List (RegistryReply T)) (calls : List (RegistryCall T))
    (replies : List (RegistryReply T)) (mid : ContainerState T) (call : RegistryCall T)
    (reply : RegistryReply T) (new : ContainerState T)
    → CallRun node number old earlier calls replies mid
    → CallStep node number mid (earlier ++ replies) call reply new → IsRegistry new.registry
    → CallRun node number old earlier (calls ++ call ∷ []) (replies ++ reply ∷ []) new
run_more node number old earlier [] [] mid call reply new s k w = grind (arith, append-nil)
run_more node number old earlier (c ∷ cs) (r ∷ rs) mid call reply new s k w =
    grind (
      arith,
      append_assoc,
      run_more node number s.0 (earlier ++ r ∷ []) cs rs mid call reply new s.3
          (rw append_assoc k) w,
    )
run_more node number old earlier calls replies mid call reply new s k w = absurd s

module _ {T : Type 0} {node number : T → ℕ} {mid new : ContainerState T}
    {replies after : List (RegistryReply T)} where
  pub one_longer : {call : RegistryCall T} → Answered node number mid replies call after new
      → length after ≡ length replies + 1
  one_longer a = ap length a.put ∙ length-append replies (a.reply ∷ [])

  module _ {old : ContainerState T} {calls : List (RegistryCall T)} where
    pub made_more : (i : ℕ) (call : RegistryCall T) → i < length calls
        → get_or calls i call ≡ call → length replies ≡ i → Made node number old calls replies mid
        → Answered node number mid replies call after new → Made node number old calls after new
    made_more i call h e n made a =
        let calls_are : take (length after) calls ≡ take i calls ++ call ∷ [] =
        ap (λ (k : ℕ). take k calls) (one_longer a ∙ ap (λ k. k + 1) n)
        ∙ (take_more calls i call h ∙ ap (λ (c : RegistryCall T). take i calls ++ c ∷ []) e) in
        record {
          run = rw (calls_are, a.put) (run_more node number old ([]) (take i calls) replies mid
              call a.reply new (rw n at made.run) a.step a.kept);
        }

    pub made_still : (new ≡ mid) × (after ≡ replies) → Made node number old calls replies mid
        → Made node number old calls after new
    made_still e made = rw (e.0, e.1) made

-- the same calls made on two new registries have replies of one kind
pub same_made : {T : Type 0} {node number : T → ℕ} {a b a' b' : ContainerState T}
    {calls : List (RegistryCall T)} {ones others : List (RegistryReply T)}
    → IsNew a.registry × IsNew b.registry → a.registry.capacity ≡ b.registry.capacity
    → a.registry.budget ≡ b.registry.budget → length ones ≡ length others
    → Made node number a calls ones a' → Made node number b calls others b'
    → SameKind ones others
same_made {calls = calls} {ones = ones} {others = others} new capacity budget same p q =
    grind (arith, same_kind)

-- the test of each item in turn decides it, where the lists are equally long
pub counts_equally_many : {T : Type 0} (eq : T → T → Bool) (ones others : List T) (all : Bool)
    → length ones ≡ length others
    → all ≡ list_all (λ x. eqb (count_by (eq x) ones) (count_by (eq x) others)) ones → IsTrue all
    ↔ EquallyMany eq ones others
counts_equally_many eq ones others all as_long e = (
  λ yes. record {
    as_long = as_long;
    each = λ k d below. eqb-true _ _
        (AllPass-from_list_all (λ x. eqb (count_by (eq x) ones) (count_by (eq x) others)) ones
        (sym e ∙ yes) k d below);
  },
  λ many. e
      ∙ list_all-from_AllPass (λ x. eqb (count_by (eq x) ones) (count_by (eq x) others)) ones
      (λ k d below. eq-eqb _ _ (many.each k d below)),
)

permuted_equally : {T : Type 0} (eq : T → T → Bool) (ones others : List T)
    → IsPermutation ones others → EquallyMany eq ones others
permuted_equally eq ones others p = grind (arith, length_permutation, sum_by-IsPermutation)

same_agree : {T : Type 0} (eq : T → T → Bool) (one other : RegistryReply T) → SameReply one other
    → AgreesBy eq one other
same_agree eq (Reply.Handle one) (Reply.Handle other) same = tt
same_agree eq (Reply.Entries one) (Reply.Entries other) same = search (rules, permuted_equally)
same_agree eq one other same = same

-- replies of one kind agree
pub same_kind_agrees : {T : Type 0} (eq : T → T → Bool) (ones others : List (RegistryReply T))
    → SameKind ones others → AllZip (AgreesBy eq) ones others
same_kind_agrees eq [] [] same = tt
same_kind_agrees eq (one ∷ ones) (other ∷ others) same =
    (same_agree eq one other same.0, same_kind_agrees eq ones others same.1)
same_kind_agrees eq ones others same = same
