-- Lines of replies: what stays at the front of a list that grows, and lists that a callback writes
-- as it is shown the items.
use Rattle.std.proofs.Common.{◌≡◌, ◌<◌, ◌≤◌, ◌^◌, ℕ, List, arith, ◌++◌, length, take, drop, sym, ◌∙◌, ap, append_assoc, Bool, true, false, Result, Ok, Err, [], ◌∷◌, codes, map, refl, subst, inl, inr, length-append}
use Rattle.std.proofs.Math.Seq.{take-append_seam}
use Rattle.service_descriptions.proofs.Names.{take-append-drop, decimal, Vec, flat_map, append-nil, port_value, Role, ContainerState, container_as, entry_as, Entry, Visit, listed, PortDetails, port_of, side_of, LacksRole, Service, role_at, PutsText, PutsWord, WritesLine, Written, kind_text, ports_text, id_word, port_word}
use Rattle.std.proofs.lemmas.Fmt.{length-decimal-le}
use Rattle.std.specs.Prelude.{if◌then◌else◌, is_ok, OnOk, OnErr}
use Rattle.std.proofs.lemmas.Result.{on_err_weaker, on_ok_weaker}
use Rattle.std.specs.declared.alloc.AllocError.{AllocError}
use Rattle.iox2_texts.specs.Attribute.{Visits}
use Rattle.iox2_texts.specs.declared.bounded.CallbackProgression.{CallbackProgression}
use Rattle.iox2_texts.specs.declared.bounded.CallbackProgression.TheVariants.{Continue, Stop}
use Rattle.service_descriptions.specs.declared.replay.machine.reply.LineAnswer.TheVariants as answer
use Rattle.service_descriptions.specs.declared.replay.machine.reply.Reply.TheVariants as reply

-- where a longer front stays, a shorter one does
pub front_stays : (a b front x : List ℕ) → front ≡ a ++ b → take (length front) x ≡ front
    → take (length a) x ≡ a
front_stays a b front x is e =
    let rest = drop (length front) x in
    let whole : x ≡ a ++ (b ++ rest) =
    sym (take-append-drop (length front) x) ∙ ap (λ (l : List ℕ). l ++ rest) (e ∙ is)
    ∙ append_assoc a b rest in
    rw whole (take-append_seam a (b ++ rest))

-- a number of 64 bits has at most 20 digits
pub few_digits : (n : ℕ) → n < 2 ^ 64 → length (decimal n) ≤ 20
few_digits n fits = length-decimal-le 20 n (omega arith) (omega arith) fits

abbrev Refusal : Type 0
Refusal = Result (Unit {0}) AllocError

on_err : (r : Refusal) (P : Type 0) → P → OnErr r P
on_err (Ok done) P p = tt
on_err (Err why) P p = p

-- the words of all items, where each was appended in turn
puts_all : {A : Type 0} (word : A → List ℕ) (before : Written) (items : List A) (after : Written)
    → Visits (λ b x r a. PutsWord (word x) b r a) before items after
    → PutsText (flat_map word items) before after
puts_all word before [] after end ok = (
  subst (λ r. OnOk r (after.0 ≡ before.0 ++ [])) (sym (ap (λ p. p.1) end ∙ ok))
      (ap (λ p. p.0) end ∙ sym (append-nil before.0)),
  subst (λ r. OnErr r (take (length before.0) after.0 ≡ before.0))
      (sym (ap (λ p. p.1) end ∙ ok)) tt,
)
puts_all word before (x ∷ xs) after (inl stopped) ok =
    (on_ok_weaker {P = ⊥} after.1 (λ e. absurd e) stopped.1, on_err after.1 _ stopped.0)
puts_all word before (x ∷ xs) after (inr goes) ok =
    let mid = goes.0 in
    let is : mid.0 ≡ before.0 ++ word x = goes.1.0 in
    let rest = puts_all word mid xs after goes.2 (goes.1.1 ∙ ok) in (
      on_ok_weaker {P = after.0 ≡ mid.0 ++ flat_map word xs} after.1
          (λ e. e ∙ ap (λ (l : List ℕ). l ++ flat_map word xs) is
          ∙ append_assoc before.0 (word x) (flat_map word xs))
          rest.0,
      on_err_weaker {P = take (length mid.0) after.0 ≡ mid.0} after.1
          (λ e. front_stays before.0 (word x) mid.0 after.0 is e) rest.1,
    )

-- a visit by a closure that holds the bytes and whether memory was refused, by these names
module _ {F T : Type 0} (calls : F → T → CallbackProgression → F → Type 0) (k : F → Written)
    (name refused : F → ℕ) (word : T → List ℕ)
    (step : (f : F) (x : T) (r : CallbackProgression) (h : F) → calls f x r h
    → (name h ≡ name f) × (refused h ≡ refused f) × PutsWord (word x) (k f) r (k h)) where
  visits_put : (f : F) (items : List T) (h : F) → Visits calls f items h
      → (name h ≡ name f) × (refused h ≡ refused f)
      × Visits (λ b x r a. PutsWord (word x) b r a) (k f) items (k h)
  visits_put f [] h end = (ap name end, ap refused end, ap k end)
  visits_put f (x ∷ xs) h (inl stopped) = let s = step f x Stop h stopped in (s.0, s.1, inl s.2)
  visits_put f (x ∷ xs) h (inr goes) =
      let s = step f x Continue goes.0 goes.1 in let rest = visits_put goes.0 xs h goes.2 in
      (rest.0 ∙ s.0, rest.1 ∙ s.1, inr (k goes.0, s.2, rest.2))

  pub all_put : (f : F) (items : List T) (h : F) → Visit calls f items h
      → (name h ≡ name f) × (refused h ≡ refused f) × PutsText (flat_map word items) (k f) (k h)
  all_put f items h visit = let v = visits_put f items h visit.visits in
      (v.0, v.1, puts_all word (k f) items (k h) v.2)

-- the words of ports of one kind are those of ports of any kind
words_as : {T : Type 0} (details : T → PortDetails) (es : List (Entry T))
    → flat_map (λ x. port_word (details x)) (map (λ e. e.details) es)
    ≡ flat_map port_word (map (λ e. e.details) (map (entry_as details) es))
words_as details [] = refl
words_as details (e ∷ es) = ap (λ l. port_word (details e.details) ++ l) (words_as details es)

-- the same for the ports of one kind, with the details of their own
pub kind_put : {F T : Type 0} (details : T → PortDetails)
    (calls : F → T → CallbackProgression → F → Type 0) (k : F → Written) (name refused : F → ℕ)
    → ((f : F) (x : T) (r : CallbackProgression) (h : F) → calls f x r h
    → (name h ≡ name f) × (refused h ≡ refused f) × PutsWord (port_word (details x)) (k f) r (k h))
    → (ports : ContainerState T) (f h : F) → Visit calls f (listed ports.registry) h
    → (name h ≡ name f) × (refused h ≡ refused f)
    × PutsText (ports_text (container_as details ports)) (k f) (k h)
kind_put details calls k name refused step ports f h visit =
    let all =
    all_put calls k name refused (λ x. port_word (details x)) step f (listed ports.registry) h visit
    in (
      all.0,
      all.1,
      subst (λ l. PutsText l (k f) (k h)) (words_as details ports.registry.entries) all.2,
    )

-- no fewer bytes than items
words_longer : {A : Type 0} (id : A → ℕ) (items : List A)
    → length items ≤ length (flat_map (λ x. id_word (id x)) items)
words_longer id [] = omega arith
words_longer id (x ∷ xs) =
    let rest = words_longer id xs in
    let len = length-append (id_word (id x)) (flat_map (λ x. id_word (id x)) xs) in
    omega (arith, rest, len)

-- a word for a list, the words of its items and a newline are the line of a list of these items,
-- no more of them than bytes were written
list_line : {A : Type 0} (id : A → ℕ) (items : List A) (before mid text : List ℕ) (out : Vec ℕ)
    → mid ≡ before ++ codes "list" → text ≡ mid ++ flat_map (λ x. id_word (id x)) items
    → out.items ≡ text ++ 10 ∷ [] → (list : Vec A) × (list.items ≡ items) × (out.items
    ≡ before ++ ((codes "list" ++ flat_map (λ x. id_word (id x)) list.items) ++ 10 ∷ []))
list_line id items before mid text out begins is ends =
    let words = flat_map (λ x. id_word (id x)) items in
    let some = words_longer id items in
    let size = ap (length {A = ℕ}) ends ∙ length-append text (10 ∷ []) in
    let part = ap (length {A = ℕ}) is ∙ length-append mid words in
    let fits : length items ≤ length out.items = omega (arith, some, size, part) in
    let line : text ++ 10 ∷ [] ≡ before ++ ((codes "list" ++ words) ++ 10 ∷ []) =
    rw (is, begins) (simp append_assoc) in (
      record {
        ptr = out.ptr;
        len = length items;
        cap = length items;
        alloc = out.alloc;
        items = items;
        ok = (refl, omega arith);
        small = omega (arith, fits, out.ok.0, out.ok.1, out.small);
      },
      refl,
      ends ∙ line,
    )

-- the line of the nodes
pub nodes_line : (s : Service) (before mid text : List ℕ) (out : Vec ℕ)
    → mid ≡ before ++ codes "list" → text ≡ mid ++ flat_map id_word (listed s.nodes.registry)
    → out.items ≡ text ++ 10 ∷ [] → WritesLine s answer.Nodes before out.items
nodes_line s before mid text out begins is ends =
    let (list, same, line) =
    list_line (λ id. id) (listed s.nodes.registry) before mid text out begins is ends in
    (reply.Nodes list, same, line)

-- the line of the ports of a role
pub ports_line : (s : Service) (role : Role) (is_first : Bool)
    → role ≡ role_at s.pattern (side_of is_first)
    → (before mid text : List ℕ) (out : Vec ℕ) → mid ≡ before ++ codes "list"
    → text ≡ mid ++ kind_text is_first s.ports → out.items ≡ text ++ 10 ∷ []
    → WritesLine s (answer.Ports role) before out.items
ports_line s role true of before mid text out begins is ends =
    let (list, same, line) =
    list_line (λ d. port_value (port_of d)) (listed s.ports.first.registry) before mid text out
    begins is ends in
    (reply.Ports list, inl (of, same), line)
ports_line s role false of before mid text out begins is ends =
    let (list, same, line) =
    list_line (λ d. port_value (port_of d)) (listed s.ports.second.registry) before mid text out
    begins is ends in
    (reply.Ports list, inr (of, same), line)

-- the line that says that the pattern lacks the role
pub lacks_line : (s : Service) (role : Role) (before line : List ℕ) (r : Refusal)
    → LacksRole s.pattern role
    → line ≡ (if is_ok r then before ++ codes "wrong-pattern\n" else before)
    → OnOk r (WritesLine s (answer.Ports role) before line)
lacks_line s role before line (Ok done) lacks is =
    (reply.WrongPattern, lacks, is)
lacks_line s role before line (Err why) lacks is = tt
