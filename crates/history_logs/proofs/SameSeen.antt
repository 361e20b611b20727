-- What was seen of services stays the same, but for the memory of lists, whatever a line adds.
use Rattle.history_logs.proofs.Words.{AllZip, Begins, Begun, Judged, List, NamedCommand, None, Option, Part, SeenReply, Service, Some, [], added_by, ap, called, calls_answered, calls_shown, changed, command, given_in, inl, inr, judged_answered, length, nil_from_length, numbered, option_and_then, refl, role_added, same_Some, shown, slice_get, slice_set, start_of, started, starting, stopped, stopping, subst, suc, sym, weak, with_alone, with_begin, with_crash, with_end, with_look, with_over, with_part, zero, ℕ, ◌+◌, ◌∙◌, ◌∷◌, ◌≡◌, ◌≢◌}
use Rattle.std.proofs.lemmas.List.Elements.{AllZip-push}
use Rattle.std.proofs.lemmas.Slice.Zip.{AllZip-long}
use Rattle.iox2_config.specs.declared.hash.input.PatternKind.{PatternKind}
use Rattle.iox2_config.specs.declared.hash.input.PatternKind.TheVariants as kind
use Rattle.iox2_container.specs.declared.container.handle.Role.{Role}
use Rattle.iox2_container.specs.declared.container.handle.Role.TheVariants as role
use Rattle.iox2_dynamic.specs.Service as dynamic
use Rattle.iox2_container.specs.State.{Handle}
use Rattle.log_lines.specs.Commands.NamedCommand.{deregister, release}
use Rattle.service_conformance.specs.Calls.{call_of}
use Rattle.service_conformance.specs.declared.conformance.possible.Part.TheVariants as part
use Rattle.service_conformance.specs.Judged.{ids_seen}
use Rattle.service_conformance.specs.Judged.Judged.{call, starts, stops}
use Rattle.service_conformance.specs.Seen.{list_words, seen_text}
use Rattle.service_conformance.specs.Sides.{HasPart, LacksPart}
use Rattle.service_descriptions.specs.declared.replay.machine.command.Command.{Command}
use Rattle.service_descriptions.specs.declared.replay.machine.command.Command.TheVariants as script
use Rattle.history_logs.specs.SameLogs.{IsSameCall, IsSameReply, IsSameService}
use Rattle.history_logs.specs.SameLogs.IsSameCall.{other_dead, other_stop, own_call}
use Rattle.log_lines.specs.Laws.{IsSameBegun, IsSameCommand}
use Rattle.log_lines.specs.Laws.IsSameCommand.{other_kept, own_command}
use Rattle.history_logs.specs.SameLogs.IsSameReply.{other_ids, own_reply}
use Rattle.history_logs.specs.Seen.{handle_named}
use Rattle.log_lines.specs.Laws.IsSameBegun.{other_begun, own_begun}

-- lists whose elements go together
module _ {X : Type 0} (R : X → X → Type 0) where
  pub zip_at : (xs ys : List X) (i : ℕ) (x y : X) → AllZip R xs ys → slice_get xs i ≡ Some x
      → slice_get ys i ≡ Some y → R x y
  zip_at [] ys i x y zip e f = absurd (cc)
  zip_at (a ∷ xs) [] i x y zip e f = absurd zip
  zip_at (a ∷ xs) (b ∷ ys) zero x y zip e f = rw (← same_Some a x e, ← same_Some b y f) zip.0
  zip_at (a ∷ xs) (b ∷ ys) (suc i) x y zip e f = zip_at xs ys i x y zip.1 e f

  zip_read : {Y : Type 0} (f : Option X → Y) → ((x y : X) → R x y → f (Some y) ≡ f (Some x))
      → (xs ys : List X) (i : ℕ) → AllZip R xs ys → f (slice_get ys i) ≡ f (slice_get xs i)
  zip_read f each [] [] i zip = refl
  zip_read f each [] (b ∷ ys) i zip = absurd zip
  zip_read f each (a ∷ xs) [] i zip = absurd zip
  zip_read f each (a ∷ xs) (b ∷ ys) zero zip = each a b zip.0
  zip_read f each (a ∷ xs) (b ∷ ys) (suc i) zip = zip_read f each xs ys i zip.1

  pub zip_set : (xs ys : List X) (i : ℕ) (x y : X) → AllZip R xs ys → R x y
      → AllZip R (slice_set xs i x) (slice_set ys i y)
  zip_set [] [] i x y zip r = tt
  zip_set [] (b ∷ ys) i x y zip r = absurd zip
  zip_set (a ∷ xs) [] i x y zip r = absurd zip
  zip_set (a ∷ xs) (b ∷ ys) zero x y zip r = (r, zip.1)
  zip_set (a ∷ xs) (b ∷ ys) (suc i) x y zip r = (zip.0, zip_set xs ys i x y zip.1 r)

  zip_own : ((x : X) → R x x) → (xs : List X) → AllZip R xs xs
  zip_own own [] = tt
  zip_own own (x ∷ xs) = (own x, zip_own own xs)

-- what replies tell
pub same_text : (r s : SeenReply) → IsSameReply r s → seen_text s ≡ seen_text r
same_text r s (own_reply t) = refl
same_text r s (other_ids ids others e) = ap list_words (sym e)

same_ids : (r s : SeenReply) → IsSameReply r s → ids_seen s ≡ ids_seen r
same_ids r s (own_reply t) = refl
same_ids r s (other_ids ids others e) = sym e

same_given : (r s : SeenReply) → IsSameReply r s → (s_line : Service) (added : Option Role)
    → given_in s_line.line added s ≡ given_in s_line.line added r
same_given r s (own_reply t) of added = refl
same_given r s (other_ids ids others e) of None = refl
same_given r s (other_ids ids others e) of (Some role) = refl

-- the call, where it was answered
own_answered : (c : Judged) (r s : SeenReply) → IsSameReply r s
    → IsSameCall (judged_answered c r) (judged_answered c s)
own_answered (call c) r s q = rw (same_text r s q) (own_call _)
own_answered (starts p ids) r s q = own_call (starts p ids)
own_answered (stops start reply) r s q = other_stop start r s q

same_answered : (r s : SeenReply) → IsSameReply r s → (c d : Judged) → IsSameCall c d
    → IsSameCall (judged_answered c r) (judged_answered d s)
same_answered r s q c d (own_call x) = own_answered x r s q
same_answered r s q c d (other_dead node kept other handle words e) =
    rw (same_text r s q) (other_dead node kept other handle (Some (seen_text r)) e)
same_answered r s q c d (other_stop start x y z) = other_stop start r s q

own_shown : (c : Judged) (r s : SeenReply) → IsSameReply r s → IsSameCall (shown c r) (shown c s)
own_shown (call c) r s q = own_call (call c)
own_shown (starts p ids) r s q = rw (same_ids r s q) (own_call _)
own_shown (stops start reply) r s q = own_call (stops start reply)

same_shown : (r s : SeenReply) → IsSameReply r s → (c d : Judged) → IsSameCall c d
    → IsSameCall (shown c r) (shown d s)
same_shown r s q c d (own_call x) = own_shown x r s q
same_shown r s q c d (other_dead node kept other handle words e) =
    other_dead node kept other handle words e
same_shown r s q c d (other_stop start x y z) = other_stop start x y z

-- what calls tell
same_stopped : (c d : Judged) → IsSameCall c d → stopped d ≡ stopped c
same_stopped c d (own_call x) = refl
same_stopped c d (other_dead node kept other handle words e) = refl
same_stopped c d (other_stop start x y z) = refl

same_role : (c d : Judged) → IsSameCall c d → role_added d ≡ role_added c
same_role c d (own_call x) = refl
same_role c d (other_dead node kept other handle words e) = refl
same_role c d (other_stop start x y z) = refl

abbrev AreSame : List Judged → List Judged → Type 0
AreSame cs ds = AllZip IsSameCall cs ds

same_start : (cs ds : List Judged) (number : ℕ) → AreSame cs ds
    → start_of ds number ≡ start_of cs number
same_start = zip_read IsSameCall (option_and_then stopped) same_stopped

same_added : (cs ds : List Judged) (number : ℕ) → AreSame cs ds
    → added_by (slice_get ds number) ≡ added_by (slice_get cs number)
same_added = zip_read IsSameCall added_by same_role

same_changed : (f g : Judged → Judged)
    → ((c d : Judged) → IsSameCall c d → IsSameCall (f c) (g d))
    → (cs ds : List Judged) (number : ℕ) → AreSame cs ds
    → AreSame (changed f cs number) (changed g ds number)
same_changed f g each [] [] number zip = tt
same_changed f g each [] (d ∷ ds) number zip = absurd zip
same_changed f g each (c ∷ cs) [] number zip = absurd zip
same_changed f g each (c ∷ cs) (d ∷ ds) zero zip = (each c d zip.0, zip.1)
same_changed f g each (c ∷ cs) (d ∷ ds) (suc number) zip =
    (zip.0, same_changed f g each cs ds number zip.1)

module _ (r s : SeenReply) (q : IsSameReply r s) (cs ds : List Judged) (zip : AreSame cs ds) where
  calls_shown_same : (start : Option ℕ) → AreSame (calls_shown cs start r) (calls_shown ds start s)
  calls_shown_same None = zip
  calls_shown_same (Some start) =
      same_changed (λ c. shown c r) (λ d. shown d s) (same_shown r s q) cs ds start zip

  calls_answered_same : (number : ℕ)
      → AreSame (calls_answered cs number r) (calls_answered ds number s)
  calls_answered_same number =
      same_changed (λ c. judged_answered c r) (λ d. judged_answered d s) (same_answered r s q)
      (calls_shown cs (start_of cs number) r) (calls_shown ds (start_of ds number) s) number
      (rw (same_start cs ds number zip) (calls_shown_same (start_of cs number)))

pub own_service : (s : Service) → IsSameService s s
own_service s = record { calls = zip_own IsSameCall own_call s.calls; others = refl }

-- the call of a command
named_stays : (s : Service) (calls : List Judged) (c : Command)
    → handle_named (record s { calls = calls }) c ≡ handle_named s c
named_stays s calls (script.Deregister number) = refl
named_stays s calls _ = refl

called_stays : (s : Service) (calls : List Judged) (c : NamedCommand)
    → called (record s { calls = calls }) c ≡ called s c
called_stays s calls (numbered c) =
    ap (λ (h : Option Handle). call (call_of c h)) (named_stays s calls c)
called_stays s calls (deregister slot ticket) = refl
called_stays s calls (release r slot ticket) = refl

module _ (s t : Service) (p : IsSameService s t) where
  long : length t.calls ≡ length s.calls
  long = AllZip-long IsSameCall s.calls t.calls p.calls

  pub same_number : t.line.number ≡ s.line.number
  same_number = ap (λ (x : Service). x.line.number) p.others

  pub same_service_start : t.start ≡ s.start
  same_service_start = ap (λ (x : Service). x.start) p.others

  pub same_called : (c d : NamedCommand) → IsSameCommand c d
      → IsSameCall (called s c) (called t d)
  same_called c d (own_command x) =
      rw (p.others, called_stays s t.calls x) (own_call (called s x))
  same_called c d (other_kept node kept other e) = other_dead node kept other None None e

  same_part : (c d : Judged) (k : ℕ) → IsSameCall c d
      → IsSameService (with_part s c k) (with_part t d k)
  same_part c d k q = record {
    calls = AllZip-push IsSameCall s.calls t.calls c d p.calls q;
    others = rw (p.others, long) refl;
  }

  pub same_begin : (c d : Judged) (k : ℕ) → IsSameCall c d
      → IsSameService (with_begin s c k) (with_begin t d k)
  same_begin c d k q = record {
    calls = AllZip-push IsSameCall s.calls t.calls c d p.calls q;
    others = rw (p.others, long) refl;
  }

  same_over : (number k : ℕ) → IsSameService (with_over s number k) (with_over t number k)
  same_over number k = record { calls = p.calls; others = rw p.others refl }

  pub same_end : (number : ℕ) (r q : SeenReply) (k : ℕ) → IsSameReply r q
      → IsSameService (with_end s number r k) (with_end t number q k)
  same_end number r q k same = record {
    calls = calls_answered_same r q same s.calls t.calls p.calls number;
    others =
        rw (
          p.others,
          same_added s.calls t.calls number p.calls,
          same_given r q same s (added_by (slice_get s.calls number)),
        ) refl;
  }

  pub same_crash : (number k : ℕ) → IsSameService (with_crash s number k) (with_crash t number k)
  same_crash number k = record { calls = p.calls; others = rw p.others refl }

  pub same_started : (start : dynamic.Service) → IsSameService (started s start) (started t start)
  same_started start = record { calls = p.calls; others = rw p.others refl }

  pub same_none : s.calls ≡ [] → t.calls ≡ []
  same_none none = nil_from_length t.calls (long ∙ ap length none)

  pub same_some : t.calls ≡ [] → s.calls ≡ []
  same_some none = nil_from_length s.calls (sym long ∙ ap length none)

pub same_alone : (s t : Service) → IsSameService s t → (c d : Judged) (r q : SeenReply) (k : ℕ)
    → IsSameCall c d → IsSameReply r q → IsSameService (with_alone s c r k) (with_alone t d q k)
same_alone s t p c d r q k calls replies =
    subst (λ n. IsSameService (with_alone s c r k) (with_end (with_begin t d k) n q k))
    (sym (long s t p))
    (same_end (with_begin s c k) (with_begin t d k) (same_begin s t p c d k calls)
    (length s.calls) r q k replies)

same_look : (s t : Service) → IsSameService s t → (of : Part) (k : ℕ)
    → IsSameService (with_look s of k) (with_look t of k)
same_look s t p of k =
    let n = length s.calls in
    let one = with_begin s (starting of) k in
    let other = with_begin t (starting of) k in
    subst (λ m. IsSameService (with_look s of k)
    (with_part (with_over other m k) (stopping m) k)) (sym (long s t p))
    (same_part (with_over one n k) (with_over other n k)
    (same_over one other (same_begin s t p (starting of) (starting of) k (own_call _)) n k)
    (stopping n) (stopping n) k (own_call _))

-- a role names one part
roles_apart : (pattern : PatternKind)
    → (dynamic.first_role pattern ≢ dynamic.second_role pattern)
roles_apart kind.PublishSubscribe e = absurd (cc)
roles_apart kind.Event e = absurd (cc)
roles_apart kind.RequestResponse e = absurd (cc)
roles_apart kind.Blackboard e = absurd (cc)

no_node : (pattern : PatternKind)
    → (dynamic.first_role pattern ≢ role.Node) × (dynamic.second_role pattern ≢ role.Node)
no_node kind.PublishSubscribe = (λ e. absurd (cc), λ e. absurd (cc))
no_node kind.Event = (λ e. absurd (cc), λ e. absurd (cc))
no_node kind.RequestResponse = (λ e. absurd (cc), λ e. absurd (cc))
no_node kind.Blackboard = (λ e. absurd (cc), λ e. absurd (cc))

one_part : (pattern : PatternKind) (r : Role) (p q : Part) → HasPart pattern r p
    → HasPart pattern r q → p ≡ q
one_part pattern r part.Nodes part.Nodes a b = refl
one_part pattern r part.First part.First a b = refl
one_part pattern r part.Second part.Second a b = refl
one_part pattern r part.Nodes part.First a b = absurd ((no_node pattern).0 (sym b ∙ a))
one_part pattern r part.Nodes part.Second a b = absurd ((no_node pattern).1 (sym b ∙ a))
one_part pattern r part.First part.Nodes a b = absurd ((no_node pattern).0 (sym a ∙ b))
one_part pattern r part.Second part.Nodes a b = absurd ((no_node pattern).1 (sym a ∙ b))
one_part pattern r part.First part.Second a b = absurd (roles_apart pattern (sym a ∙ b))
one_part pattern r part.Second part.First a b = absurd (roles_apart pattern (sym b ∙ a))

lacks_part : (pattern : PatternKind) (r : Role) (p : Part) → LacksPart pattern r
    → ¬ (HasPart pattern r p)
lacks_part pattern r part.Nodes a b = a.0 b
lacks_part pattern r part.First a b = a.1.0 b
lacks_part pattern r part.Second a b = a.1.1 b

-- what begins
module _ (s t : Service) (p : IsSameService s t) (k : ℕ) where
  same_patterns : t.start.pattern ≡ s.start.pattern
  same_patterns = ap (λ (x : dynamic.Service). x.pattern) (same_service_start s t p)

  begins_command : (c d : NamedCommand) → IsSameCommand c d → (u v : Service) (m n : ℕ)
      → Begins s (command c) k u m → Begins t (command d) k v n
      → IsSameService u v × (m ≡ n)
  begins_command c d same u v m n a b = (
    rw (a.0, b.0) (same_begin s t p (called s c) (called t d) k (same_called s t p c d same)),
    a.1 ∙ (sym (long s t p) ∙ sym b.1),
  )

  begins_weak : (r : Role) (u v : Service) (m n : ℕ) → Begins s (weak r) k u m
      → Begins t (weak r) k v n → IsSameService u v × (m ≡ n)
  begins_weak r u v m n (inl a) (inl b) =
      let has = subst (λ x. HasPart x r b.0) same_patterns b.1 in
      let of : a.0 ≡ b.0 = one_part s.start.pattern r a.0 b.0 a.1 has in (
        rw (a.2, b.2, of) (same_look s t p b.0 k),
        a.3 ∙ (ap (λ x. x + 1) (sym (long s t p)) ∙ sym b.3),
      )
  begins_weak r u v m n (inr a) (inr b) = (
    rw (a.1, b.1) (same_begin s t p _ _ k
        (same_called s t p (numbered (script.List r)) (numbered (script.List r)) (own_command _))),
    a.2 ∙ (sym (long s t p) ∙ sym b.2),
  )
  begins_weak r u v m n (inl a) (inr b) =
      absurd (lacks_part t.start.pattern r a.0 b.0 (subst (λ x. HasPart x r a.0) (sym
      same_patterns) a.1))
  begins_weak r u v m n (inr a) (inl b) =
      absurd (lacks_part t.start.pattern r b.0 (subst (λ x. LacksPart x r) (sym same_patterns) a.0)
      b.1)

  own_begins : (b : Begun) (u v : Service) (m n : ℕ) → Begins s b k u m → Begins t b k v n
      → IsSameService u v × (m ≡ n)
  own_begins (command c) = begins_command c c (own_command c)
  own_begins (weak r) = begins_weak r

  pub same_begins : (b d : Begun) → IsSameBegun b d → (u v : Service) (m n : ℕ)
      → Begins s b k u m → Begins t d k v n → IsSameService u v × (m ≡ n)
  same_begins b d (own_begun x) = own_begins x
  same_begins b d (other_begun x y same) = begins_command x y same

  pub begins_too : (b : Begun) (u : Service) (m : ℕ) → Begins s b k u m
      → (v : Service) × Begins t b k v m
  begins_too (command c) u m a = (with_begin t (called t c) k, (refl, a.1 ∙ sym (long s t p)))
  begins_too (weak r) u m (inl a) = (
    with_look t a.0 k,
    inl (
      a.0,
      subst (λ x. HasPart x r a.0) (sym same_patterns) a.1,
      refl,
      a.3 ∙ ap (λ x. x + 1) (sym (long s t p)),
    ),
  )
  begins_too (weak r) u m (inr a) = (
    with_begin t (called t (numbered (script.List r))) k,
    inr (
      subst (λ x. LacksPart x r) (sym same_patterns) a.0,
      refl,
      a.2 ∙ sym (long s t p),
    ),
  )
