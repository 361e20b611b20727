-- A line leads to the same, but for the memory of lists, from what is the same.
use Rattle.history_logs.proofs.Words.{AllZip, CallerState, Crashes, Gives, GoesOn, IsKept, IsNamed, Line, List, Log, NamedCommand, None, Option, Service, Sets, Some, State, [], ap, begin, call, called, crash, end, false, given, inl, inr, refl, reply, same_Some, service, slice_set, started, subst, sym, unseen, ℕ, ◌++◌, ◌∙◌, ◌∷◌, ◌≡◌}
use Rattle.log_lines.specs.Commands.{Begun}
use Rattle.std.proofs.lemmas.List.Elements.{AllZip-push}
use Rattle.std.proofs.lemmas.Slice.Zip.{AllZip-long}
use Rattle.iox2_dynamic.specs.Service as dynamic
use Rattle.log_lines.specs.States.State.{nodes, ports, entry}
use Rattle.service_conformance.specs.Given.{with_last, with_ports, with_used}
use Rattle.service_conformance.specs.Entries.{slot_entry}
use Rattle.service_conformance.specs.Sides.{ports_at}
use Rattle.service_conformance.proofs.Taking.{one_side}
use Rattle.service_descriptions.specs.declared.replay.machine.command.Command.TheVariants as script
use Rattle.history_logs.specs.declared.logs.callers.CallerState.TheVariants as caller
use Rattle.history_logs.specs.SameLogs.{IsSameLog, IsSameService, IsSameWait}
use Rattle.log_lines.specs.Laws.{IsSameBegun, IsSameCommand, IsSameLine}
use Rattle.log_lines.specs.Laws.IsSameCommand.{own_command}
use Rattle.history_logs.specs.SameLogs.IsSameReply.{own_reply}
use Rattle.history_logs.proofs.Kept.{cases_name}
use Rattle.history_logs.proofs.Named.{one_index, one_named}
use Rattle.history_logs.proofs.OneReply.{same_says}
use Rattle.log_lines.specs.Laws.IsSameBegun.{own_begun}
use Rattle.log_lines.specs.Laws.IsSameLine.{other_begin, other_call, own_line}
use Rattle.history_logs.proofs.SameSeen.{begins_too, own_service, same_alone, same_begins, same_called, same_crash, same_end, same_none, same_service_start, same_some, same_started, zip_at, zip_set}
use Rattle.history_logs.proofs.Together.{AreTogether, Keeps, goes_too, named_too}

-- what is given of a service makes one service
gives_one : (old : dynamic.Service) (what : State) (a b : dynamic.Service) → Gives old what a
    → Gives old what b → a ≡ b
gives_one old (nodes used locked) a b g h = g.1 ∙ sym h.1
gives_one old (ports r used) a b g h =
    let side : h.0 ≡ g.0 = one_side old.pattern g.0 h.0 r g.1 h.1 in
    g.3 ∙ sym (subst (λ x. b ≡ with_ports x old (with_used (ports_at old x).registry used false))
    side h.3)
gives_one old (entry slot ticket (script.Register id)) a b g h = g.0 ∙ sym h.0
gives_one old (entry slot ticket (script.Add d)) a b g h =
    let side = one_side old.pattern g.0 h.0 _ g.1 h.1 in
    g.2 ∙ sym (subst (λ x. b ≡ with_ports x old (with_last (ports_at old x).registry
    (slot_entry slot ticket d))) side h.2)
gives_one old (entry slot ticket _) a b g h = absurd g

-- the caller does one thing, and the others what they did
one_sets : (old new next : List ℕ → Option CallerState) (name : List ℕ) (st : CallerState)
    → Sets old name st new → Sets old name st next → next ≡ new
one_sets old new next name st a b i other = at other i
  where
    at : (other : List ℕ) → next other ≡ new other
    at other =
        elim (cases_name other name) [
          | inl same ↦ rw same (b.own ∙ sym a.own)
          | inr ne ↦ b.others other ne ∙ sym (a.others other ne)
        ]

pub no_wait : (a b : Option (ℕ × NamedCommand)) → IsSameWait a b → a ≡ None → b ≡ None
no_wait None None same e = refl
no_wait None (Some b) same e = absurd same
no_wait (Some a) b same e = absurd (cc)

a_wait : (a b : Option (ℕ × NamedCommand)) → IsSameWait a b → (at : ℕ) (c : NamedCommand)
    → a ≡ Some (at, c) → (d : NamedCommand) × (b ≡ Some (at, d)) × IsSameCommand c d
a_wait None b same at c e = absurd (cc)
a_wait (Some a) None same at c e = absurd same
a_wait (Some a) (Some b) same at c e =
    let is : a ≡ (at, c) = same_Some a (at, c) e in
    let waits : ℕ → Option (ℕ × NamedCommand) = λ n. Some (n, b.1) in (
      b.1,
      ap waits (sym same.0 ∙ ap (λ (p : ℕ × NamedCommand). p.0) is),
      subst (λ x. IsSameCommand x b.1) (ap (λ (p : ℕ × NamedCommand). p.1) is) same.1,
    )

same_line : (at : ℕ) (s t : Service) → IsSameService s t → t.line ≡ s.line
same_line at s t p = ap (λ (x : Service). x.line) p.others

-- a crash
crash_same : (ss ts : List Service) (k : ℕ) (state : Option CallerState) (us vs : List Service)
    → AllZip IsSameService ss ts → Crashes ss k state us → Crashes ts k state vs
    → AllZip IsSameService us vs
crash_same ss ts k None us vs zip a b = absurd a
crash_same ss ts k (Some caller.Dead) us vs zip a b = absurd a
crash_same ss ts k (Some caller.Idle) us vs zip a b = rw (a, b) zip
crash_same ss ts k (Some (caller.Calls at number)) us vs zip a b =
    rw (a.2, b.2) (zip_set IsSameService ss ts at _ _ zip
    (same_crash a.0 b.0 (zip_at IsSameService ss ts at a.0 b.0 zip a.1 b.1) number k))

module _ (old other : Log) (same : IsSameLog old other) where
  together : AreTogether (λ at. IsSameService) old.services other.services
  together = record {
    long = sym (AllZip-long IsSameService old.services other.services same.services);
    each = λ at s t there here. zip_at IsSameService old.services other.services at s t
        same.services there here;
  }

  named_same : (number : Option ℕ) (at bt : ℕ) (s t : Service) → IsNamed number old.services at s
      → IsNamed number other.services bt t → (at ≡ bt) × IsSameService s t
  named_same number at bt s t n m =
      let u =
      named_too (λ at. IsSameService) old.services other.services together same_line number at s n
      in (
        one_index number other.services at bt u.0 t u.1 m,
        subst (IsSameService s) (one_named number other.services at bt u.0 t u.1 m) u.2,
      )

  set_same : (at bt : ℕ) (s t : Service) → at ≡ bt → IsSameService s t
      → AllZip IsSameService (slice_set old.services at s) (slice_set other.services bt t)
  set_same at bt s t e p =
      rw e (zip_set IsSameService old.services other.services bt s t same.services p)

  push_same : (s t : Service) → IsSameService s t
      → AllZip IsSameService (old.services ++ s ∷ []) (other.services ++ t ∷ [])
  push_same s t p =
      AllZip-push IsSameService old.services other.services s t same.services p

  sets_same : (new next : Log) (name : List ℕ) (a b : CallerState) → a ≡ b
      → Sets old.callers name a new.callers → Sets other.callers name b next.callers
      → next.callers ≡ new.callers
  sets_same new next name a b e p q =
      one_sets old.callers new.callers next.callers name a p
      (subst (λ x. Sets old.callers name x next.callers) (sym e)
      (subst (λ x. Sets x name b next.callers) same.callers q))

  -- lines that do the same lead to the same
  module _ (k : ℕ) (new next : Log) where
    call_same : (number : Option ℕ) (c d : NamedCommand) → IsSameCommand c d
        → GoesOn old k (call number c) new → GoesOn other k (call number d) next
        → IsSameLog new next
    call_same number c d q g h =
        let at = named_same number g.0 h.0 g.1 h.1 g.3 h.3 in
        rw (g.4, h.4)
        (record { services = same.services; callers = same.callers; waits = (at.0, q) })

    begin_same : (number : Option ℕ) (name : List ℕ) (b d : Begun) → IsSameBegun b d
        → GoesOn old k (begin number name b) new → GoesOn other k (begin number name d) next
        → IsSameLog new next
    begin_same number name b d q g h =
        let at = named_same number g.0 h.0 g.1 h.1 g.3 h.3 in
        let is =
        same_begins g.1 h.1 at.1 k b d q g.5.0 h.5.0 g.5.1 h.5.1 g.5.2 h.5.2 in
        record {
          services = rw (g.5.3, h.5.3) (set_same g.0 h.0 g.5.0 h.5.0 at.0 is.0);
          callers = sets_same new next name (caller.Calls g.0 g.5.1) (caller.Calls h.0 h.5.1)
              (rw (at.0, is.1) refl) g.5.4 h.5.4;
          waits = rw (g.5.5, h.5.5) tt;
        }

    given_same : (number : Option ℕ) (what : State) → GoesOn old k (given number what) new
        → GoesOn other k (given number what) next → IsSameLog new next
    given_same number what g h =
        let at = named_same number g.0 h.0 g.1 h.1 g.4 h.4 in
        elim g.5 as (λ _. IsSameLog new next) [
          | inl a ↦ elim h.5 as (λ _. IsSameLog new next) [
            | inl b ↦
                let start : g.2 ≡ h.2 =
                gives_one g.1.start what g.2 h.2 a.0.1
                (subst (λ x. Gives x what h.2) (same_service_start g.1 h.1 at.1) b.0.1) in
                rw (a.1, b.1) (record {
                  services = set_same g.0 h.0 (started g.1 g.2) (started h.1 h.2) at.0
                      (rw start (same_started g.1 h.1 at.1 h.2));
                  callers = same.callers;
                  waits = same.waits;
                })
            | inr b ↦ absurd (b.0.0 (same_none g.1 h.1 at.1 a.0.0))
          ]
          | inr a ↦ elim h.5 as (λ _. IsSameLog new next) [
            | inl b ↦ absurd (a.0.0 (same_some g.1 h.1 at.1 b.0.0))
            | inr b ↦
                let line : h.1.line ≡ g.1.line = ap (λ (x : Service). x.line) at.1.others in
                let start : g.2 ≡ h.2 =
                gives_one (unseen g.1.line).start what g.2 h.2 a.0.2
                (subst (λ x. Gives (unseen x).start what h.2) line b.0.2) in
                rw (a.1, b.1) (record {
                  services = push_same (started (unseen g.1.line) g.2)
                      (started (unseen h.1.line) h.2)
                      (rw (line, start) (own_service (started (unseen g.1.line) h.2)));
                  callers = same.callers;
                  waits = same.waits;
                })
          ]
        ]

    own_same : (l : Line) → GoesOn old k l new → GoesOn other k l next → IsSameLog new next
    own_same (service line) g h =
        rw (g.2, h.2) (record {
          services = push_same (unseen line) (unseen line) (own_service (unseen line));
          callers = same.callers;
          waits = same.waits;
        })
    own_same (call number c) g h = call_same number c c (own_command c) g h
    own_same (reply words) g h =
        let w = a_wait old.waits other.waits same.waits g.0 g.1 g.4 in
        let is : ◌≡◌ {A = ℕ × NamedCommand} (g.0, w.0) (h.0, h.1) =
        same_Some (g.0, w.0) (h.0, h.1) (sym w.1 ∙ h.4) in
        let at : g.0 ≡ h.0 = ap (λ (p : ℕ × NamedCommand). p.0) is in
        let c : IsSameCommand g.1 h.1 =
        subst (IsSameCommand g.1) (ap (λ (p : ℕ × NamedCommand). p.1) is) w.2 in
        let s = together.each g.0 g.2 h.2 g.5 (rw (← at) at h.5) in
        rw (g.7, h.7) (record {
          services = set_same g.0 h.0 _ _ at
              (same_alone g.2 h.2 s (called g.2 g.1) (called h.2 h.1) g.3 h.3 k
              (same_called g.2 h.2 s g.1 h.1 c) (same_says words g.3 h.3 g.6 h.6));
          callers = same.callers;
          waits = tt;
        })
    own_same (begin number name b) g h = begin_same number name b b (own_begun b) g h
    own_same (end name words) g h =
        let does : Some (caller.Calls g.0 g.1) ≡ Some (caller.Calls h.0 h.1) =
        sym g.5 ∙ (ap (λ (f : List ℕ → Option CallerState). f name) (sym same.callers) ∙ h.5) in
        let at : g.0 ≡ h.0 = cc in
        let number : g.1 ≡ h.1 = cc in
        let s = together.each g.0 g.2 h.2 g.6 (rw (← at) at h.6) in
        record {
          services = rw (g.8, h.8, ← number) (set_same g.0 h.0 _ _ at
              (same_end g.2 h.2 s g.1 g.3 h.3 k (same_says words g.3 h.3 g.7 h.7)));
          callers = sets_same new next name caller.Idle caller.Idle refl g.9 h.9;
          waits = rw (g.10, h.10) tt;
        }
    own_same (crash name) g h = record {
      services = crash_same old.services other.services k (old.callers name) new.services
          next.services same.services g.1
          (subst (λ (f : List ℕ → Option CallerState). Crashes other.services k (f name)
          next.services) same.callers h.1);
      callers = sets_same new next name caller.Dead caller.Dead refl g.2 h.2;
      waits = rw (g.3, h.3) tt;
    }
    own_same (given number what) g h = given_same number what g h

    pub step_same : (l m : Line) → IsSameLine l m → GoesOn old k l new → GoesOn other k m next
        → IsSameLog new next
    step_same l m (own_line x) = own_same x
    step_same l m (other_call number c d q) = call_same number c d q
    step_same l m (other_begin number name b d q) = begin_same number name b d q

-- what is the same still is, whatever is added to both
keeps_same : Keeps (λ at. IsSameService) IsSameCommand
keeps_same = record {
  line = same_line;
  none = λ at s t p. same_some s t p;
  own = own_command;
  begins = λ at s t b k u n p is.
      let v = begins_too s t p k b u n is in
      (v.0, v.1, (same_begins s t p k b b (own_begun b) u v.0 n n is v.1).0);
  alone = λ at s t c d r k p orderly q.
      same_alone s t p (called s c) (called t d) r r k (same_called s t p c d q) (own_reply r);
  ends = λ at s t n r k p live. same_end s t p n r r k (own_reply r);
  crash = λ at s t n k p. same_crash s t p n k;
  starts = λ at s t what start p is. (
    (
      same_none s t p is.0,
      subst (λ x. Gives x what start) (sym (same_service_start s t p)) is.1,
    ),
    same_started s t p start,
  );
}

-- where one goes on by a line, the other does
pub step_too : (old other : Log) → IsSameLog old other → IsKept other → (k : ℕ) (new : Log)
    (l : Line) → GoesOn old k l new → (next : Log) × GoesOn other k l next
step_too old other same kept k new l g =
    let goes =
    goes_too (λ at. IsSameService) IsSameCommand keeps_same old other k (record {
      services = together old other same;
      callers = same.callers;
      none = no_wait old.waits other.waits same.waits;
      waits = a_wait old.waits other.waits same.waits;
    }) kept (λ line start. own_service (started (unseen line) start)) new l g in
    (goes.0, goes.1)
