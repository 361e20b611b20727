-- A log goes on by a line where another one does that goes together with it.
use Rattle.history_logs.proofs.Words.{CallerState, Crashes, Gives, GoesOn, IsKept, IsNamed, IsOpen, IsOrderly, Line, List, Log, MayBegin, NamedCommand, None, NoneCalls, Option, SeenReply, Service, ServiceLine, Sets, Some, StartsAs, State, [], ap, arith, begin, call, called, cases_eq, crash, end, get_set_other, given, inl, inr, length, length-set, refl, reply, same_Some, service, slice_get, slice_get_within, slice_set, started, subst, sym, unseen, with_alone, with_crash, with_end, Begins, Begun, ℕ, ◌++◌, ◌∙◌, ◌∷◌, ◌≡◌, ◌≢◌}
use Rattle.iox2_dynamic.specs.Service as dynamic
use Rattle.history_logs.specs.declared.logs.callers.CallerState.TheVariants as caller
use Rattle.history_logs.proofs.AtIndex.{all_get, all_of, get_push_at, get_same, get_within}
use Rattle.history_logs.proofs.Kept.{open_at}
use Rattle.history_logs.proofs.Orderly.{both}

-- lists of services that are as long as each other, and go together at each index
pub record AreTogether (R : ℕ → Service → Service → Type 0) (ss ts : List Service) : Type 0 where
  pub long : length ss ≡ length ts
  pub each : (at : ℕ) (s t : Service) → slice_get ss at ≡ Some s → slice_get ts at ≡ Some t
      → R at s t

module _ (R : ℕ → Service → Service → Type 0) (ss ts : List Service) (a : AreTogether R ss ts)
  where
    pub found : (at : ℕ) (s : Service) → slice_get ss at ≡ Some s
        → (t : Service) × (slice_get ts at ≡ Some t) × R at s t
    found at s here =
        let t = get_within ts at (omega (arith, a.long, slice_get_within ss at s here)) in
        (t.0, t.1, a.each at s t.0 here t.1)

    -- other services are at an index, and with them others may go together
    pub put : (Next : ℕ → Service → Service → Type 0) (at : ℕ) (s t u v : Service)
        → slice_get ss at ≡ Some s → slice_get ts at ≡ Some t
        → ((i : ℕ) (x y : Service) → i ≢ at → R i x y → Next i x y) → Next at u v
        → AreTogether Next (slice_set ss at u) (slice_set ts at v)
    put Next at s t u v here there others own = record {
      long = length-set ss at u ∙ (a.long ∙ sym (length-set ts at v));
      each = λ i x y ex ey. elim (cases_eq i at) [
        | inl same ↦
            let isx = same_Some u x (sym (get_same ss at u s here) ∙ rw same at ex) in
            let isy = same_Some v y (sym (get_same ts at v t there) ∙ rw same at ey) in
            rw (same, ← isx, ← isy) own
        | inr other ↦
            others i x y other
            (a.each i x y (sym (get_set_other ss at i u other) ∙ ex)
            (sym (get_set_other ts at i v other) ∙ ey))
      ];
    }

    pub push : (s t : Service) → R (length ss) s t
        → AreTogether R (ss ++ s ∷ []) (ts ++ t ∷ [])
    push s t own = record {
      long = both ss ts s t a.long;
      each = λ i x y ex ey. elim (get_push_at ss s i x ex) [
        | inl before ↦ elim (get_push_at ts t i y ey) [
          | inl beside ↦ a.each i x y before beside
          | inr last ↦ absurd (omega (arith, slice_get_within ss i x before, last.0, a.long))
        ]
        | inr last ↦ elim (get_push_at ts t i y ey) [
          | inl beside ↦ absurd (omega (arith, slice_get_within ts i y beside, last.0, a.long))
          | inr beside ↦ rw (last.0, ← last.1, ← beside.1) own
        ]
      ];
    }

    module _ (line : (at : ℕ) (s t : Service) → R at s t → t.line ≡ s.line) where
      pub number_back : (at : ℕ) (t : Service) → slice_get ts at ≡ Some t
          → (s : Service) × (slice_get ss at ≡ Some s) × (s.line.number ≡ t.line.number)
      number_back at t there =
          let s = get_within ss at (omega (arith, a.long, slice_get_within ts at t there)) in (
            s.0,
            s.1,
            ap (λ (l : ServiceLine). l.number)
                (sym (line at s.0 t (a.each at s.0 t s.1 there))),
          )

      pub named_too : (number : Option ℕ) (at : ℕ) (s : Service) → IsNamed number ss at s
          → (t : Service) × IsNamed number ts at t × R at s t
      named_too number at s n =
          let t = found at s n.there in
          let own : t.0.line.number ≡ s.line.number =
          ap (λ (l : ServiceLine). l.number) (line at s t.0 t.2) in (
            t.0,
            record {
              there = t.1;
              named = elim n.named [
                | inl is ↦ inl (is ∙ ap Some (sym own))
                | inr alone ↦ inr (
                  alone.0,
                  all_of (λ (x : Service). x.line.number ≡ t.0.line.number) ts (λ i y e.
                      let x = number_back i y e in
                      sym x.2 ∙ (all_get (λ (z : Service). z.line.number ≡ s.line.number) ss i x.0
                      alone.1 x.1 ∙ sym own)),
                )
              ];
              last = λ later y less e same.
                  let x = number_back later y e in
                  n.last later x.0 less x.1 (x.2 ∙ (same ∙ own));
            },
            t.2,
          )

-- What goes together still does, whatever is added to both: services by R, and by C the commands
-- that wait for their replies.
pub record Keeps (R : ℕ → Service → Service → Type 0) (C : NamedCommand → NamedCommand → Type 0)
    : Type 0 where
  pub line : (at : ℕ) (s t : Service) → R at s t → t.line ≡ s.line
  pub none : (at : ℕ) (s t : Service) → R at s t → t.calls ≡ [] → s.calls ≡ []
  pub own : (c : NamedCommand) → C c c
  pub begins : (at : ℕ) (s t : Service) (b : Begun) (k : ℕ) (u : Service) (n : ℕ) → R at s t
      → Begins s b k u n → (v : Service) × Begins t b k v n × R at u v
  pub alone : (at : ℕ) (s t : Service) (c d : NamedCommand) (r : SeenReply) (k : ℕ) → R at s t
      → IsOrderly t → C c d → R at (with_alone s (called s c) r k) (with_alone t (called t d) r k)
  pub ends : (at : ℕ) (s t : Service) (n : ℕ) (r : SeenReply) (k : ℕ) → R at s t
      → IsOpen t.events n → R at (with_end s n r k) (with_end t n r k)
  pub crash : (at : ℕ) (s t : Service) (n k : ℕ) → R at s t
      → R at (with_crash s n k) (with_crash t n k)
  pub starts : (at : ℕ) (s t : Service) (what : State) (start : dynamic.Service) → R at s t
      → StartsAs s what start → StartsAs t what start × R at (started s start) (started t start)

-- what was read of one log goes together with what was read of another
pub record GoTogether (R : ℕ → Service → Service → Type 0)
    (C : NamedCommand → NamedCommand → Type 0) (from to : Log) : Type 0 where
  pub services : AreTogether R from.services to.services
  pub callers : to.callers ≡ from.callers
  pub none : from.waits ≡ None → to.waits ≡ None
  pub waits : (at : ℕ) (c : NamedCommand) → from.waits ≡ Some (at, c)
      → (d : NamedCommand) × (to.waits ≡ Some (at, d)) × C c d

module _ (R : ℕ → Service → Service → Type 0) (C : NamedCommand → NamedCommand → Type 0)
    (keeps : Keeps R C) (from to : Log) (k : ℕ) (h : GoTogether R C from to)
    (kept : IsKept to) (fresh : (line : ServiceLine) (start : dynamic.Service)
    → R (length from.services) (started (unseen line) start) (started (unseen line) start))
  where
    does : (name : List ℕ) → to.callers name ≡ from.callers name
    does name = ap (λ (f : List ℕ → Option CallerState). f name) h.callers

    get : (at : ℕ) (s : Service) → slice_get from.services at ≡ Some s
        → (t : Service) × (slice_get to.services at ≡ Some t) × R at s t
    get = found R from.services to.services h.services

    named : (number : Option ℕ) (at : ℕ) (s : Service) → IsNamed number from.services at s
        → (t : Service) × IsNamed number to.services at t × R at s t
    named = named_too R from.services to.services h.services keeps.line

    set : (at : ℕ) (s t u v : Service) → slice_get from.services at ≡ Some s
        → slice_get to.services at ≡ Some t → R at u v
        → AreTogether R (slice_set from.services at u) (slice_set to.services at v)
    set at s t u v here there own =
        put R from.services to.services h.services R at s t u v here there (λ i x y other r. r) own

    module _ (new : Log) where
      abbrev Goes : Line → Type 0
      Goes l = (more : Log) × GoesOn to k l more × GoTogether R C new more

      idle : (more : Log) → AreTogether R new.services more.services → more.callers ≡ new.callers
          → new.waits ≡ None → more.waits ≡ None → GoTogether R C new more
      idle more services callers none own = record {
        services = services;
        callers = callers;
        none = λ e. own;
        waits = λ at c e. absurd (cc);
      }

      sets : (name : List ℕ) (state : CallerState) → Sets from.callers name state new.callers
          → Sets to.callers name state new.callers
      sets name state does_so =
          subst (λ (f : List ℕ → Option CallerState). Sets f name state new.callers)
          (sym h.callers) does_so

      -- the caller does something else, and its service changes
      set_idle : (at : ℕ) (s t u v : Service) → slice_get from.services at ≡ Some s
          → slice_get to.services at ≡ Some t → R at u v
          → new.services ≡ slice_set from.services at u → new.waits ≡ None
          → GoTogether R C new (record {
            services = slice_set to.services at v;
            callers = new.callers;
            waits = None;
          })
      set_idle at s t u v here there own services waits =
          idle (record {
            services = slice_set to.services at v;
            callers = new.callers;
            waits = None;
          }) (rw services (set at s t u v here there own)) refl waits refl

      crashes : (state : Option CallerState) → Crashes from.services k state new.services
          → (vs : List Service) × Crashes to.services k state vs × AreTogether R new.services vs
      crashes (Some caller.Idle) c = (to.services, refl, rw c h.services)
      crashes (Some (caller.Calls at number)) c =
          let t = get at c.0 c.1 in (
            slice_set to.services at (with_crash t.0 number k),
            (t.0, t.1, refl),
            rw c.2 (set at c.0 t.0 (with_crash c.0 number k) (with_crash t.0 number k) c.1 t.1
                (keeps.crash at c.0 t.0 number k t.2)),
          )
      crashes _ c = absurd c

      pub goes_too : (l : Line) → GoesOn from k l new → Goes l
      goes_too (service line) g = (
        record to { services = to.services ++ unseen line ∷ [] },
        (
          h.none g.0,
          all_of (λ (x : Service). x.line.number ≢ line.number) to.services (λ i y e is.
              let x = number_back R from.services to.services h.services keeps.line i y e in
              all_get (λ (z : Service). z.line.number ≢ line.number) from.services i x.0 g.1 x.1
              (x.2 ∙ is)),
          refl,
        ),
        rw g.2 (record {
          services = push R from.services to.services h.services (unseen line) (unseen line)
              (fresh line (unseen line).start);
          callers = h.callers;
          none = h.none;
          waits = h.waits;
        }),
      )
      goes_too (call number c) g =
          let t = named number g.0 g.1 g.3 in (
            record to { waits = Some (g.0, c) },
            (g.0, t.0, h.none g.2, t.1, refl),
            rw g.4 (record {
              services = h.services;
              callers = h.callers;
              none = λ e. e;
              waits = λ at d e. (d, e, keeps.own d);
            }),
          )
      goes_too (reply words) g =
          let w = h.waits g.0 g.1 g.4 in
          let t = get g.0 g.2 g.5 in
          let orderly = all_get IsOrderly to.services g.0 t.0 kept.orderly t.1 in
          let own = with_alone g.2 (called g.2 g.1) g.3 k in
          let other = with_alone t.0 (called t.0 w.0) g.3 k in (
            record to { services = slice_set to.services g.0 other; waits = None },
            (g.0, w.0, t.0, g.3, w.1, t.1, g.6, refl),
            rw g.7 (record {
              services = set g.0 g.2 t.0 own other g.5 t.1
                  (keeps.alone g.0 g.2 t.0 g.1 w.0 g.3 k t.2 orderly w.2);
              callers = h.callers;
              none = λ e. refl;
              waits = λ at c e. absurd (cc);
            }),
          )
      goes_too (begin number name b) g =
          let t = named number g.0 g.1 g.3 in
          let v = keeps.begins g.0 g.1 t.0 b k g.5.0 g.5.1 t.2 g.5.2 in (
            record {
              services = slice_set to.services g.0 v.0;
              callers = new.callers;
              waits = None;
            },
            (
              g.0,
              t.0,
              h.none g.2,
              t.1,
              subst MayBegin (sym (does name)) g.4,
              (v.0, g.5.1, v.1, refl, sets name (caller.Calls g.0 g.5.1) g.5.4, refl),
            ),
            set_idle g.0 g.1 t.0 g.5.0 v.0 g.3.there t.1.there v.2 g.5.3 g.5.5,
          )
      goes_too (end name words) g =
          let t = get g.0 g.2 g.6 in
          let is = does name ∙ g.5 in
          let live = open_at to.services g.0 g.1 t.0 t.1 (kept.opened name g.0 g.1 is) in
          let other = with_end t.0 g.1 g.3 k in (
            record {
              services = slice_set to.services g.0 other;
              callers = new.callers;
              waits = None;
            },
            (
              g.0,
              g.1,
              t.0,
              g.3,
              h.none g.4,
              is,
              t.1,
              g.7,
              refl,
              sets name caller.Idle g.9,
              refl,
            ),
            set_idle g.0 g.2 t.0 (with_end g.2 g.1 g.3 k) other g.6 t.1
                (keeps.ends g.0 g.2 t.0 g.1 g.3 k t.2 live) g.8 g.10,
          )
      goes_too (crash name) g =
          let vs = crashes (from.callers name) g.1 in (
            record { services = vs.0; callers = new.callers; waits = None },
            (
              h.none g.0,
              subst (λ st. Crashes to.services k st vs.0) (sym (does name)) vs.1,
              sets name caller.Dead g.2,
              refl,
            ),
            idle (record { services = vs.0; callers = new.callers; waits = None }) vs.2 refl g.3
                refl,
          )
      goes_too (given number what) g =
          let t = named number g.0 g.1 g.4 in
          elim g.5 as (λ _. Goes (given number what)) [
            | inl first ↦
                let v = keeps.starts g.0 g.1 t.0 what g.2 t.2 first.0 in (
                  record to { services = slice_set to.services g.0 (started t.0 g.2) },
                  (g.0, t.0, g.2, h.none g.3, t.1, inl (v.0, refl)),
                  rw first.1 (record {
                    services = set g.0 g.1 t.0 (started g.1 g.2) (started t.0 g.2) g.4.there
                        t.1.there v.1;
                    callers = h.callers;
                    none = h.none;
                    waits = h.waits;
                  }),
                )
            | inr anew ↦
                let line : t.0.line ≡ g.1.line = keeps.line g.0 g.1 t.0 t.2 in
                let made : Service = started (unseen g.1.line) g.2 in (
                  record to { services = to.services ++ started (unseen t.0.line) g.2 ∷ [] },
                  (
                    g.0,
                    t.0,
                    g.2,
                    h.none g.3,
                    t.1,
                    inr (
                      (
                        λ none. anew.0.0 (keeps.none g.0 g.1 t.0 t.2 none),
                        subst (λ (f : List ℕ → Option CallerState). NoneCalls f g.0) (sym h.callers)
                            anew.0.1,
                        subst (λ (l : ServiceLine). Gives (unseen l).start what g.2) (sym line)
                            anew.0.2,
                      ),
                      refl,
                    ),
                  ),
                  rw anew.1 (record {
                    services = subst (λ (l : ServiceLine). AreTogether R
                        (from.services ++ made ∷ [])
                        (to.services ++ started (unseen l) g.2 ∷ [])) (sym line)
                        (push R from.services to.services h.services made made
                        (fresh g.1.line g.2));
                    callers = h.callers;
                    none = h.none;
                    waits = h.waits;
                  }),
                )
          ]
