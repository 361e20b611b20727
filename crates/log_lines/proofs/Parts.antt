-- What the parts of a line leave out.
use Rattle.std.proofs.Common.{◌≡◌, ◌≢◌, ◌⊎◌, ℕ, ◌≤◌, ◌<◌, ◌^◌, List, [], ◌++◌, Some, None, codes, get_or, refl, sym, ◌∙◌, subst, arith}
use Rattle.std.proofs.lemmas.List.{append-nil, append_cancel_left}
use Rattle.iox2_container.specs.declared.container.handle.Role.{Role}
use Rattle.iox2_container.specs.declared.container.handle.Role.TheVariants as role
use Rattle.line_streams.specs.declared.phrase.LineEnd.TheVariants.{Bytes}
use Rattle.line_streams.specs.Numerals.{cons_same}
use Rattle.service_descriptions.specs.declared.replay.lines.line.ServiceLine.{ServiceLine}
use Rattle.service_descriptions.specs.declared.replay.machine.command.Command.{Command}
use Rattle.service_descriptions.specs.Lines.{IsLine as IsCommand, line_of, line_text as command_line, role_word}
use Rattle.service_descriptions.specs.Script.{IsServiceLine, service_line}
use Rattle.log_lines.specs.Commands.{Begun, HasBegun, HasText, IsHandle, IsRemoval, NamedCommand, begun_text, command_text, handle_text, weak_text}
use Rattle.log_lines.specs.Commands.NamedCommand.{numbered, deregister, release}
use Rattle.log_lines.specs.Lines.{HasNone, Comes, IsCaller, IsLine, Line, begin_text, given_text, line_text, mark, number_text}
use Rattle.log_lines.specs.States.{HasState, State, state_text}
use Rattle.log_lines.specs.Lines.Line.{service, call, reply, begin, end, crash, given}
use Rattle.log_lines.proofs.Splits.{HasKind, begin_comes, class, class_end, class_number, class_plain, comes_same, crash_comes, end_comes, kind, kind_begin, kind_call, kind_given, is_of, line_kind, of_given, of_text, one_kind}

-- no role begins the text
abbrev NoRole : List ℕ → Type 0
NoRole rest = (a : Role × List ℕ) → a.0 ≢ role.Node → rest ≢ role_word a.0 ++ a.1

-- no text of a removal that names its handle
abbrev pub NoDeregister : List ℕ → Type 0
NoDeregister line =
    (slot ticket : ℕ) → IsHandle (slot, ticket)
    → line ≢ codes "deregister " ++ handle_text (slot, ticket)

abbrev pub NoRelease : List ℕ → Type 0
NoRelease line =
    (r : Role) (slot ticket : ℕ) → r ≢ role.Node → IsHandle (slot, ticket)
    → line ≢ codes "release " ++ (role_word r ++ (codes " " ++ handle_text (slot, ticket)))

pub no_removal : (line : List ℕ) → NoDeregister line → NoRelease line → (a : NamedCommand)
    → IsRemoval a → line ≢ command_text a
no_removal line one other (numbered c) p e = absurd p
no_removal line one other (deregister slot ticket) p e = one slot ticket p e
no_removal line one other (release r slot ticket) p e = other r slot ticket p.0 p.1 e

pub no_text : (line : List ℕ)
    → ((a : Command × List ℕ) → IsCommand Bytes a → line ≢ command_line Bytes a)
    → ((a : NamedCommand) → IsRemoval a → line ≢ command_text a) → (a : NamedCommand) → HasText a
    → line ≢ command_text a
no_text line none removals (numbered c) p e =
    none (c, []) (p, refl) (e ∙ sym (append-nil (line_of c)))
no_text line none removals (deregister slot ticket) p e = removals (deregister slot ticket) p e
no_text line none removals (release r slot ticket) p e = removals (release r slot ticket) p e

-- no weak listing, where it is not that of the nodes, nor one of ports
pub no_weak : (line : List ℕ) → line ≢ codes "nodes?"
    → ((r : Role) → r ≢ role.Node → line ≢ codes "list? " ++ (role_word r ++ []))
    → (r : Role) → line ≢ weak_text r
no_weak line nodes ports role.Node e = nodes e
no_weak line nodes ports role.Publisher e = ports role.Publisher (λ s. absurd (cc)) e
no_weak line nodes ports role.Subscriber e = ports role.Subscriber (λ s. absurd (cc)) e
no_weak line nodes ports role.Listener e = ports role.Listener (λ s. absurd (cc)) e
no_weak line nodes ports role.Notifier e = ports role.Notifier (λ s. absurd (cc)) e
no_weak line nodes ports role.Server e = ports role.Server (λ s. absurd (cc)) e
no_weak line nodes ports role.Client e = ports role.Client (λ s. absurd (cc)) e
no_weak line nodes ports role.Reader e = ports role.Reader (λ s. absurd (cc)) e
no_weak line nodes ports role.Writer e = ports role.Writer (λ s. absurd (cc)) e

-- nor where the word for one of ports stands, and no role does
pub no_weak_role : (line rest : List ℕ) → line ≡ codes "list? " ++ rest → NoRole rest → (r : Role)
    → line ≢ weak_text r
no_weak_role line rest is none =
    no_weak line
    (λ e. let first : 108 ≡ 110 = (cons_same (sym is ∙ e)).0 in absurd (omega arith))
    (λ r n e. none (r, []) n
    (append_cancel_left (codes "list? ") rest (role_word r ++ []) (sym is ∙ e)))

-- what does not begin with the word
pub no_deregister : (line : List ℕ) → ((rest : List ℕ) → line ≢ codes "deregister " ++ rest)
    → NoDeregister line
no_deregister line none slot ticket p e = none (handle_text (slot, ticket)) e

pub no_release : (line : List ℕ) → ((rest : List ℕ) → line ≢ codes "release " ++ rest)
    → NoRelease line
no_release line none r slot ticket p q e =
    none (role_word r ++ (codes " " ++ handle_text (slot, ticket))) e

-- what begins with the word, and goes on otherwise
pub no_handle : (line rest : List ℕ) → line ≡ codes "deregister " ++ rest
    → ((h : ℕ × ℕ) → IsHandle h → rest ≢ handle_text h) → NoDeregister line
no_handle line rest is none slot ticket p e =
    none (slot, ticket) p
    (append_cancel_left (codes "deregister ") rest (handle_text (slot, ticket)) (sym is ∙ e))

pub other_word : (line rest : List ℕ) → line ≡ codes "deregister " ++ rest → NoRelease line
other_word line rest is r slot ticket p q e =
    let first : 100 ≡ 114 = (cons_same (sym is ∙ e)).0 in absurd (omega (arith, first))

pub no_port : (line rest : List ℕ) → line ≡ codes "release " ++ rest
    → ((r : Role) (slot ticket : ℕ) → r ≢ role.Node → IsHandle (slot, ticket)
    → rest ≢ role_word r ++ (codes " " ++ handle_text (slot, ticket))) → NoRelease line
no_port line rest is none r slot ticket p q e =
    none r slot ticket p q (append_cancel_left (codes "release ") rest _ (sym is ∙ e))

module _ (text front back : List ℕ) (c : Comes text front back) where
  -- behind the name of a caller that begins a call, where what it begins is none
  pub begun_none : (rest : List ℕ) → back ≡ codes "> " ++ rest
      → ((b : Begun) → IsCaller front → HasBegun b → rest ≢ begun_text b) → HasNone text
  begun_none rest is none = record {
    alone = λ d p e.
        let k = one_kind 3 1 is_begin (of_text d p) e in absurd (omega arith);
    begun = λ caller b p q e.
        let same = comes_same c (begin_comes b p) e in
        none b (subst IsCaller (sym same.0) p) q
        (append_cancel_left (codes "> ") rest (begun_text b) (sym is ∙ same.1));
    given = λ s p e.
        let k = one_kind 3 5 is_begin (of_given (state_text s)) e in absurd (omega arith);
  }
    where
      is_begin : HasKind text 3
      is_begin = record {
        front = front;
        back = back;
        comes = c;
        is = subst (λ (b : List ℕ). class front b ≡ 3) (sym is) refl;
      }

  -- where none begins, none is given, and the text is that of no command
  pub command_none : ((x : List ℕ) → back ≢ codes "> " ++ x)
      → ((x : List ℕ) → text ≢ codes "state " ++ x)
      → ((d : NamedCommand) → HasText d → text ≢ command_text d) → HasNone text
  command_none none other alone = record {
    alone = alone;
    begun = λ caller b p q e. none (begun_text b) (comes_same c (begin_comes b p) e).1;
    given = λ s p e. other (state_text s) e;
  }

  -- no line of a caller whose call ends or who died
  pub ends_none : (mark back ≡ 60) ⊎ (mark back ≡ 33)
      → ((words : List ℕ) → IsCaller front → back ≢ codes "< " ++ words)
      → (IsCaller front → back ≢ codes "!") → (l : Line) → IsLine l → text ≢ line_text l
  ends_none is ended died l p e =
      each l p e (omega (
        arith,
        line_kind c l p e,
        class_end (mark back) (mark front) (get_or front 1 0) is,
      ))
    where
      each : (m : Line) → IsLine m → text ≡ line_text m → 6 ≤ kind m → ⊥
      each (end caller words) q f late =
          let same = comes_same c (end_comes words q) f in
          ended words (subst IsCaller (sym same.0) q) same.1
      each (crash caller) q f late =
          let same = comes_same c (crash_comes q) f in
          died (subst IsCaller (sym same.0) q) same.1
      each _ q f late = absurd (omega (arith, kind_call, kind_begin, kind_given))

  -- no line on the service with a number
  pub number_none : mark back ≡ 58
      → ((n : ℕ) (rest : List ℕ) → n < 2 ^ 64 → text ≢ number_text n ++ rest)
      → (l : Line) → IsLine l → text ≢ line_text l
  number_none is none l p e =
      each l p e
      (line_kind c l p e ∙ class_number (mark back) (mark front) (get_or front 1 0) is)
    where
      each : (m : Line) → IsLine m → text ≡ line_text m → kind m ≡ 2 → ⊥
      each (call (Some n) d) q f k = none n (command_text d) q.0 f
      each (begin (Some n) caller b) q f k = none n (begin_text caller b) q.0 f
      each (given (Some n) s) q f k = none n (given_text s) q.0 f
      each _ q f k = absurd (omega arith)

  -- no line, where none of these marks follows the letters and digits at its front
  pub plain_none : mark back ≢ 60 → mark back ≢ 33 → mark back ≢ 58
      → ((words : List ℕ) → text ≢ codes "= " ++ words)
      → ((l : ServiceLine) → IsServiceLine l → text ≢ service_line l) → HasNone text
      → (l : Line) → IsLine l → text ≢ line_text l
  plain_none x y z replies services none l p e =
      let k = line_kind c l p e in
      let few = class_plain (mark back) (mark front) (get_or front 1 0) x y z in
      each l p e (omega (arith, few.0)) (λ is. few.1 (sym k ∙ is))
    where
      each : (m : Line) → IsLine m → text ≡ line_text m → kind m ≤ 5 → kind m ≢ 2 → ⊥
      each (service m) q f few differ = services m q f
      each (call None d) q f few differ = none.alone d q.1 f
      each (call (Some n) d) q f few differ = differ refl
      each (reply words) q f few differ = replies words f
      each (begin None caller b) q f few differ = none.begun caller b q.1 q.2 f
      each (begin (Some n) caller b) q f few differ = differ refl
      each (given None s) q f few differ = none.given s q.1 f
      each (given (Some n) s) q f few differ = differ refl
      each _ q f few differ = absurd (omega arith)

-- what is given is no command, and no begin of a call
pub given_no_command : (rest : List ℕ) (d : NamedCommand) → HasText d
    → codes "state " ++ rest ≢ command_text d
given_no_command rest d p e =
    let k = one_kind 5 1 (of_given rest) (of_text d p) e in absurd (omega arith)

pub given_no_begin : (rest caller : List ℕ) (d : Begun) → IsCaller caller
    → codes "state " ++ rest ≢ begin_text caller d
given_no_begin rest caller d p e =
    let k = one_kind 5 3 (of_given rest) (is_of (begin_comes d p)) e in absurd (omega arith)

-- nothing, where no state stands behind the word
pub state_none : (text rest : List ℕ) → text ≡ codes "state " ++ rest
    → ((s : State) → HasState s → rest ≢ state_text s) → HasNone text
state_none text rest is none = record {
  alone = λ d p e. given_no_command rest d p (sym is ∙ e);
  begun = λ caller d p q e. given_no_begin rest caller d p (sym is ∙ e);
  given = λ s p e.
      none s p (append_cancel_left (codes "state ") rest (state_text s) (sym is ∙ e));
}
