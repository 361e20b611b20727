-- Lines with one text are alike, but for the command of a call, and notes are no lines.
use Rattle.std.proofs.Common.{◌≡◌, ◌≢◌, ℕ, ◌<◌, ◌^◌, List, [], ◌∷◌, ◌++◌, Some, None, codes, length, refl, sym, ◌∙◌, ap, subst, arith}
use Rattle.std.specs.Prelude.{◌==◌, IsTrue}
use Rattle.std.specs.Char.{is_ascii_alphanumeric}
use Rattle.std.proofs.lemmas.Bool.Decides.{nat_tests}
use Rattle.std.proofs.lemmas.Fmt.{decimal_injective, decimal_nonempty}
use Rattle.std.proofs.lemmas.List.{append_cancel_left}
use Rattle.line_streams.specs.Numerals.{cons_same}
use Rattle.service_descriptions.specs.declared.replay.machine.command.Cleanup.TheVariants.{ByPort}
use Rattle.service_descriptions.specs.declared.replay.machine.command.Command.{Command}
use Rattle.service_descriptions.specs.declared.replay.machine.command.Command.TheVariants as command
use Rattle.service_descriptions.specs.Lines.{HasLine, line_of}
use Rattle.service_descriptions.proofs.Scripts.{one_service}
use Rattle.log_lines.specs.Commands.{Begun, HasText, NamedCommand, command_text}
use Rattle.log_lines.specs.Commands.NamedCommand.{numbered, deregister, release}
use Rattle.log_lines.specs.Laws.{IsAlike, NotesAreNoLines}
use Rattle.log_lines.specs.Lines.{Comes, HasNone, IsCaller, IsLine, Line, begin_text, given_text, is_note, line_text, number_text}
use Rattle.log_lines.specs.Lines.Line.{service, call, reply, begin, end, crash, given}
use Rattle.log_lines.proofs.Names.{first_letter}
use Rattle.log_lines.proofs.Parts.{given_no_begin, given_no_command}
use Rattle.log_lines.proofs.Splits.{begin_comes, comes_same, crash_comes, end_comes, kind, kind_begin, kind_call, number_comes, kind_given, is_of, of_line, of_text, one_kind}
use Rattle.log_lines.proofs.States.{same_state}

-- the numbers before two texts that are the same are, and so is what follows them
pub one_number : (m n : ℕ) (x y : List ℕ) → m < 2 ^ 64 → n < 2 ^ 64
    → number_text m ++ x ≡ number_text n ++ y → (m ≡ n) × (x ≡ y)
one_number m n x y p q e =
    let same = comes_same (number_comes m x p) (number_comes n y q) e in
    (decimal_injective m n p q same.0, (cons_same (cons_same same.1).1).1)

-- no command is the begin of a call
pub no_begin : (c : NamedCommand) (d : Begun) (caller : List ℕ) → HasText c → IsCaller caller
    → command_text c ≢ begin_text caller d
no_begin c d caller p q e =
    let k = one_kind 1 3 (of_text c p) (is_of (begin_comes d q)) e in absurd (omega arith)

same_kind : (a b : Line) → IsLine a → IsLine b → line_text a ≡ line_text b → kind a ≡ kind b
    → IsAlike a b
same_kind (service l) (service m) p q e k = one_service l m p q e
same_kind (call None c) (call None d) p q e k = refl
same_kind (call (Some m) c) (call (Some n) d) p q e k =
    ap Some (one_number _ _ _ _ p.0 q.0 e).0
same_kind (call (Some m) c) (begin (Some n) caller d) p q e k =
    absurd (no_begin c d caller p.1 q.1 (one_number _ _ _ _ p.0 q.0 e).1)
same_kind (begin (Some m) caller c) (call (Some n) d) p q e k =
    absurd (no_begin d c caller q.1 p.1 (sym (one_number _ _ _ _ p.0 q.0 e).1))
same_kind (reply v) (reply w) p q e k = append_cancel_left (codes "= ") v w e
same_kind (begin None a c) (begin None b d) p q e k =
    (refl, (comes_same (begin_comes c p.1) (begin_comes d q.1) e).0)
same_kind (begin (Some m) a c) (begin (Some n) b d) p q e k =
    let same = one_number _ _ _ _ p.0 q.0 e in
    (ap Some same.0, (comes_same (begin_comes c p.1) (begin_comes d q.1) same.1).0)
same_kind (end a v) (end b w) p q e k =
    let same = comes_same (end_comes v p) (end_comes w q) e in
    (same.0, append_cancel_left (codes "< ") v w same.1)
same_kind (crash a) (crash b) p q e k = (comes_same (crash_comes p) (crash_comes q) e).0
same_kind (given None s) (given None t) p q e k =
    (refl, same_state s t p.1 q.1 (append_cancel_left (codes "state ") _ _ e))
same_kind (given (Some m) s) (given (Some n) t) p q e k =
    let same = one_number _ _ _ _ p.0 q.0 e in
    (ap Some same.0, same_state s t p.1 q.1 (append_cancel_left (codes "state ") _ _ same.1))
same_kind (given (Some m) s) (call (Some n) c) p q e k =
    absurd (given_no_command _ c q.1 (one_number _ _ _ _ p.0 q.0 e).1)
same_kind (call (Some m) c) (given (Some n) s) p q e k =
    absurd (given_no_command _ c p.1 (sym (one_number _ _ _ _ p.0 q.0 e).1))
same_kind (given (Some m) s) (begin (Some n) caller c) p q e k =
    absurd (given_no_begin _ caller c q.1 (one_number _ _ _ _ p.0 q.0 e).1)
same_kind (begin (Some m) caller c) (given (Some n) s) p q e k =
    absurd (given_no_begin _ caller c p.1 (sym (one_number _ _ _ _ p.0 q.0 e).1))
same_kind (given None s) (begin None a c) p q e k = absurd (omega arith)
same_kind (begin None a c) (given None s) p q e k = absurd (omega arith)
same_kind (given None s) (reply w) p q e k = absurd (omega arith)
same_kind (reply w) (given None s) p q e k = absurd (omega arith)
same_kind _ _ p q e k = absurd (omega (arith, kind_call, kind_begin, kind_given))

pub one_way : (a b : Line) → IsLine a → IsLine b → line_text a ≡ line_text b → IsAlike a b
one_way a b p q e = same_kind a b p q e (one_kind _ _ (of_line a p) (of_line b q) e)

-- after a number only a call follows, alone or begun, or what is given
pub numbered_none : (line rest : List ℕ) (n : ℕ) → n < 2 ^ 64 → line ≡ number_text n ++ rest
    → HasNone rest → (l : Line) → IsLine l → line ≢ line_text l
numbered_none line rest n h is none l p e =
    cases l p (sym is ∙ e) (one_kind _ _ (of_line l p) (is_of (number_comes n rest h)) (sym e ∙ is))
  where
    cases : (m : Line) → IsLine m → number_text n ++ rest ≡ line_text m → kind m ≡ 2 → ⊥
    cases (call (Some m) c) q f k = none.alone c q.1 (one_number _ _ _ _ h q.0 f).1
    cases (begin (Some m) caller c) q f k =
        none.begun caller c q.1 q.2 (one_number _ _ _ _ h q.0 f).1
    cases (given (Some m) s) q f k = none.given s q.1 (one_number _ _ _ _ h q.0 f).1
    cases _ q f k = absurd (omega arith)

-- what begins with a letter or a digit is no note
letter_no_note : (text front back : List ℕ) → Comes text front back → 0 < length front
    → ¬ (IsTrue (is_note text))
letter_no_note text [] back c h note = absurd (omega arith)
letter_no_note text (f ∷ fs) back c h note =
    let is : IsTrue (f == 35) = subst (λ (t : List ℕ). IsTrue (is_note t)) c.whole note in
    let same : f ≡ 35 = grind (arith, nat_tests, is) in
    let letter : IsTrue (is_ascii_alphanumeric 35) =
    subst (λ b. IsTrue (is_ascii_alphanumeric b)) same (first_letter f fs c.letters) in
    absurd (cc)

command_no_note : (c : Command) → HasLine c → ¬ (IsTrue (is_note (line_of c)))
command_no_note (command.Register id) p note = absurd (cc)
command_no_note (command.Deregister k) p note = absurd (cc)
command_no_note command.Nodes p note = absurd (cc)
command_no_note (command.Add d) p note = absurd (cc)
command_no_note (command.Release k) p note = absurd (cc)
command_no_note (command.List r) p note = absurd (cc)
command_no_note (command.Count r) p note = absurd (cc)
command_no_note (command.Dead id (ByPort kept)) p note = absurd (cc)
command_no_note _ p note = absurd p

text_no_note : (c : NamedCommand) → HasText c → ¬ (IsTrue (is_note (command_text c)))
text_no_note (numbered c) p note = command_no_note c p note
text_no_note (deregister slot ticket) p note = absurd (cc)
text_no_note (release r slot ticket) p note = absurd (cc)

number_no_note : (n : ℕ) (rest : List ℕ) → n < 2 ^ 64
    → ¬ (IsTrue (is_note (number_text n ++ rest)))
number_no_note n rest h note =
    letter_no_note _ _ _ (number_comes n rest h) (decimal_nonempty n h) note

pub notes_are_none : NotesAreNoLines
notes_are_none (service l) p note = absurd (cc)
notes_are_none (call None c) p note = text_no_note c p.1 note
notes_are_none (call (Some n) c) p note = number_no_note n (command_text c) p.0 note
notes_are_none (reply words) p note = absurd (cc)
notes_are_none (begin None caller c) p note =
    letter_no_note _ _ _ (begin_comes c p.1) p.1.some note
notes_are_none (begin (Some n) caller c) p note = number_no_note n (begin_text caller c) p.0 note
notes_are_none (end caller words) p note = letter_no_note _ _ _ (end_comes words p) p.some note
notes_are_none (crash caller) p note = letter_no_note _ _ _ (crash_comes p) p.some note
notes_are_none (given None s) p note = absurd (cc)
notes_are_none (given (Some n) s) p note = number_no_note n (given_text s) p.0 note
