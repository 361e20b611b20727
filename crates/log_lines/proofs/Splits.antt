-- Each line begins with letters and digits, and what follows them says which line it is.
use Rattle.std.proofs.Common.{◌≡◌, ◌≢◌, ◌⊎◌, ℕ, ◌<◌, ◌≤◌, ◌^◌, Bool, true, false, List, [], ◌∷◌, ◌++◌, Option, Some, None, codes, get_or, decimal, refl, sym, ◌∙◌, ap, arith, append_assoc, inl, inr}
use Rattle.std.specs.Prelude.{◌==◌, IsTrue, if◌then◌else◌}
use Rattle.std.specs.Char.{is_ascii_alphanumeric}
use Rattle.std.proofs.lemmas.Bool.{ne_eqb}
use Rattle.service_descriptions.specs.declared.replay.machine.command.Cleanup.TheVariants.{ByPort}
use Rattle.service_descriptions.specs.declared.replay.machine.command.Command.{Command}
use Rattle.service_descriptions.specs.declared.replay.machine.command.Command.TheVariants as command
use Rattle.service_descriptions.specs.Lines.{HasLine, line_of}
use Rattle.log_lines.specs.Commands.{Begun, HasText, NamedCommand, begun_text, command_text}
use Rattle.log_lines.specs.Commands.NamedCommand.{numbered, deregister, release}
use Rattle.log_lines.specs.Lines.{Comes, IsCaller, IsLine, IsNameByte, Line, are_letters, begin_text, given_text, line_text, mark, number_text}
use Rattle.log_lines.specs.States.{State, state_text}
use Rattle.log_lines.specs.Lines.Line.{service, call, reply, begin, end, crash, given}
use Rattle.log_lines.proofs.Names.{name_same, number_letters}

-- texts that are the same come apart in one way
pub comes_same : {text other a x b y : List ℕ} → Comes text a x → Comes other b y → text ≡ other
    → (a ≡ b) × (x ≡ y)
comes_same {text} {other} {a} {x} {b} {y} p q e =
    name_same a b x y p.letters q.letters p.ends q.ends (sym p.whole ∙ (e ∙ q.whole))

-- which line the letters and digits at its front and what follows them tell: a service (0), a call
-- without a number (1) or with one (2), alone or begun, the begin of a call without a number (3), a
-- reply (4), what is given of a service without a number (5) or with one (2), the end of a call
-- (6), or that the caller died (7)
abbrev pub class_at : (after first second : ℕ) → ℕ
class_at after first second =
    if after == 62 then 3 else if after == 60 then 6 else if after == 33 then 7
    else if after == 61 then 4 else if after == 58 then 2
    else if first == 115 then (if second == 116 then 5 else 0) else 1

abbrev pub class : List ℕ → List ℕ → ℕ
class front back = class_at (mark back) (mark front) (get_or front 1 0)

-- what follows the name of a caller whose call ends or who died, or a number, and what does not
pub class_end : (after first second : ℕ) → (after ≡ 60) ⊎ (after ≡ 33)
    → 6 ≤ class_at after first second
class_end after first second (inl e) = rw e (omega arith)
class_end after first second (inr e) = rw e (omega arith)

pub class_number : (after first second : ℕ) → after ≡ 58 → class_at after first second ≡ 2
class_number after first second e = rw e refl

abbrev pick : Bool → Bool → Bool → Bool → ℕ
pick p q r s = if p then 3 else if q then 4 else if r then (if s then 5 else 0) else 1

pick_plain : (p q r s : Bool) → (pick p q r s ≤ 5) × (pick p q r s ≢ 2)
pick_plain true q r s = (omega arith, λ e. absurd (omega arith))
pick_plain false true r s = (omega arith, λ e. absurd (omega arith))
pick_plain false false true true = (omega arith, λ e. absurd (omega arith))
pick_plain false false true false = (omega arith, λ e. absurd (omega arith))
pick_plain false false false s = (omega arith, λ e. absurd (omega arith))

pub class_plain : (after first second : ℕ) → after ≢ 60 → after ≢ 33 → after ≢ 58
    → (class_at after first second ≤ 5) × (class_at after first second ≢ 2)
class_plain after first second a b c =
    rw (ne_eqb after 60 a, ne_eqb after 33 b, ne_eqb after 58 c)
    (pick_plain (after == 62) (after == 61) (first == 115) (second == 116))

-- the text begins so, and this is its kind
pub record HasKind (text : List ℕ) (kind : ℕ) : Type 0 where
  pub front : List ℕ
  pub back : List ℕ
  pub comes : Comes text front back
  pub is : class front back ≡ kind

-- a text has the kind of its front
pub is_of : {text front back : List ℕ} → Comes text front back → HasKind text (class front back)
is_of {text} {front} {back} comes =
    record { front = front; back = back; comes = comes; is = refl }

-- one that begins with a word of letters
starts : (front back : List ℕ) → IsTrue (are_letters front)
    → is_ascii_alphanumeric (mark back) ≡ false → HasKind (front ++ back) (class front back)
starts front back letters other =
    let ends : ¬ (IsNameByte (mark back)) =
    λ e. absurd (let z : true ≡ false = sym e ∙ other in cc) in
    let comes : Comes (front ++ back) front back =
    record { whole = refl; letters = letters; ends = ends } in
    is_of comes

pub one_kind : {text other : List ℕ} (k m : ℕ) → HasKind text k → HasKind other m → text ≡ other
    → k ≡ m
one_kind k m p q e =
    let same = comes_same p.comes q.comes e in
    sym p.is ∙ (ap (λ (f : List ℕ). class f p.back) same.0 ∙ ap (class q.front) same.1) ∙ q.is

of_command : (c : Command) → HasLine c → HasKind (line_of c) 1
of_command (command.Register id) p = starts (codes "register") _ refl refl
of_command (command.Deregister k) p = starts (codes "deregister") _ refl refl
of_command command.Nodes p = starts (codes "nodes") [] refl refl
of_command (command.Add d) p = starts (codes "add") _ refl refl
of_command (command.Release k) p = starts (codes "release") _ refl refl
of_command (command.List r) p = starts (codes "list") _ refl refl
of_command (command.Count r) p = starts (codes "count") _ refl refl
of_command (command.Dead id (ByPort kept)) p = starts (codes "dead") _ refl refl
of_command _ p = absurd p

-- a command has the kind of one
pub of_text : (c : NamedCommand) → HasText c → HasKind (command_text c) 1
of_text (numbered c) p = of_command c p
of_text (deregister slot ticket) p = starts (codes "deregister") _ refl refl
of_text (release r slot ticket) p = starts (codes "release") _ refl refl

-- a number, a colon and a space
pub number_comes : (n : ℕ) (rest : List ℕ) → n < 2 ^ 64
    → Comes (number_text n ++ rest) (decimal n) (58 ∷ 32 ∷ rest)
number_comes n rest h = record {
  whole = append_assoc (decimal n) (codes ": ") rest;
  letters = number_letters n h;
  ends = λ e. absurd (cc);
}

-- the name of a caller, and what follows it
pub begin_comes : {caller : List ℕ} (c : Begun) → IsCaller caller
    → Comes (begin_text caller c) caller (codes "> " ++ begun_text c)
begin_comes c p = record { whole = refl; letters = p.letters; ends = λ e. absurd (cc) }

pub end_comes : {caller : List ℕ} (words : List ℕ) → IsCaller caller
    → Comes (caller ++ (codes "< " ++ words)) caller (codes "< " ++ words)
end_comes words p = record { whole = refl; letters = p.letters; ends = λ e. absurd (cc) }

pub crash_comes : {caller : List ℕ} → IsCaller caller
    → Comes (caller ++ codes "!") caller (codes "!")
crash_comes p = record { whole = refl; letters = p.letters; ends = λ e. absurd (cc) }

-- what is given has the kind of it
pub of_given : (rest : List ℕ) → HasKind (codes "state " ++ rest) 5
of_given rest = starts (codes "state") (codes " " ++ rest) refl refl

-- which line it is
abbrev pub kind : Line → ℕ
kind (service l) = 0
kind (call None c) = 1
kind (call (Some n) c) = 2
kind (reply words) = 4
kind (begin None caller c) = 3
kind (begin (Some n) caller c) = 2
kind (end caller words) = 6
kind (crash caller) = 7
kind (given None s) = 5
kind (given (Some n) s) = 2

pub of_line : (l : Line) → IsLine l → HasKind (line_text l) (kind l)
of_line (service l) p = starts (codes "service") _ refl refl
of_line (call None c) p = of_text c p.1
of_line (call (Some n) c) p = is_of (number_comes n (command_text c) p.0)
of_line (reply words) p = starts [] (codes "= " ++ words) refl refl
of_line (begin None caller c) p = is_of (begin_comes c p.1)
of_line (begin (Some n) caller c) p = is_of (number_comes n (begin_text caller c) p.0)
of_line (end caller words) p = is_of (end_comes words p)
of_line (crash caller) p = is_of (crash_comes p)
of_line (given None s) p = of_given (state_text s)
of_line (given (Some n) s) p = is_of (number_comes n (given_text s) p.0)

pub kind_given : (n : Option ℕ) (s : State) → (2 ≤ kind (given n s)) × (kind (given n s) ≤ 5)
kind_given None s = (omega arith, omega arith)
kind_given (Some n) s = (omega arith, omega arith)

pub kind_call : (n : Option ℕ) (c : NamedCommand) → (1 ≤ kind (call n c)) × (kind (call n c) ≤ 2)
kind_call None c = (omega arith, omega arith)
kind_call (Some n) c = (omega arith, omega arith)

pub kind_begin : (n : Option ℕ) (caller : List ℕ) (c : Begun)
    → (2 ≤ kind (begin n caller c)) × (kind (begin n caller c) ≤ 3)
kind_begin None caller c = (omega arith, omega arith)
kind_begin (Some n) caller c = (omega arith, omega arith)

-- a line has its kind
pub line_kind : {text front back : List ℕ} → Comes text front back → (l : Line) → IsLine l
    → text ≡ line_text l → kind l ≡ class front back
line_kind c l p e = one_kind _ _ (of_line l p) (is_of c) (sym e)
