-- Lines with one text are the same, but for the memory of a list.
use Rattle.std.proofs.Common.{◌≡◌, ◌≢◌, ℕ, ◌<◌, List, [], ◌++◌, Option, codes, decimal, get_or, refl, sym, ◌∙◌, ap, subst, arith}
use Rattle.std.specs.Prelude.{◌==◌, ◌^◌, if◌then◌else◌}
use Rattle.std.proofs.lemmas.Fmt.{decimal_injective}
use Rattle.std.proofs.lemmas.List.{append-nil, append_cancel_left}
use Rattle.iox2_container.specs.declared.container.handle.Role.{Role}
use Rattle.iox2_container.specs.declared.container.handle.Role.TheVariants as role
use Rattle.line_streams.proofs.Fronts.{decimal_first}
use Rattle.line_streams.specs.Numerals.{cons_same, same_number}
use Rattle.line_streams.specs.Spelling.{IsDigit}
use Rattle.service_descriptions.specs.declared.replay.machine.command.Cleanup.TheVariants.{ByPort}
use Rattle.service_descriptions.specs.declared.replay.machine.command.Command.{Command}
use Rattle.service_descriptions.specs.declared.replay.machine.command.Command.TheVariants as script
use Rattle.service_descriptions.specs.Lines.{HasLine, SameCommand, line_of, role_word}
use Rattle.service_descriptions.specs.Phrases.{role_one}
use Rattle.service_descriptions.proofs.Scripts.{one_command}
use Rattle.log_lines.specs.Commands.{Begun, HasBegun, HasText, IsHandle, NamedCommand, begun_text, command_text, handle_text, weak_text}
use Rattle.log_lines.specs.Commands.Begun.{command, weak}
use Rattle.log_lines.specs.Commands.NamedCommand.{numbered, deregister, release}
use Rattle.log_lines.specs.Laws.{IsAlike, IsSameBegun, IsSameCommand, IsSameLine, LinesAreReadOneWay, dead}
use Rattle.log_lines.specs.Laws.IsSameBegun.{other_begun, own_begun}
use Rattle.log_lines.specs.Laws.IsSameCommand.{other_kept, own_command}
use Rattle.log_lines.specs.Laws.IsSameLine.{other_begin, other_call, own_line}
use Rattle.log_lines.specs.Lines.{IsLine, Line, begin_text, line_text, name_text}
use Rattle.log_lines.specs.Lines.Line.{service, call, reply, begin, end, crash, given}
use Rattle.log_lines.proofs.OneReading.{one_way}

same_numbered : (c d : Command) → SameCommand c d → IsSameCommand (numbered c) (numbered d)
same_numbered (script.Dead a (ByPort kept)) (script.Dead b (ByPort other)) e =
    subst (λ n. IsSameCommand (numbered (dead a kept)) (numbered (dead n other))) e.0
    (other_kept a kept other e.1)
same_numbered c d e =
    subst (λ (x : Command). IsSameCommand (numbered c) (numbered x)) e (own_command (numbered c))

-- the first letters tell apart
pub letters : (xs ys : List ℕ) → xs ≡ ys
    → (get_or xs 0 0 ≡ get_or ys 0 0) × (get_or xs 2 0 ≡ get_or ys 2 0)
    × (get_or xs 4 0 ≡ get_or ys 4 0) × (get_or xs 5 0 ≡ get_or ys 5 0)
letters xs ys e = (
  ap (λ (l : List ℕ). get_or l 0 0) e,
  ap (λ (l : List ℕ). get_or l 2 0) e,
  ap (λ (l : List ℕ). get_or l 4 0) e,
  ap (λ (l : List ℕ). get_or l 5 0) e,
)

-- a number and a number
pub handle_same : (a b c d : ℕ) → IsHandle (a, b) → IsHandle (c, d)
    → handle_text (a, b) ≡ handle_text (c, d) → (a ≡ c) × (b ≡ d)
handle_same a b c d p q e =
    let first =
    same_number a c (codes " " ++ decimal b) (codes " " ++ decimal d) p.0 q.0
    (λ digit. omega arith) (λ digit. omega arith) e in
    (first.0, decimal_injective b d p.1 q.1 (cons_same first.1).1)

one_is_no_handle : (k slot ticket : ℕ) → k < 2 ^ 64 → IsHandle (slot, ticket)
    → decimal k ≢ handle_text (slot, ticket)
one_is_no_handle k slot ticket p q e =
    let same =
    same_number k slot [] (codes " " ++ decimal ticket) p q.0 (λ digit. omega arith)
    (λ digit. omega arith) (append-nil (decimal k) ∙ e) in
    let no : ◌≡◌ {A = List ℕ} [] (codes " " ++ decimal ticket) = same.1 in
    absurd (cc)

role_no_digit : (r : Role) (rest : List ℕ) → r ≢ role.Node
    → ¬ (IsDigit (get_or (role_word r ++ rest) 0 0))
role_no_digit role.Node rest p digit = p refl
role_no_digit _ rest p digit = omega arith

number_no_role : (k : ℕ) (r : Role) (rest : List ℕ) → k < 2 ^ 64 → r ≢ role.Node
    → decimal k ≢ role_word r ++ rest
number_no_role k r rest p q e =
    role_no_digit r rest q (subst (λ (l : List ℕ). IsDigit (get_or l 0 0)) e (decimal_first k p))

no_deregister : (c : Command) (slot ticket : ℕ) → HasLine c → IsHandle (slot, ticket)
    → line_of c ≢ codes "deregister " ++ handle_text (slot, ticket)
no_deregister (script.Deregister k) slot ticket p q e =
    one_is_no_handle k slot ticket p q (append_cancel_left (codes "deregister ") _ _ e)
no_deregister (script.Register id) slot ticket p q e = absurd (omega (arith, letters _ _ e))
no_deregister script.Nodes slot ticket p q e = absurd (omega (arith, letters _ _ e))
no_deregister (script.Add d) slot ticket p q e = absurd (omega (arith, letters _ _ e))
no_deregister (script.Release k) slot ticket p q e = absurd (omega (arith, letters _ _ e))
no_deregister (script.List r) slot ticket p q e = absurd (omega (arith, letters _ _ e))
no_deregister (script.Count r) slot ticket p q e = absurd (omega (arith, letters _ _ e))
no_deregister (script.Dead id (ByPort kept)) slot ticket p q e =
    absurd (omega (arith, letters _ _ e))
no_deregister _ slot ticket p q e = absurd p

no_release : (c : Command) (r : Role) (rest : List ℕ) → HasLine c → r ≢ role.Node
    → line_of c ≢ codes "release " ++ (role_word r ++ rest)
no_release (script.Release k) r rest p q e =
    number_no_role k r rest p q (append_cancel_left (codes "release ") _ _ e)
no_release (script.Register id) r rest p q e = absurd (omega (arith, letters _ _ e))
no_release script.Nodes r rest p q e = absurd (omega (arith, letters _ _ e))
no_release (script.Add d) r rest p q e = absurd (omega (arith, letters _ _ e))
no_release (script.Deregister k) r rest p q e = absurd (omega (arith, letters _ _ e))
no_release (script.List s) r rest p q e = absurd (omega (arith, letters _ _ e))
no_release (script.Count s) r rest p q e = absurd (omega (arith, letters _ _ e))
no_release (script.Dead id (ByPort kept)) r rest p q e = absurd (omega (arith, letters _ _ e))
no_release _ r rest p q e = absurd p

-- no two commands have one text
same_text : (c d : NamedCommand) → HasText c → HasText d → command_text c ≡ command_text d
    → IsSameCommand c d
same_text (numbered c) (numbered d) p q e = same_numbered c d (one_command c d p q e)
same_text (deregister a b) (deregister c d) p q e =
    let same =
    handle_same a b c d p q (append_cancel_left (codes "deregister ") _ _ e) in
    rw (same.0, same.1) (own_command (deregister c d))
same_text (release r a b) (release s c d) p q e =
    let first =
    role_one.same (r, codes " " ++ handle_text (a, b)) (s, codes " " ++ handle_text (c, d)) p.0 q.0
    (append_cancel_left (codes "release ") _ _ e) in
    let same = handle_same a b c d p.1 q.1 (cons_same first.1).1 in
    rw (first.0, same.0, same.1) (own_command (release s c d))
same_text (numbered c) (deregister a b) p q e = absurd (no_deregister c a b p q e)
same_text (deregister a b) (numbered c) p q e = absurd (no_deregister c a b q p (sym e))
same_text (numbered c) (release r a b) p q e = absurd (no_release c r _ p q.0 e)
same_text (release r a b) (numbered c) p q e = absurd (no_release c r _ q p.0 (sym e))
same_text (deregister a b) (release r c d) p q e = absurd (omega (arith, letters _ _ e))
same_text (release r c d) (deregister a b) p q e = absurd (omega (arith, letters _ _ e))

-- what a weak listing tells by its letters, and no command
abbrev tells : List ℕ → ℕ
tells text =
    if get_or text 0 0 == 110 then get_or text 5 0
    else if get_or text 0 0 == 108 then get_or text 4 0 else 0

of_weak : (r : Role) → tells (weak_text r) ≡ 63
of_weak role.Node = refl
of_weak _ = refl

of_command : (c : NamedCommand) → HasText c → tells (command_text c) < 63
of_command (numbered (script.Register id)) p = omega arith
of_command (numbered (script.Deregister k)) p = omega arith
of_command (numbered script.Nodes) p = omega arith
of_command (numbered (script.Add d)) p = omega arith
of_command (numbered (script.Release k)) p = omega arith
of_command (numbered (script.List r)) p = omega arith
of_command (numbered (script.Count r)) p = omega arith
of_command (numbered (script.Dead id (ByPort kept))) p = omega arith
of_command (deregister slot ticket) p = omega arith
of_command (release r slot ticket) p = omega arith
of_command _ p = absurd p

no_weak : (c : NamedCommand) (r : Role) → HasText c → command_text c ≢ weak_text r
no_weak c r p e = absurd (omega (arith, of_command c p, ap tells e, of_weak r))

one_weak : (r s : Role) → weak_text r ≡ weak_text s → r ≡ s
one_weak role.Node role.Node e = refl
one_weak role.Node _ e = absurd (omega (arith, letters _ _ e))
one_weak _ role.Node e = absurd (omega (arith, letters _ _ e))
one_weak r s e =
    (role_one.same (r, []) (s, []) (λ n. absurd (cc)) (λ n. absurd (cc))
    (append_cancel_left (codes "list? ") _ _ e)).0

same_begun : (b c : Begun) → HasBegun b → HasBegun c → begun_text b ≡ begun_text c
    → IsSameBegun b c
same_begun (command c) (command d) p q e = other_begun c d (same_text c d p q e)
same_begun (command c) (weak r) p q e = absurd (no_weak c r p e)
same_begun (weak r) (command c) p q e = absurd (no_weak c r q (sym e))
same_begun (weak r) (weak s) p q e = rw (one_weak r s e) (own_begun (weak s))

behind : (m n : Option ℕ) (x y : List ℕ) → m ≡ n → name_text m ++ x ≡ name_text n ++ y → x ≡ y
behind m n x y same e =
    append_cancel_left (name_text n) x y
    (subst (λ k. name_text k ++ x ≡ name_text n ++ y) same e)

alike_line : (a b : Line) → IsLine a → IsLine b → line_text a ≡ line_text b → IsAlike a b
    → IsSameLine a b
alike_line (service l) (service m) p q e same = rw same (own_line (service m))
alike_line (call m c) (call n d) p q e same =
    rw same (other_call n c d (same_text c d p.1 q.1
    (behind m n (command_text c) (command_text d) same e)))
alike_line (reply v) (reply w) p q e same = rw same (own_line (reply w))
alike_line (begin m a c) (begin n b d) p q e same =
    let text = behind m n (begin_text a c) (begin_text b d) same.0 e in
    let own : begin_text b c ≡ begin_text b d =
    subst (λ x. begin_text x c ≡ begin_text b d) same.1 text in
    rw (same.0, same.1) (other_begin n b c d (same_begun c d p.2 q.2
    (append_cancel_left (codes "> ") _ _ (append_cancel_left b _ _ own))))
alike_line (end a v) (end b w) p q e same = rw (same.0, same.1) (own_line (end b w))
alike_line (crash a) (crash b) p q e same = rw same (own_line (crash b))
alike_line (given m s) (given n t) p q e same = rw (same.0, same.1) (own_line (given n t))
alike_line _ _ p q e same = absurd same

pub same_line : LinesAreReadOneWay
same_line a b p q e = alike_line a b p q e (one_way a b p q e)
