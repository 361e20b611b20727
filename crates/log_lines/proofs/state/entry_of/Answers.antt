use Rattle.std.proofs.Common.{[], ℕ, List, ◌++◌, ◌∙◌, codes, ap, arith, refl, sym}
use Rattle.std.proofs.lemmas.List.{append-nil, append_cancel_left}
use Rattle.std.proofs.lemmas.Option.{IfSome_then}
use Rattle.service_descriptions.specs.Lines.{command_of, line_of}
use Rattle.log_lines.specs.States.{state_seen}
use Rattle.log_lines.proofs.States.{entry_read, no_added, no_entry, none_by}
use Rattle.log_lines.proofs.state.entry_of.Goals as goal

pub returns-in_default-clause-none : goal.returns-in_default-clause-none
returns-in_default-clause-none c slot ticket d h e =
    c.in_default.ensures.read ((slot, ticket), codes " " ++ line_of d) (
      (omega (arith, h.0.0), h.0.0, λ digit. omega arith),
      (omega (arith, h.0.1), h.0.1, λ digit. omega arith),
    ) e

pub returns-in_default-after_word-clause-none : goal.returns-in_default-after_word-clause-none
returns-in_default-after_word-clause-none c =
    let read = c.in-Some.ensures.read in
    no_entry c.args.text.now c.in-Some.rest.now c.in-Some.slot c.in-Some.ticket read.0.0.1
    read.0.1.1 read.0.1.2 read.1 (λ d h adds e. c.in_default-after_word.ensures.none (line_of d) e)

pub returns-in_default-2-clause-none : goal.returns-in_default-2-clause-none
returns-in_default-2-clause-none c =
    let read = c.in-Some.ensures.read in
    let word = c.in-Some-after_word in
    no_entry c.args.text.now c.in-Some.rest.now c.in-Some.slot c.in-Some.ticket read.0.0.1
    read.0.1.1 read.0.1.2 read.1
    (λ d h adds e.
    (rw c.in_default-2.is at c.in_ok-command.ensures) (d, []) (h, refl)
    (append_cancel_left (codes " ") word.rest.now (line_of d) (sym word.ensures.some ∙ e)
    ∙ sym (append-nil (line_of d))))

pub returns-clause-some : goal.returns-clause-some
returns-clause-some c =
    let read = c.in-Some.ensures.read in
    let word = c.in-Some-after_word in
    let found = c.in-Some-2 in
    let line = rw found.is at c.in_ok-command.ensures in
    IfSome_then c.added.result c.added.ensures.some
    (λ g made. entry_read c.args.text.now c.in-Some.rest.now word.rest.now found.field-0-1.now
    c.in-Some.slot c.in-Some.ticket (command_of found.command) (state_seen g) read.0.0.1
    read.0.1.1 read.1 word.ensures.some line.1 line.0.1 line.0.0 made)

pub returns-clause-none : goal.returns-clause-none
returns-clause-none c =
    let read = c.in-Some.ensures.read in
    let word = c.in-Some-after_word in
    let found = c.in-Some-2 in
    let line = rw found.is at c.in_ok-command.ensures in
    let is =
    line.1 ∙ (ap (λ (l : List ℕ). line_of (command_of found.command) ++ l) line.0.1
    ∙ append-nil (line_of (command_of found.command))) in
    none_by _ _ c.added.result c.added.ensures.none
    (λ adds. no_entry c.args.text.now c.in-Some.rest.now c.in-Some.slot c.in-Some.ticket
    read.0.0.1 read.0.1.1 read.0.1.2 read.1
    (λ d h a e. no_added word.rest.now (command_of found.command) line.0.0 is adds d h a
    (append_cancel_left (codes " ") word.rest.now (line_of d) (sym word.ensures.some ∙ e))))
