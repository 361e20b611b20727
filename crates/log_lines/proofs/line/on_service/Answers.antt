use Rattle.log_lines.specs.Lines.{HasNone}
use Rattle.log_lines.proofs.Found.{none_so}
use Rattle.log_lines.proofs.Parts.{begun_none, command_none, state_none}
use Rattle.log_lines.proofs.line.on_service.Goals as goal

pub returns-in-Some-clause-none : goal.returns-in-Some-clause-none
returns-in-Some-clause-none c =
    none_so _ (HasNone c.args.text.now) c.begin_of.result c.begin_of.ensures.none
    (begun_none c.args.text.now c.args.name.now c.args.rest.now c.requires.split
    c.in-Some.begun.now c.in-Some.ensures.some)

pub returns-in-Some-after_word-clause-none : goal.returns-in-Some-after_word-clause-none
returns-in-Some-after_word-clause-none c =
    none_so _ (HasNone c.args.text.now) c.state_of.result c.state_of.ensures.none
    (state_none c.args.text.now c.in-Some-after_word.given.now c.in-Some-after_word.ensures.some)

pub returns-in-None-clause-none : goal.returns-in-None-clause-none
returns-in-None-clause-none c =
    command_none c.args.text.now c.args.name.now c.args.rest.now c.requires.split
    c.in_default.ensures.none c.in_default-after_word.ensures.none
    (rw c.in-None.is at c.in_ok-command.ensures)
