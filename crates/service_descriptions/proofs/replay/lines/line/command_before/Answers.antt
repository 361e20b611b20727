use Rattle.line_streams.proofs.Phrases.{Nowhere}
use Rattle.service_descriptions.proofs.Lines.{Kind, line, no_command}
use Rattle.service_descriptions.proofs.Lines.Kind.{RegisterLine, DeregisterLine, NodesLine, AddLine, ReleaseLine, ListLine, CountLine, DeadLine}
use Rattle.service_descriptions.proofs.replay.lines.line.command_before.Goals as goal

pub returns-in_default-after_word-2 : goal.returns-in_default-after_word-2
returns-in_default-after_word-2 c = no_command c.args.end c.args.bytes.now nowhere
  where
    nowhere : (k : Kind) → Nowhere (line c.args.end k) c.args.bytes.now
    nowhere RegisterLine = c.in_default.ensures.read
    nowhere DeregisterLine = c.in_default-read.ensures.read
    nowhere AddLine = c.in_default-read-2.ensures.read
    nowhere ReleaseLine = c.in_default-read-3.ensures.read
    nowhere ListLine = c.in_default-read-4.ensures.read
    nowhere CountLine = c.in_default-read-5.ensures.read
    nowhere NodesLine = λ a fits e. c.in_default-after_word.ensures.none _ e
    nowhere DeadLine = λ a fits e. c.in_default-after_word-2.ensures.none _ e
