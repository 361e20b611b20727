use Rattle.line_streams.proofs.Phrases.{reads_after}
use Rattle.line_streams.proofs.phrase.AfterPhrase.read.Goals as goal

pub returns-clause-read : goal.returns-clause-read
returns-clause-read g c =
    reads_after c.args.self.now.0.now (g.P.Phrase.spelling c.args.self.now.1)
    c.in_ok-after_word.field-0.now c.args.bytes.now _ c.in_ok-after_word.ensures.some
    c.read.ensures.read
