use Rattle.std.proofs.Common.{arith, sym, ◌∙◌}
use Rattle.line_streams.proofs.Phrases.{same_front, follows_word}
use Rattle.line_streams.proofs.phrase.after_word.Goals as goal

pub returns-clause-some : goal.returns-clause-some
returns-clause-some c =
    let w = c.in-Some.ensures.cases in
    let b = c.in-Some-split_first_chunk.ensures.cases in
    let number = sym c.from_le_bytes.ensures ∙ c.if-from_le_bytes.false
    ∙ c.from_le_bytes-2.ensures in
    let same =
    same_front c.args.bytes.now c.args.word.now c.in-Some-split_first_chunk.front.now
    c.in-Some.wanted.now b.0 w.0 (omega (arith, b.2))
    (omega (arith, w.2)) c.type_inv.bytes c.type_inv.word number in
    follows_word c.args.bytes.now c.args.word.now c.in-Some-split_first_chunk.rest.now
    c.in-Some.more.now c.after_bytes-2.result same b.1 w.1 c.after_bytes-2.ensures.some
