use Rattle.iox2sd_values.proofs.Prelude.{ap, get_or, sym, ◌&&◌, ◌∙◌}
use Rattle.std.proofs.lemmas.List.Folds.{list_all_more}
use Rattle.iox2sd_values.proofs.Legal.{is_legal, reports_text}
use Rattle.iox2sd_values.proofs.texts.is_text.Goals as goal

pub loop-byte-preserved : goal.loop-byte-preserved
loop-byte-preserved c =
    let bytes = c.args.bytes.now in let i = c.loop-byte.byte-index in
    ap (λ b. b && is_legal (get_or bytes i 0)) c.loop-byte.invariant
    ∙ sym (list_all_more is_legal bytes i 0 c.loop-byte-test.true)

pub returns : goal.returns
returns c =
    reports_text c.loop-byte.legal c.args.bytes.now c.loop-byte.byte-index c.loop-byte-test.false
    c.loop-byte.invariant
