use Rattle.service_conformance.proofs.Names.{◌∙◌, [], sym, append-nil}
use Rattle.service_conformance.proofs.conformance.seen_reply.is_word.Goals as goal

pub returns-in-None-clause-no : goal.returns-in-None-clause-no
returns-in-None-clause-no c e =
    absurd (c.in-None.ensures.none [] (sym e ∙ sym (append-nil c.args.word.now)))
