use Rattle.service_conformance.specs.Calls.{ServesRequest}
use Rattle.service_conformance.proofs.Words.{given_words, one_words}
use Rattle.service_conformance.proofs.conformance.service_check.ServiceCheck.possible_replies.Goals as goal

pub returns-in_ok-next_in-in-Given-clause-replies
    : goal.returns-in_ok-next_in-in-Given-clause-replies
returns-in_ok-next_in-in-Given-clause-replies c =
    given_words c.args.self.now (ServesRequest c.args.request.now c.args.self.now) c.in-Given.part
    c.in_ok-next_in-in-Given.field-0 c.in_ok-one.ensures.kept
    (rw c.in-Given.is at c.in_ok-one.ensures.possible)
    c.in_ok-next_in-in-Given.ensures

pub returns-in-One-clause-replies : goal.returns-in-One-clause-replies
returns-in-One-clause-replies c =
    rw (c.reply.ensures)
    (one_words c.args.self.now (ServesRequest c.args.request.now c.args.self.now) c.in-One.one
    (rw c.in-One.is at c.in_ok-one.ensures.possible))
