use Rattle.std.proofs.Common.{sym, subst, Ok}
use Rattle.service_descriptions.proofs.Names.{Verifies, ServesVerify}
use Rattle.service_descriptions.specs.declared.replay.machine.reply.Reply.TheVariants.{Verified}
use Rattle.service_descriptions.proofs.replay.machine.description.verify.Goals as goal

pub returns-in-Ok : goal.returns-in-Ok
returns-in-Ok c =
    subst (λ about. ServesVerify c.args.required.now about Verified) (sym c.in-Some.is)
    (subst (λ pairs. Verifies c.args.required.now pairs (Ok tt)) c.attributes.ensures
    c.in-Ok.ensures)
