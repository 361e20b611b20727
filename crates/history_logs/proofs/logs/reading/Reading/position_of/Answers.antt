use Rattle.history_logs.proofs.Words.{◌∙◌}
use Rattle.history_logs.proofs.Named.{last_found}
use Rattle.history_logs.proofs.logs.reading.Reading.position_of.Goals as goal

pub returns-whole : goal.returns-whole
returns-whole c =
    last_found c.args.number c.args.self.now.services.items c.copied.result
    (c.copied.ensures ∙ (c.get.ensures.value ∙ c.requires c.args.number))
