use Rattle.history_logs.proofs.Words.{◌∙◌}
use Rattle.history_logs.proofs.Named.{count_numbers}
use Rattle.history_logs.proofs.logs.reading.Reading.count_services.Goals as goal

pub returns : goal.returns
returns c =
    let r = c.args.self.now in
    c.len.ensures.len
    ∙ count_numbers r.numbers r.services.items c.len.ensures.ordered c.requires
