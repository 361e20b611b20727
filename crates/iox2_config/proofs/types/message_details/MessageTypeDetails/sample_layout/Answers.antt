use Rattle.std.proofs.Common.{rules}
use Rattle.iox2_config.proofs.Blocks.{holds_everywhere}
use Rattle.iox2_config.proofs.types.message_details.MessageTypeDetails.sample_layout.Goals as goal

pub returns-clause-holds : goal.returns-clause-holds
returns-clause-holds c =
    let all = holds_everywhere c.args.self.now c.args.n c.requires (search rules) in search rules
