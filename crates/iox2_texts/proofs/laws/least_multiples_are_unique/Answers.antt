use Rattle.iox2_texts.proofs.Multiple.{least_multiple-is, same_from_least}
use Rattle.iox2_texts.proofs.laws.least_multiples_are_unique.Goals as goal

pub returns : goal.returns
returns c = record { is_least = least_multiple-is; only = same_from_least }
