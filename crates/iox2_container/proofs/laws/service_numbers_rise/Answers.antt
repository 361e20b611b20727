-- Each number is above the last one before it.
use Rattle.iox2_container.proofs.Histories.{numbers_rise}
use Rattle.iox2_container.proofs.laws.service_numbers_rise.Goals as goal

pub returns : goal.returns
returns c = numbers_rise
