use Rattle.histories.proofs.Leaving.{explains_rest, refused_rest}
use Rattle.histories.proofs.laws.rests_decide.Goals as goal

pub returns-clause-orders : goal.returns-clause-orders
returns-clause-orders g c = explains_rest _

pub returns-clause-refused : goal.returns-clause-refused
returns-clause-refused g c = refused_rest _
