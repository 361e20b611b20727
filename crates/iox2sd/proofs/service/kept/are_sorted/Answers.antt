use Rattle.iox2sd.proofs.Names.{answers_always, is_at_most, rules}
use Rattle.iox2sd.proofs.Keeping.{sorted_from_adjacent}
use Rattle.iox2sd.proofs.service.kept.are_sorted.Goals as goal

pub returns : goal.returns
returns c =
    sorted_from_adjacent c.args.ports.now c.is_sorted_by.result
    (c.is_sorted_by.ensures.cases is_at_most
    (answers_always _ _ _ (λ f a r g called. search rules)))
