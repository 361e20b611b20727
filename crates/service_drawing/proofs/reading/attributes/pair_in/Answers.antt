use Rattle.service_drawing.proofs.Attributes.{no_name_of, no_pair_of}
use Rattle.service_drawing.proofs.reading.attributes.pair_in.Goals as goal

pub returns-in_err-key : goal.returns-in_err-key
returns-in_err-key c =
    rw c.from_residual.ensures
    (λ pair gives. c.in_err-key.ensures.read (pair.key, pair.value) gives.0.key.word gives.1)

pub returns-in_default : goal.returns-in_default
returns-in_default c =
    let read = c.in_ok-key.ensures.read in
    no_pair_of _ _ _ read.0 read.1 (λ both. no_name_of 64 _ _ c.in_default.ensures both.0)

pub returns-in-Err : goal.returns-in-Err
returns-in-Err c =
    let read = c.in_ok-key.ensures.read in
    no_pair_of _ _ _ read.0 read.1 (λ both. no_name_of 256 _ _ c.in-Err.ensures both.1)
