use Rattle.service_conformance.proofs.Names.{sym, ◌∙◌, apart, has_no_space, hexadecimal}
use Rattle.service_conformance.proofs.conformance.id_word.PrintedIdPhrase.read.Goals as goal

pub returns-in_default-clause-read : goal.returns-in_default-clause-read
returns-in_default-clause-read c a fits e =
    let both =
    apart _ (hexadecimal a.0) _ a.1 c.front_word.ensures.word (has_no_space a.0 fits.0)
    c.front_word.ensures.rest fits.1 (sym c.front_word.ensures.whole ∙ e) in
    c.in_default.ensures a.0 fits.0 (sym both.0)
