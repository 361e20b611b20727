use Rattle.std.proofs.lemmas.Bool.{lt-ltb}
use Rattle.config_report.proofs.Prelude.{◌≡◌, ℕ, List, codes, length, nat_lt, true, refl, sym, Err, directory_text}
use Rattle.iox2_texts.specs.Path.{MakesJoined, join}
use Rattle.iox2_texts.specs.declared.bounded.SemanticStringError.{SemanticStringError}
use Rattle.iox2_texts.specs.declared.bounded.SemanticStringError.TheVariants.{InvalidContent, ExceedsMaximumLength}
use Rattle.config_report.proofs.text.directory_text.Goals as goal

too_long : (root entry : List ℕ) (why : SemanticStringError) → MakesJoined root entry (Err why)
    → directory_text root entry ≡ codes "none: its path would have more than 255 bytes"
too_long root entry ExceedsMaximumLength h =
    let past : nat_lt 255 (length (join root entry)) ≡ true = lt-ltb 255 _ h in
    rw past refl
too_long root entry InvalidContent h = absurd h

pub returns-in-Err : goal.returns-in-Err
returns-in-Err c root entry h =
    sym (too_long root entry c.in-Err.field-0 (rw c.in-Err.is at h))
