-- What the library is, and what its statuses say.
use Rattle.std.specs.Prelude.{ℕ, Option, List}
use Rattle.std.specs.Option.{ok_or, option_map}
use Rattle.iox2sd.specs.Prelude.{ReadsStatus, status_text, Status}
use Rattle.iox2sd_common.specs.Answers.{ReportsText}
use Rattle.iox2sd_common.specs.declared.answers.TextAnswer.{TextAnswer}
use Rattle.iox2sd_common.specs.declared.status.Status.TheVariants as status

-- the number of the structs and exports of today
abbrev pub the_abi : ℕ
the_abi = 2

-- what the status of this number says was written, where there is one
abbrev pub ReportsStatus : ℕ → List ℕ → TextAnswer → List ℕ → Type 0
ReportsStatus number old answer new =
    (read : Option Status) × ReadsStatus number read
    × ReportsText (ok_or (option_map status_text read) status.UnknownStatus) old answer new
