-- What the arguments request.
use Rattle.std.specs.Prelude.{◌≡◌, ◌≢◌, ◌⊎◌, ℕ, List, [], ◌∷◌, codes, map, drop, Option, Result, Ok, Err, String, string_bytes}
use Rattle.std.specs.IoError.{error_kind}
use Rattle.std.specs.Vec.Iter.{into_iter_items}
use Rattle.std.specs.declared.alloc.Global.{Global}
use Rattle.std.specs.declared.vec.IntoIter.{IntoIter}
use Rattle.std.specs.declared.io.Error.{Error}
use Rattle.std.specs.declared.io.ErrorKind.TheVariants.{OutOfMemory}
use Rattle.history_logs.specs.declared.logs.streams.Report.TheVariants as report
use Rattle.iox2_conform.specs.declared.request.Request.{Request}
use Rattle.iox2_conform.specs.declared.request.Request.TheVariants.{Check, CheckWithProgress, Help, Picture, Version}
use Rattle.iox2_conform.specs.declared.request.RequestError.{RequestError}
use Rattle.iox2_conform.specs.declared.request.RequestError.TheVariants.{BadArgument, NoMemory}

-- the arguments
abbrev pub words_of : IntoIter (String Global) Global → List (List ℕ)
words_of words = map string_bytes (into_iter_items words)

-- a witness and progress, in one order or in the other
abbrev pub IsBoth : List (List ℕ) → Type 0
IsBoth words =
    (words ≡ codes "--witness" ∷ codes "--progress" ∷ [])
    ⊎ (words ≡ codes "--progress" ∷ codes "--witness" ∷ [])

-- what the words after the program's name request
abbrev pub RequestsIn : List (List ℕ) → Result Request RequestError → Type 0
RequestsIn words (Ok (Check report.Verdict)) = words ≡ []
RequestsIn words (Ok (Check report.Witness)) = words ≡ codes "--witness" ∷ []
RequestsIn words (Ok (CheckWithProgress report.Verdict)) = words ≡ codes "--progress" ∷ []
RequestsIn words (Ok (CheckWithProgress report.Witness)) = IsBoth words
RequestsIn words (Ok Picture) = words ≡ codes "svg" ∷ []
RequestsIn words (Ok Help) = (words ≡ codes "-h" ∷ []) ⊎ (words ≡ codes "--help" ∷ [])
RequestsIn words (Ok Version) = words ≡ codes "--version" ∷ []
RequestsIn words (Err BadArgument) =
    (words ≢ []) × (words ≢ codes "--progress" ∷ []) × (words ≢ codes "--witness" ∷ [])
    × ¬ (IsBoth words) × (words ≢ codes "svg" ∷ [])
    × (words ≢ codes "-h" ∷ []) × (words ≢ codes "--help" ∷ [])
    × (words ≢ codes "--version" ∷ [])
RequestsIn words (Err NoMemory) = ⊥

-- what the arguments request: where they could not be had, there is no memory or they are bad
abbrev pub Requests : Result (IntoIter (String Global) Global) Error → Result Request RequestError
    → Type 0
Requests (Ok words) request = RequestsIn (drop 1 (words_of words)) request
Requests (Err why) (Err NoMemory) = error_kind why ≡ OutOfMemory
Requests (Err why) (Err BadArgument) = error_kind why ≢ OutOfMemory
Requests (Err why) (Ok request) = ⊥
