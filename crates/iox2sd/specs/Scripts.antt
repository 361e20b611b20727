-- Whole scripts.
use Rattle.std.specs.Prelude.{◌≡◌, ℕ, Bool, true, if◌then◌else◌, List, Result, Ok, Err, length}
use Rattle.service_descriptions.specs.Script.{Scripted}
use Rattle.service_descriptions.specs.declared.replay.lines.script.ScriptError.{ScriptError}
use Rattle.service_descriptions.specs.declared.replay.lines.script.ScriptError.TheVariants as error
use Rattle.iox2sd_common.specs.Answers.{Writes}
use Rattle.iox2sd_common.specs.Status.{code}
use Rattle.iox2sd.specs.declared.script.ScriptAnswer.{ScriptAnswer}
use Rattle.iox2sd_common.specs.declared.status.Status.{Status}
use Rattle.iox2sd_common.specs.declared.status.Status.TheVariants as status

-- the status of a script that ended so, whose reply lines fit the buffer or do not: want of memory
-- is reported before too short a buffer
abbrev pub end_status : Bool → Result (Unit {0}) ScriptError → Status
end_status fits (Ok done) = if fits then status.Done else status.BufferTooShort
end_status fits (Err (error.BadLine k)) = if fits then status.BadLine else status.BufferTooShort
end_status fits (Err (error.NoMemory why)) = status.NoMemory

-- the number of the bad line, or 0
abbrev pub bad_line : Result (Unit {0}) ScriptError → ℕ
bad_line (Ok done) = 0
bad_line (Err (error.BadLine k)) = k
bad_line (Err (error.NoMemory why)) = 0

-- the reported length of reply lines of this length: none where memory was refused and they do not
-- fit
abbrev pub end_length : Bool → Result (Unit {0}) ScriptError → ℕ → ℕ
end_length fits (Ok done) n = n
end_length fits (Err (error.BadLine k)) n = n
end_length fits (Err (error.NoMemory why)) n = if fits then n else 0

-- the script may end so and give this text, which was written to the buffer where it fits
abbrev pub Answers : List ℕ → List ℕ → ScriptAnswer → List ℕ → Type 0
Answers script old answer new =
    (end : Result (Unit {0}) ScriptError) × (text : List ℕ) × Scripted script end text
    × (fits : Bool) × Writes text old fits new
    × (answer ≡ record {
      status = code (end_status fits end);
      verdict = code (end_status true end);
      line = bad_line end;
      length = end_length fits end (length text);
    })
