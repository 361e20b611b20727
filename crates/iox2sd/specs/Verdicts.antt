-- What a check of a log answers.
use Rattle.std.specs.Prelude.{◌≡◌, ℕ, Bool, if◌then◌else◌, List, length, ◌⊎◌}
use Rattle.history_logs.specs.Logs.{Judged}
use Rattle.history_logs.specs.Reports.{report_text}
use Rattle.history_logs.specs.declared.logs.verdict.Expected.{Expected}
use Rattle.history_logs.specs.declared.logs.verdict.Expected.TheVariants as expected
use Rattle.history_logs.specs.declared.logs.verdict.Verdict.{Verdict}
use Rattle.history_logs.specs.declared.logs.verdict.Verdict.TheVariants as verdict
use Rattle.iox2sd_common.specs.Answers.{Writes}
use Rattle.iox2sd_common.specs.Status.{code}
use Rattle.iox2sd_common.specs.declared.status.Status.{Status}
use Rattle.iox2sd_common.specs.declared.status.Status.TheVariants as status
use Rattle.iox2sd.specs.declared.conform.ConformAnswer.{ConformAnswer}

-- the status of a line that is not what is expected
abbrev pub expected_status : Expected → Status
expected_status expected.Service = status.NoServiceLine
expected_status expected.Call = status.NoCallLine
expected_status expected.NewNumber = status.NoCallLine
expected_status expected.CallAlone = status.NoCallLine
expected_status (expected.Form f) = status.NoCallLine
expected_status expected.Reply = status.NoReplyLine
expected_status expected.IdleCaller = status.CallerIsBusy
expected_status expected.OpenCall = status.NoOpenCall
expected_status expected.LiveCaller = status.CallerIsDead
expected_status expected.KnownCaller = status.UnknownCaller
expected_status expected.Newline = status.NoNewline
expected_status expected.NoCarriageReturn = status.CarriageReturn
expected_status expected.State = status.NoStateLine

-- the status of a verdict
abbrev pub verdict_status : Verdict → Status
verdict_status (verdict.Conforms n m) = status.Done
verdict_status (verdict.Refused reported) = status.NoOrder
verdict_status (verdict.ManyConfigs k) = status.TooManyConfigurations
verdict_status (verdict.ManyOpen k) = status.TooManyOpenCalls
verdict_status (verdict.BadLine k e) = expected_status e

-- the number of the reported line, or 0
abbrev pub reported_line : Verdict → ℕ
reported_line (verdict.Conforms n m) = 0
reported_line (verdict.Refused reported) = reported.line
reported_line (verdict.ManyConfigs k) = k
reported_line (verdict.ManyOpen k) = k
reported_line (verdict.BadLine k e) = k

-- how many calls conform, or 0 where the log does not
abbrev pub conforming_calls : Verdict → ℕ
conforming_calls (verdict.Conforms n m) = n
conforming_calls (verdict.Refused reported) = 0
conforming_calls (verdict.ManyConfigs k) = 0
conforming_calls (verdict.ManyOpen k) = 0
conforming_calls (verdict.BadLine k e) = 0

-- the answer of a verdict whose report fits the buffer or does not
abbrev pub verdict_answer : Bool → Verdict → ConformAnswer
verdict_answer fits end =
    record {
      status = code (if fits then verdict_status end else status.BufferTooShort);
      verdict = code (verdict_status end);
      line = reported_line end;
      calls = conforming_calls end;
      length = length (report_text end);
    }

-- the answer where memory was refused
abbrev pub memory_answer : ConformAnswer
memory_answer = record {
  status = code status.NoMemory;
  verdict = code status.NoMemory;
  line = 0;
  calls = 0;
  length = 0;
}

-- The log may be judged so, and the report was written to the buffer where it fits; or memory was
-- refused, and the buffer is as it was.
abbrev pub Answers : List ℕ → List ℕ → ConformAnswer → List ℕ → Type 0
Answers log old answer new =
    ((end : Verdict) × Judged log end
    × (fits : Bool) × Writes (report_text end) old fits new
    × (answer ≡ verdict_answer fits end))
    ⊎ ((answer ≡ memory_answer) × (new ≡ old))
