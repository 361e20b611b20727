-- In which order calls took effect.
use Rattle.std.specs.Prelude.{◌≡◌, ℕ, List, [], ◌++◌, Option}
use Rattle.std.specs.Io.KnownBytes.{Appends}
use Rattle.std.specs.List.{AllZip, flat_map}
use Rattle.histories.specs.Windows.{IsOrder}
use Rattle.history_logs.specs.declared.logs.streams.Report.{Report}
use Rattle.history_logs.specs.declared.logs.streams.Report.TheVariants as report
use Rattle.history_logs.specs.declared.logs.verdict.Order.{Order}
use Rattle.history_logs.specs.declared.logs.verdict.Verdict.{Verdict}
use Rattle.history_logs.specs.declared.logs.verdict.Verdict.TheVariants as verdict
use Rattle.history_logs.specs.Logs.{BeginsIn, HasGood, Judged, StepOf, news}
use Rattle.history_logs.specs.Reading.{Log}
use Rattle.history_logs.specs.Reports.{on_errors, on_output, order_text, report_text, status_of}
use Rattle.history_logs.specs.Seen.{Service}

-- An order of the calls on the service explains all that was seen of it. This is reported of it:
-- the number of the service, and the lines in which the calls begin, in that order.
pub record IsOrderOf (s : Service) (reported : Order) : Type 0 where
  pub number : reported.service ≡ s.line.number
  pub order : List ℕ
  pub explains : IsOrder (StepOf s) s.events (news s) order
  pub begins : AllZip (BeginsIn s) order reported.lines.items

-- where the log conforms, there is an order for each service, by their lines, and else none
abbrev pub HasOrders : List ℕ → Verdict → List Order → Type 0
HasOrders bytes (verdict.Conforms n m) orders =
    (count : ℕ) × (log : Log) × HasGood bytes count log [] × AllZip IsOrderOf log.services orders
HasOrders bytes _ orders = orders ≡ []

-- the text is the report on the verdict, and below it that of the orders
abbrev pub IsWitness : List ℕ → Verdict → List ℕ → Type 0
IsWitness bytes v text =
    (orders : List Order) × HasOrders bytes v orders
    × (text ≡ report_text v ++ flat_map order_text orders)

-- the text is what is to be reported
abbrev pub IsTextOf : Report → List ℕ → Verdict → List ℕ → Type 0
IsTextOf report.Verdict log v text = text ≡ report_text v
IsTextOf report.Witness log v text = IsWitness log v text

-- The log was judged in one way: that is the status, and the writers got what is to be reported.
pub record Reported (wanted : Report) (log : List ℕ) (status : ℕ)
    (out_old out_new err_old err_new : Option (List ℕ)) : Type 0 where
  pub end : Verdict
  pub judged : Judged log end
  pub reported : status ≡ status_of end
  pub text : List ℕ
  pub is : IsTextOf wanted log end text
  pub output : Appends out_old out_new (on_output end text)
  pub errors : Appends err_old err_new (on_errors end text)
