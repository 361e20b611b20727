-- What is written of a verdict.
use Rattle.std.specs.Prelude.{◌==◌, ℕ, ◌+◌, ◌-◌, nat_lt, if◌then◌else◌, List, [], ◌∷◌, ◌++◌, codes}
use Rattle.std.specs.Fmt.{decimal}
use Rattle.std.specs.List.{flat_map}
use Rattle.iox2_dynamic.specs.declared.dynamic_config.port_details.PortDetails.{PortDetails}
use Rattle.service_descriptions.specs.Replies.{id_word, port_word, text_of}
use Rattle.log_lines.specs.declared.form.LogForm.{LogForm}
use Rattle.log_lines.specs.declared.form.LogForm.TheVariants as form
use Rattle.history_logs.specs.declared.logs.verdict.Expected.{Expected}
use Rattle.history_logs.specs.declared.logs.verdict.Expected.TheVariants as expected
use Rattle.history_logs.specs.declared.logs.verdict.Configuration.{Configuration}
use Rattle.history_logs.specs.declared.logs.verdict.Order.{Order}
use Rattle.history_logs.specs.declared.logs.verdict.Refusal.{Refusal}
use Rattle.history_logs.specs.declared.logs.verdict.Verdict.{Verdict}
use Rattle.history_logs.specs.declared.logs.verdict.Verdict.TheVariants as verdict
use Rattle.service_conformance.specs.declared.conformance.possible.NextHandle.{NextHandle}
use Rattle.service_conformance.specs.declared.conformance.possible.PossibleList.{PossibleList}
use Rattle.service_conformance.specs.declared.conformance.possible.PossibleReplies.{PossibleReplies}
use Rattle.service_conformance.specs.declared.conformance.possible.PossibleReplies.TheVariants as replies

-- a space and a number
abbrev pub number_word : ℕ → List ℕ
number_word number = 32 ∷ decimal number

-- the slots from one on and below the end, if there are any: the one, or the first and the last
abbrev pub range_text : ℕ → ℕ → ℕ → List ℕ
range_text before from end =
    if nat_lt from end
    then before ∷ (decimal from
    ++ (if nat_lt (from + 1) end then codes "-" ++ decimal (end - 1) else []))
    else []

-- what stands before the slots behind them: a comma, if there were some
abbrev pub before_next : ℕ → ℕ → ℕ → ℕ
before_next before from end = if nat_lt from end then 44 else before

-- the slots from one on that are below the capacity and not taken
abbrev pub free_text : ℕ → ℕ → List ℕ → ℕ → List ℕ
free_text before from [] capacity = range_text before from capacity
free_text before from (slot ∷ taken) capacity =
    range_text before from slot
    ++ free_text (before_next before from slot) (slot + 1) taken capacity

-- the handles that an add may give: the free slots, and the ticket
abbrev pub next_text : NextHandle → List ℕ
next_text next =
    codes "handle"
    ++ (free_text 32 0 next.taken.items next.capacity ++ (codes " " ++ decimal next.ticket))

-- the ids with which, and without which, the list would do that was seen
unfoldable pub ids_text : (missing unseen : List ℕ) → List ℕ
ids_text missing unseen =
    (codes "the list with:" ++ flat_map id_word missing)
    ++ (codes ", without:" ++ flat_map id_word unseen)

-- the same; where there are none, a list would do
abbrev pub lists_words : (missing unseen : List ℕ) → List ℕ
lists_words [] [] = codes "a list"
lists_words [] (id ∷ ids) = ids_text [] (id ∷ ids)
lists_words (id ∷ ids) unseen = ids_text (id ∷ ids) unseen

-- the words of what a weak listing may have had in its stead
abbrev pub lists_text : PossibleList → List ℕ
lists_text lists = lists_words lists.missing.items lists.unseen.items

-- the replies that a run gives
abbrev pub possible_text : PossibleReplies → List ℕ
possible_text (replies.One r) = text_of r
possible_text (replies.Handle next) = next_text next
possible_text (replies.List lists) = lists_text lists

-- the lines in which calls begin that were made
abbrev pub made_text : List ℕ → List ℕ
made_text [] = codes "made: none"
made_text (line ∷ lines) = codes "made: lines" ++ flat_map number_word (line ∷ lines)

-- the lines of what was made, and of the replies that a call may have
abbrev pub choice_text : List ℕ → PossibleReplies → List ℕ
choice_text made possible =
    made_text made
    ++ ((10 ∷ codes "possible: ") ++ (possible_text possible ++ 10 ∷ []))

-- the lines of who is there
abbrev pub attached_text : List ℕ → List PortDetails → List ℕ
attached_text nodes ports =
    (codes "nodes:" ++ flat_map id_word nodes)
    ++ (10 ∷ codes "ports:") ++ flat_map port_word ports ++ 10 ∷ []

-- the lines of a configuration
abbrev pub config_text : Configuration → List ℕ
config_text reported =
    choice_text reported.made.items reported.possible ++ attached_text reported.nodes.items
    reported.ports.items

-- the line of the command of the call that is refused
unfoldable pub call_text : ℕ → List ℕ → List ℕ
call_text line command =
    (10 ∷ codes "call: ") ++ command ++ (codes " (line " ++ decimal line) ++ codes ")"

-- the line from which a window is open, and the lines of the calls in it that are needed
unfoldable pub window_text : ℕ → List ℕ → List ℕ
window_text window needed =
    ((10 ∷ codes "window: from line ") ++ decimal window)
    ++ ((10 ∷ codes "needed: lines") ++ flat_map number_word needed)

-- which reply no order explains with all that is seen down to a line: that in it, or one above it
abbrev pub which_text : ℕ → ℕ → List ℕ
which_text line reply =
    if reply == line
    then codes ": no order of the calls explains this reply"
    else codes ": down to here no order of the calls explains the reply in line " ++ decimal reply

-- no order explains what is seen down to a line: the reply in it, or one above it
unfoldable pub refused_text : ℕ → ℕ → List ℕ
refused_text line reply = (codes "line " ++ decimal line) ++ which_text line reply

-- the lines of a reply that no order explains, of its call, of the calls that are needed, and of
-- what the calls before it can have led to
abbrev pub refusal_text : Refusal → List ℕ
refusal_text reported =
    refused_text reported.line reported.reply
    ++ (10 ∷ codes "seen: ")
    ++ reported.words.items
    ++ call_text reported.call reported.command.items
    ++ window_text reported.window reported.needed.items
    ++ (10 ∷ flat_map config_text reported.configurations.items)

-- what is expected where a text has this form, and is that of no line
abbrev pub form_text : LogForm → List ℕ
form_text form.Service =
    codes ": service PATTERN NUMBER NODES FIRST SECOND is expected, as service event 7 2 2 0; "
    ++ codes "a pattern is publish-subscribe, event, request-response or blackboard\n"
form_text form.State =
    codes ": state .. is expected, as state nodes 20, state nodes 20 locked, state listener 4, "
    ++ codes "state 0 17 register 1.0.0.1 or state 3 2 add listener 1.0.0.2 1.0.0.1\n"
form_text form.Register =
    codes ": register NODE is expected, as register 1.0.0.1, and no space behind it\n"
form_text form.Deregister =
    codes ": deregister NUMBER or deregister SLOT TICKET is expected, as deregister 0 3, "
    ++ codes "and no space behind it\n"
form_text form.Nodes = codes ": nodes is expected, and nothing behind it, not even a space\n"
form_text form.Add =
    codes ": add ROLE PORT NODE is expected, as add listener 1.0.0.2 1.0.0.1, "
    ++ codes "and no space behind it\n"
form_text form.Release =
    codes ": release NUMBER or release ROLE SLOT TICKET is expected, as release listener 1 0, "
    ++ codes "and no space behind it\n"
form_text form.List = codes ": list ROLE is expected, as list listener, and no space behind it\n"
form_text form.Count =
    codes ": count ROLE is expected, as count listener, and no space behind it\n"
form_text form.Dead =
    codes ": dead NODE or dead NODE skip PORT .. is expected, as dead 1.0.0.1, "
    ++ codes "and no space behind it\n"
form_text form.WeakNodes =
    codes ": CALLER> nodes? is expected, as A> nodes?, and no space behind it\n"
form_text form.WeakList =
    codes ": CALLER> list? ROLE is expected, as A> list? listener, and no space behind it\n"
form_text form.Begin =
    codes ": CALLER> COMMAND is expected, as A> nodes; a name has 1 to 16 letters and digits\n"
form_text form.End =
    codes ": CALLER< REPLY is expected, as A< list, with no number before it; "
    ++ codes "a name has 1 to 16 letters and digits\n"
form_text form.Crash =
    codes ": CALLER! is expected, as A!, with no number before it; "
    ++ codes "a name has 1 to 16 letters and digits\n"
form_text form.Numbered =
    codes ": NUMBER: COMMAND, NUMBER: CALLER> COMMAND or NUMBER: state .. is expected, "
    ++ codes "as 7: A> nodes; NUMBER is that of a service above\n"
form_text form.Unknown =
    codes ": a line that begins with register, deregister, nodes, add, release, list, count, "
    ++ codes "dead, state, service or a caller, whose name has 1 to 16 letters and digits, "
    ++ codes "is expected\n"

-- what a line should have been
abbrev pub expected_text : Expected → List ℕ
expected_text expected.Service =
    codes ": the line of a service is expected, as service event 7 2 2 0; "
    ++ codes "a pattern is publish-subscribe, event, request-response or blackboard\n"
expected_text expected.Call =
    codes ": a line on a service above, by its number, or a new service is expected\n"
expected_text expected.NewNumber =
    codes ": another number is expected: a service above has this one\n"
expected_text expected.CallAlone =
    codes ": the command of a call is expected above its reply, as nodes above = list\n"
expected_text (expected.Form f) = form_text f
expected_text expected.Reply =
    codes ": a reply is expected, as handle 0 3, list 1000000000000000000000001, count 2 or "
    ++ codes "released; below a call alone with = before it\n"
expected_text expected.IdleCaller =
    codes ": a caller without an open call is expected" ++ 10 ∷ []
expected_text expected.OpenCall = codes ": a caller with an open call is expected" ++ 10 ∷ []
expected_text expected.LiveCaller = codes ": a caller that has not died is expected" ++ 10 ∷ []
expected_text expected.KnownCaller =
    codes ": a caller that has begun a call is expected" ++ 10 ∷ []
expected_text expected.Newline =
    codes ": a newline is expected at the end of the line" ++ 10 ∷ []
expected_text expected.State = codes ": a state of the service is expected" ++ 10 ∷ []
expected_text expected.NoCarriageReturn =
    codes ": no carriage return is expected before the newline" ++ 10 ∷ []

-- the first text where the number is 1, else the second
abbrev pub for_count : ℕ → List ℕ → List ℕ → List ℕ
for_count n one more = if n == 1 then one else more

-- the line of so many calls that conform, on so many services
abbrev pub conforms_text : ℕ → ℕ → List ℕ
conforms_text n m =
    (codes "conforms, " ++ decimal n)
    ++ ((for_count n (codes " call on ") (codes " calls on ") ++ decimal m)
    ++ (for_count m (codes " service") (codes " services") ++ 10 ∷ []))

-- a line with what is reported of it
abbrev pub line_reported : ℕ → List ℕ → List ℕ
line_reported line text = (codes "line " ++ decimal line) ++ text

-- the text of a verdict
abbrev pub report_text : Verdict → List ℕ
report_text (verdict.Conforms n m) = conforms_text n m
report_text (verdict.Refused reported) = refusal_text reported
report_text (verdict.ManyConfigs k) =
    line_reported k
    (codes ": orders of the calls lead to more than 4,096 configurations" ++ 10 ∷ [])
report_text (verdict.ManyOpen k) =
    line_reported k (codes ": more than 64 calls are open" ++ 10 ∷ [])
report_text (verdict.BadLine k e) = line_reported k (expected_text e)

-- a number, in a line
abbrev pub line_of : ℕ → List ℕ
line_of number = decimal number ++ 10 ∷ []

-- the lines of an order of the calls on a service
abbrev pub order_text : Order → List ℕ
order_text reported =
    (codes "service " ++ decimal reported.service) ++ (10 ∷ flat_map line_of reported.lines.items)

-- what the output gets of the text that reports a verdict: all of it, where it is on the replies
abbrev pub on_output : Verdict → List ℕ → List ℕ
on_output (verdict.Conforms n m) text = text
on_output (verdict.Refused reported) text = text
on_output _ text = []

-- what the errors get of it: all of it, where it is on what cannot be judged
abbrev pub on_errors : Verdict → List ℕ → List ℕ
on_errors (verdict.Conforms n m) text = []
on_errors (verdict.Refused reported) text = []
on_errors _ text = text

-- the status of the program
abbrev pub status_of : Verdict → ℕ
status_of (verdict.Conforms n m) = 0
status_of (verdict.Refused reported) = 1
status_of (verdict.ManyConfigs k) = 2
status_of (verdict.ManyOpen k) = 2
status_of (verdict.BadLine k e) = 2
