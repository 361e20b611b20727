-- What answers commands that have a line, and how the lines of lists grow.
use Rattle.std.specs.Prelude.{◌≡◌, ℕ, Bool, true, false, List, ◌++◌, Option, None, Result, Ok, OnOk, OnErr, length, take}
use Rattle.service_descriptions.specs.Prelude.{flat_map, ContainerState, Handle, listed, PortDetails, Ports, Service, Command, Reply}
use Rattle.std.specs.declared.alloc.AllocError.{AllocError}
use Rattle.iox2_texts.specs.declared.bounded.CallbackProgression.{CallbackProgression}
use Rattle.iox2_texts.specs.declared.bounded.CallbackProgression.TheVariants.{Continue, Stop}
use Rattle.service_descriptions.specs.declared.replay.machine.reply.LineAnswer.{LineAnswer}
use Rattle.service_descriptions.specs.declared.replay.machine.reply.LineAnswer.TheVariants as answer
use Rattle.service_descriptions.specs.Steps.{ServesNodes, ServesList, ServiceStep, State, handle_in}
use Rattle.service_descriptions.specs.Replies.{port_word, reply_line, reply_of}

-- the replies that an answer stands for: what is listed is read off the service
abbrev pub StandsFor : Service → LineAnswer → Reply → Type 0
StandsFor s (answer.Reply r) reply = reply ≡ reply_of r
StandsFor s answer.Nodes reply = ServesNodes s reply
StandsFor s (answer.Ports role) reply = ServesList s role reply

-- the handle that an answer gives
abbrev pub handle_given : LineAnswer → Option Handle
handle_given (answer.Reply r) = handle_in (reply_of r)
handle_given _ = None

-- each reply that the answer stands for may be given to the command
abbrev pub LineStep : State → Command → LineAnswer → State → Type 0
LineStep old c a new = (reply : Reply) → StandsFor new.service a reply
    → ServiceStep old c reply new

-- the line of a reply was appended that the answer stands for
abbrev pub WritesLine : Service → LineAnswer → List ℕ → List ℕ → Type 0
WritesLine s a before after = (reply : Reply) × StandsFor s a reply
    × (after ≡ before ++ reply_line reply)

-- bytes, and whether memory was refused
abbrev pub Written : Type 0
Written = List ℕ × Result (Unit {0}) AllocError

-- a word was appended; or memory was refused, and a part of it may have been
abbrev pub PutsWord : List ℕ → Written → CallbackProgression → Written → Type 0
PutsWord word before Continue after = (after.0 ≡ before.0 ++ word) × (after.1 ≡ before.1)
PutsWord word before Stop after =
    (take (length before.0) after.0 ≡ before.0) × OnOk after.1 ⊥

-- a text was appended; or memory was refused, and a part of it may have been
abbrev pub PutsText : List ℕ → Written → Written → Type 0
PutsText text before after =
    before.1 ≡ Ok tt → OnOk after.1 (after.0 ≡ before.0 ++ text)
    × OnErr after.1 (take (length before.0) after.0 ≡ before.0)

-- the words of some ports, by rising slot
abbrev pub ports_text : ContainerState PortDetails → List ℕ
ports_text ports = flat_map port_word (listed ports.registry)

-- those of the first kind, or those of the second
abbrev pub kind_text : Bool → Ports → List ℕ
kind_text true ports = ports_text ports.first
kind_text false ports = ports_text ports.second
