-- Where the events of a service, and the commands of its calls, stand in a log.
use Rattle.std.specs.Prelude.{◌≡◌, ◌⊎◌, ◌<◌, ◌≤◌, ℕ, zero, suc, List, ◌∷◌, ◌++◌, All, AllPairs, IsTrue, Some, codes, slice_get}
use Rattle.histories.specs.declared.front.Event.TheVariants.{End}
use Rattle.histories.specs.Histories.{StandsAt}
use Rattle.line_streams.specs.Spelling.{HasNo}
use Rattle.log_lines.specs.Lines.{IsLine, Line, is_note, line_text}
use Rattle.log_lines.specs.Lines.Line.{begin, call, end, reply}
use Rattle.service_conformance.specs.Judged.{Judged, words_of}
use Rattle.service_conformance.specs.Judged.Judged.{starts}
use Rattle.history_logs.specs.Seen.{Service}

-- the line ends a call with these words
abbrev pub Answers : Line → List ℕ → Type 0
Answers (reply words) other = words ≡ other
Answers (end name words) other = words ≡ other
Answers _ other = ⊥

-- the line of this number, from 1, of the bytes
abbrev pub IsLineAt : List ℕ → ℕ → List ℕ → Type 0
IsLineAt bytes zero line = ⊥
IsLineAt bytes (suc zero) line =
    (after : List ℕ) × HasNo 10 line × (bytes ≡ line ++ 10 ∷ after)
IsLineAt bytes (suc (suc k)) line =
    (first : List ℕ) × (after : List ℕ) × HasNo 10 first × (bytes ≡ first ++ 10 ∷ after)
    × IsLineAt after (suc k) line

-- it has the words of its reply, and they stand in this line; a weak listing that starts has none
abbrev pub IsSaidIn : List ℕ → Judged → ℕ → Type 0
IsSaidIn bytes (starts p ids) k = Unit {0}
IsSaidIn bytes c k =
    (words : List ℕ) × (words_of c ≡ Some words)
    × ((l : Line) × IsLine l × Answers l words × IsLineAt bytes k (line_text l))

-- the call of this number has the words of its reply, and they stand in this line
abbrev pub IsAnsweredIn : List ℕ → Service → ℕ → ℕ → Type 0
IsAnsweredIn bytes s number k =
    (c : Judged) × (slice_get s.calls number ≡ Some c) × IsSaidIn bytes c k

-- where a call was answered, its words are seen, and they stand in the line of the answer
abbrev pub HasAnswers : List ℕ → Service → Type 0
HasAnswers bytes s =
    (index number k : ℕ) → StandsAt s.events index (End number)
    → slice_get s.event_lines index ≡ Some k → IsAnsweredIn bytes s number k

-- the line is a command: of a call alone, or of one that a caller begins
abbrev pub IsCommand : Line → Type 0
IsCommand (call number command) = Unit {0}
IsCommand (begin number name begun) = Unit {0}
IsCommand _ = ⊥

-- a note, or the reply to a call alone
abbrev pub IsNoteOrReply : List ℕ → Type 0
IsNoteOrReply text = IsTrue (is_note text) ⊎ ((words : List ℕ) × (text ≡ codes "= " ++ words))

-- The command of a call that begins in line k has this line and this text: below it, up to k, there
-- are only notes and replies to calls alone. A call alone begins in the line of its reply.
pub record IsCommandOf (bytes : List ℕ) (k at : ℕ) (text : List ℕ) : Type 0 where
  pub line : Line
  pub is : IsLine line
  pub command : IsCommand line
  pub spelled : line_text line ≡ text
  pub there : IsLineAt bytes at text
  pub upto : at ≤ k
  pub below : (later : ℕ) → at < later → later ≤ k
      → (other : List ℕ) × IsNoteOrReply other × IsLineAt bytes later other

-- the call that begins in the line has a command
abbrev pub HasCommand : List ℕ → ℕ → Type 0
HasCommand bytes k = (at : ℕ) × (text : List ℕ) × IsCommandOf bytes k at text

-- The lines of the events rise, and replies stand in those of their calls' ends. Each call has its
-- command.
pub record HasEventLines (bytes : List ℕ) (s : Service) : Type 0 where
  pub rising : AllPairs (λ (one other : ℕ). one ≤ other) s.event_lines
  pub answers : HasAnswers bytes s
  pub begun : All (HasCommand bytes) s.begins
