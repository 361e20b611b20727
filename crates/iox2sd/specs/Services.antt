-- Making and freeing services, and numbers for them.
use Rattle.std.specs.Prelude.{◌≡◌, ◌≢◌, ℕ, Option, Some, None, List, [], ◌∷◌, Result, Ok, Err}
use Rattle.iox2_config.specs.Hashing.{ReadsPattern}
use Rattle.iox2_config.specs.declared.hash.input.PatternKind.{PatternKind}
use Rattle.iox2sd.specs.Prelude.{PatternCapacities, fresh_service, code, Status, NumberAnswer}
use Rattle.iox2_dynamic.specs.Service.{Service as Held}
use Rattle.iox2sd.specs.Objects.{IsSoundObject, held}
use Rattle.iox2sd.specs.declared.service.Service.{Service}
use Rattle.iox2sd.specs.declared.service.making.Capacities.{Capacities}
use Rattle.iox2sd_common.specs.declared.status.Status.TheVariants as status
use Rattle.iox2_container.specs.ServiceNumbers.{ReturnsNumber}
use Rattle.iox2sd.specs.Answers.{number_answer}
use Rattle.iox2sd_common.specs.Answers.{Returns}
use Rattle.iox2sd.specs.declared.service_numbers.ServiceNumbers.{ServiceNumbers}

-- how many ports of the two kinds of a pattern there may be
abbrev pub capacities_of : PatternKind → Capacities → PatternCapacities
capacities_of kind c = record { pattern = kind; first = c.first; second = c.second }

-- making a service of a pattern with a number, capacities and tickets where there is none
abbrev pub MakesNew : ℕ → ℕ → Capacities → ℕ → Status → Option Held → Type 0
MakesNew pattern number c tickets status.Done new =
    (kind : PatternKind) × ReadsPattern pattern (Some kind)
    × (new ≡ Some (fresh_service (capacities_of kind c) c.nodes number tickets))
MakesNew pattern number c tickets status.UnknownPattern new = ReadsPattern pattern None
    × (new ≡ None)
MakesNew pattern number c tickets status.NoMemory new =
    (kind : PatternKind) × ReadsPattern pattern (Some kind) × (new ≡ None)
MakesNew pattern number c tickets _ new = ⊥

-- making a service at an object: one that holds a service keeps it
abbrev pub Makes : ℕ → ℕ → Capacities → ℕ → Option Held → Status → Option Held → Type 0
Makes pattern number c tickets (Some old) s new = (s ≡ status.HasService) × (new ≡ Some old)
Makes pattern number c tickets None s new = MakesNew pattern number c tickets s new

-- the same at an object that may be NULL. One in which no service was made is as it was
abbrev pub MakesAt : ℕ → ℕ → Capacities → ℕ → List Service → ℕ → List Service → Type 0
MakesAt pattern number c tickets [] answer new = (answer ≡ code status.Null) × (new ≡ [])
MakesAt pattern number c tickets (object ∷ others) answer new =
    (left : Service) × (new ≡ left ∷ others) × IsSoundObject left
    × (answer ≢ code status.Done → left ≡ object)
    × Returns code (λ s. Makes pattern number c tickets (held object) s (held left)) answer

-- freeing what is held, and reporting whether something was
abbrev pub Frees : Option Held → ℕ → Option Held → Type 0
Frees (Some old) answer new = (answer ≡ code status.Done) × (new ≡ None)
Frees None answer new = (answer ≡ code status.NoService) × (new ≡ None)

-- the same at an object that may be NULL
abbrev pub FreesAt : List Service → ℕ → List Service → Type 0
FreesAt [] answer new = (answer ≡ code status.Null) × (new ≡ [])
FreesAt (object ∷ others) answer new =
    (left : Service) × (new ≡ left ∷ others) × IsSoundObject left
    × Frees (held object) answer (held left)

-- the number after the one that is noted, which is noted in its place, or none after the greatest
abbrev pub NotesNumber : ServiceNumbers → Result ℕ Status → ServiceNumbers → Type 0
NotesNumber old (Ok number) new = ReturnsNumber old.last (Some number) new.last
NotesNumber old (Err status.OutOfSpace) new = ReturnsNumber old.last None new.last
NotesNumber old (Err _) new = ⊥

-- the first counter notes the number that is returned
abbrev pub GivesNumber : List ServiceNumbers → NumberAnswer → List ServiceNumbers → Type 0
GivesNumber [] answer new = (answer ≡ number_answer (Err status.Null)) × (new ≡ [])
GivesNumber (old ∷ rest) answer new =
    (number : Result ℕ Status) × (noted : ServiceNumbers) × NotesNumber old number noted
    × (answer ≡ number_answer number) × (new ≡ noted ∷ rest)
