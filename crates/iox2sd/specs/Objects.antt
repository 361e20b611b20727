-- The objects of services in a caller's memory, and calls at them.
use Rattle.std.specs.Prelude.{◌≡◌, Option, Some, None, List, [], ◌∷◌, is_some, Result, Err}
use Rattle.iox2_dynamic.specs.Service.{Service as Held}
use Rattle.iox2sd.specs.declared.service.Service.{Service}
use Rattle.iox2sd_common.specs.declared.status.Status.{Status}
use Rattle.iox2sd_common.specs.declared.status.Status.TheVariants as status

-- the object says whether it holds a service
abbrev pub IsSoundObject : Service → Type 0
IsSoundObject object = object.full ≡ is_some object.slot.service

-- what the object holds
abbrev pub held : Service → Option Held
held object = object.slot.service

-- a call that changes the service that is held went by the table, and the answer is what it made;
-- where none is held, the answer says so
abbrev pub Called : {M R : Type 0} → (M → R) → (Status → M) → (Held → M → Held → Type 0)
    → Option Held → R → Option Held → Type 0
Called form refuse Table None answer new =
    (answer ≡ form (refuse status.NoService)) × (new ≡ None)
Called {M} form refuse Table (Some old) answer new =
    (made : M) × (answer ≡ form made) × (after : Held) × (new ≡ Some after) × Table old made after

-- the same at an object that may be NULL, which is reported before all else. The object is sound
-- afterwards and points where it did, and no other object has changed
abbrev pub At : {M R : Type 0} → (M → R) → (Status → M) → (Held → M → Held → Type 0)
    → List Service → R → List Service → Type 0
At form refuse Table [] answer new = (answer ≡ form (refuse status.Null)) × (new ≡ [])
At form refuse Table (object ∷ others) answer new =
    (left : Service) × (new ≡ left ∷ others) × IsSoundObject left
    × (left.slot.at ≡ object.slot.at)
    × Called form refuse Table (held object) answer (held left)

-- the answer to a question is what it says of the service that is held; where none is held, the
-- answer says so, and the rest of the caller's memory is as it was
abbrev pub AnswersQueryOf : {M R : Type 0} → (M → R) → (Status → M) → Type 0 → (Held → M → Type 0)
    → Option Held → R → Type 0
AnswersQueryOf form refuse Rest Says None answer = (answer ≡ form (refuse status.NoService)) × Rest
AnswersQueryOf {M} form refuse Rest Says (Some service) answer =
    (made : M) × (answer ≡ form made) × Says service made

-- the same at an object that may be NULL, which is reported before all else
abbrev pub AnswersQuery : {M R : Type 0} → (M → R) → (Status → M) → Type 0 → (Held → M → Type 0)
    → List Service → R → Type 0
AnswersQuery form refuse Rest Says [] answer = (answer ≡ form (refuse status.Null)) × Rest
AnswersQuery form refuse Rest Says (object ∷ others) answer =
    AnswersQueryOf form refuse Rest Says (held object) answer

-- the answer to a question that has nothing beside it, or why there is none
abbrev pub Answers : {M R : Type 0} → (Result M Status → R) → (Held → Result M Status → Type 0)
    → List Service → R → Type 0
Answers form Says objects answer = AnswersQuery form Err (Unit {0}) Says objects answer
