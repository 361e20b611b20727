-- Calls on a registry as values, when the replies of two registries are of one kind, and when they
-- agree by the `==` of the details, of which only an equivalence is known.
use Rattle.std.specs.Prelude.{◌≡◌, ℕ, ◌==◌, Bool, not, ⊤, Option, Some, None, Result, Ok, Err, List, [], ◌∷◌, ◌++◌, length, take, slice_get, IsTrue, All, count_by}
use Rattle.std.specs.Global.{Vec}
use Rattle.std.specs.List.{list_any, AllZip}
use Rattle.std.specs.List.Sorted.{IsPermutation}
use Rattle.std.specs.Cmp.Lexicographic.{pointwise}
use Rattle.iox2_container.specs.declared.container.comparison.RegistryCall.TheVariants as Call
use Rattle.iox2_container.specs.declared.container.comparison.RegistryReply.TheVariants as Reply
use Rattle.iox2_container.specs.declared.container.registry.ContainerAddFailure.{ContainerAddFailure}
use Rattle.iox2_container.specs.declared.container.registry.ContainerRemoveError.{ContainerRemoveError}
use Rattle.iox2_container.specs.declared.container.registry.ReleaseMode.{ReleaseMode}
use Rattle.iox2_container.specs.declared.container.registry.ReleaseState.{ReleaseState}
use Rattle.iox2_container.specs.declared.container.comparison.RegistryCall.{RegistryCall}
use Rattle.iox2_container.specs.declared.container.comparison.RegistryReply.{RegistryReply}
use Rattle.iox2_container.specs.State.{Handle, IsRegistry, ContainerState}
use Rattle.iox2_container.specs.Steps.{Adds, Removes, RecoversBy, is_of, listed}

-- the handle in a reply
abbrev pub handle_in : {T : Type 0} → Option (RegistryReply T) → Option Handle
handle_in (Some (Reply.Handle handle)) = Some handle
handle_in _ = None

-- the handle that call k gave
abbrev pub handle_given : {T : Type 0} → List (RegistryReply T) → ℕ → Option Handle
handle_given replies k = handle_in (slice_get replies k)

-- whether the key of the details is outside the list
abbrev pub is_outside : {T : Type 0} → (T → ℕ) → List ℕ → T → Bool
is_outside number keys details = not (list_any (λ key. key == number details) keys)

-- a recovery that keeps the candidates with these keys
abbrev pub RecoversBut : {T : Type 0} → (T → Bool) → (T → ℕ) → List ℕ
    → ContainerState T → ReleaseMode → ReleaseState → ContainerState T → Type 0
RecoversBut is_dead number keys old mode state new =
    RecoversBy {F = Unit {0}}
    (λ _ details goes _. goes ≡ is_outside number keys details) is_dead old tt mode state
    new tt

-- the reply to an add
abbrev pub reply_of_add : {T : Type 0} → Result Handle ContainerAddFailure → RegistryReply T
reply_of_add (Ok handle) = Reply.Handle handle
reply_of_add (Err failure) = Reply.Refused failure

-- the reply to a removal
abbrev pub reply_of_remove : {T : Type 0} → Result ReleaseState ContainerRemoveError
    → RegistryReply T
reply_of_remove (Ok state) = Reply.State state
reply_of_remove (Err e) = Reply.NotOwned

-- a step was taken, and the reply is its result
pub record Reports {T R : Type 0} (Step : R → Type 0) (reported : R → RegistryReply T)
    (reply : RegistryReply T) : Type 0 where
  pub result : R
  pub step : Step result
  pub reply_is : reply ≡ reported result

-- a removal by the handle that an earlier call gave, if it gave one
abbrev pub RemoveGiven : {T : Type 0} → ContainerState T → Option Handle → ReleaseMode
    → RegistryReply T → ContainerState T → Type 0
RemoveGiven old None mode reply new = (reply ≡ Reply.NoHandle) × (new ≡ old)
RemoveGiven old (Some handle) mode reply new =
    Reports (λ result. Removes old handle mode result new) reply_of_remove reply

-- what a registry may reply to a call, after it gave the
-- earlier replies, and how often it touches its slots
abbrev pub CallStep : {T : Type 0} → (T → ℕ) → (T → ℕ)
    → ContainerState T → List (RegistryReply T) → RegistryCall T → RegistryReply T
    → ContainerState T → Type 0
CallStep node number old earlier (Call.Add details) reply new =
    Reports (λ result. Adds old details result new) reply_of_add reply
CallStep node number old earlier (Call.Remove k mode) reply new =
    RemoveGiven old (handle_given earlier k) mode reply new
CallStep node number old earlier (Call.Recover dead keys mode) reply new =
    Reports (λ state. RecoversBut (is_of node dead) number keys.items old mode state new)
    (λ state. Reply.State state) reply
CallStep {T} node number old earlier Call.List reply new =
    Reports (λ (entries : Vec T). (entries.items ≡ listed old.registry) × (new ≡ old))
    (λ entries. Reply.Entries entries) reply
CallStep node number old earlier Call.Len reply new =
    (reply ≡ Reply.Count (length old.registry.entries)) × (new ≡ old)

-- a registry was called, and its reply put after the earlier ones
pub record Answered {T : Type 0} (node number : T → ℕ) (old : ContainerState T)
    (earlier : List (RegistryReply T))
    (call : RegistryCall T) (replies : List (RegistryReply T))
    (new : ContainerState T) : Type 0 where
  pub reply : RegistryReply T
  pub step : CallStep node number old earlier call reply new
  pub kept : IsRegistry new.registry
  pub put : replies ≡ earlier ++ reply ∷ []

-- replies to calls in turn, after the earlier ones
abbrev pub CallRun : {T : Type 0} → (T → ℕ) → (T → ℕ)
    → ContainerState T → List (RegistryReply T) → List (RegistryCall T) → List (RegistryReply T)
    → ContainerState T → Type 0
CallRun node number old earlier [] [] new = new ≡ old
CallRun {T} node number old earlier (call ∷ calls) (reply ∷ replies) new =
    (mid : ContainerState T) × CallStep node number old earlier call reply mid
    × IsRegistry mid.registry
    × CallRun node number mid (earlier ++ reply ∷ []) calls replies new
CallRun node number old earlier [] (reply ∷ replies) new = ⊥
CallRun node number old earlier (call ∷ calls) [] new = ⊥

-- a registry made as many of the calls as there are replies, and these are the replies
pub record Made {T : Type 0} (node number : T → ℕ) (old : ContainerState T)
    (calls : List (RegistryCall T))
    (replies : List (RegistryReply T)) (new : ContainerState T) : Type 0 where
  pub run : CallRun node number old [] (take (length replies) calls) replies new

-- the same reply, but for handles and the order of listings
abbrev pub SameReply : {T : Type 0} → RegistryReply T → RegistryReply T → Type 0
SameReply (Reply.Handle one) (Reply.Handle other) = ⊤
SameReply (Reply.Entries one) (Reply.Entries other) = IsPermutation one.items other.items
SameReply one other = one ≡ other

-- the same replies in turn, but for handles and the order of listings
abbrev pub SameKind : {T : Type 0} → List (RegistryReply T) → List (RegistryReply T) → Type 0
SameKind ones others = AllZip SameReply ones others

-- as many items, and each of the first list has as many equals in both
pub record EquallyMany {T : Type 0} (eq : T → T → Bool) (ones others : List T) : Type 0 where
  pub as_long : length ones ≡ length others
  pub each : All (λ x. count_by (eq x) ones ≡ count_by (eq x) others) ones

-- the same reply, but for handles and the order of listings, where details are compared by `==`
abbrev pub AgreesBy : {T : Type 0} → (T → T → Bool) → RegistryReply T → RegistryReply T → Type 0
AgreesBy eq (Reply.Handle one) (Reply.Handle other) = ⊤
AgreesBy eq (Reply.Entries one) (Reply.Entries other) = EquallyMany eq one.items other.items
AgreesBy eq one other = one ≡ other

-- the same reply, where details are compared in turn by `==`
abbrev pub IsSameReplyBy : {T : Type 0} → (T → T → Bool) → RegistryReply T → RegistryReply T
    → Type 0
IsSameReplyBy eq (Reply.Entries one) (Reply.Entries other) =
    IsTrue (pointwise eq one.items other.items)
IsSameReplyBy eq one other = one ≡ other
