-- Callbacks that may be shown the ports of a role.
use Rattle.std.specs.Fn.{Mut, CalledAt, TakesAt}
use denote.Ref.{Bor}
use denote.Param.Always.{always_mut}
use Rattle.iox2_texts.specs.declared.bounded.CallbackProgression.{CallbackProgression}
use Rattle.iox2_dynamic.proofs.Names.{Role, listed, PortDetails, Ports, CanListIn}
use Rattle.iox2_container.proofs.Callable.{callbacks as container_callbacks, CanVisit-from_total, CanVisit-from_always}

pub CanListIn-from_total : {F : Type 0} {takes : F → PortDetails → Type 0} {calls : F → PortDetails
    → CallbackProgression → F → Type 0} {a b : Role} {p : Ports} {role : Role} {f : F}
    → ((g : F) (x : PortDetails) → takes g x) → CanListIn takes calls a b p role f
CanListIn-from_total h =
    record { first = λ e. CanVisit-from_total h; second = λ e. CanVisit-from_total h }

pub CanListIn-from_always : {F : Type 0}
    (g : Mut F (Bor PortDetails × Unit {0}) CallbackProgression) (a b : Role) (p : Ports)
    (role : Role) (f : F) → always_mut g f → CanListIn (TakesAt g) (CalledAt g) a b p role f
CanListIn-from_always g a b p role f m =
    record {
      first = λ e. CanVisit-from_always g f (listed p.first.registry) m;
      second = λ e. CanVisit-from_always g f (listed p.second.registry) m;
    }

-- what the proof of a function needs that passes a callback which
-- may always be called: to be named by `using` on that function
pub ruleset callbacks = (container_callbacks, CanListIn-from_total, CanListIn-from_always)
