-- Calls that change a service, and what they answer.
use Rattle.std.specs.Prelude.{◌≡◌, ℕ, Some, None, Result, Ok, Err, List, [], ◌∷◌}
use Rattle.iox2sd.specs.Prelude.{HasOwners, NoMoreOwners, RegisterStep, DeregisterStep, ReleaseStep, ReadsNode, Handle, Id, Port, HandleAnswer, Status}
use Rattle.iox2_container.specs.State.{Handle as Named}
use Rattle.iox2_container.specs.declared.container.registry.ContainerRemoveError.TheVariants as remove
use Rattle.iox2_dynamic.specs.declared.dynamic_config.answers.DeregisterError.TheVariants as leave
use Rattle.iox2_dynamic.specs.declared.dynamic_config.answers.RegisterNodeResult.TheVariants as enter
use Rattle.iox2_dynamic.specs.Service.{Service as Held}
use Rattle.iox2sd.specs.Answers.{handle_answer}
use Rattle.iox2sd.specs.Ports.{c_handle, ReadsHandle, AttachesPort}
use Rattle.iox2sd.specs.Objects.{At}
use Rattle.iox2sd.specs.declared.service.Service.{Service}
use Rattle.iox2sd_common.specs.declared.status.Status.TheVariants as status

-- registering a node: the handle that C sees, or the refusal
abbrev pub Registers : Id → Held → Result Handle Status → Held → Type 0
Registers id old (Ok handle) new =
    (node : ℕ) × ReadsNode id (Some node)
    × (named : Named) × RegisterStep old node (Ok named) new × (handle ≡ c_handle named)
Registers id old (Err status.NoNode) new = ReadsNode id None × (new ≡ old)
Registers id old (Err status.IsLocked) new =
    (node : ℕ) × ReadsNode id (Some node)
    × RegisterStep old node (Err enter.MarkedForDestruction) new
Registers id old (Err status.OutOfSpace) new =
    (node : ℕ) × ReadsNode id (Some node)
    × RegisterStep old node (Err enter.ExceedsMaxNumberOfNodes) new
Registers id old (Err _) new = ⊥

-- deregistering a node
abbrev pub Deregisters : Handle → Held → Status → Held → Type 0
Deregisters handle old status.Done new =
    (named : Named) × ReadsHandle handle (Some named) × DeregisterStep old named (Ok HasOwners) new
Deregisters handle old status.DoneLocked new =
    (named : Named) × ReadsHandle handle (Some named)
    × DeregisterStep old named (Ok NoMoreOwners) new
Deregisters handle old status.UnknownRole new = ReadsHandle handle None × (new ≡ old)
Deregisters handle old status.ForeignHandle new =
    (named : Named) × ReadsHandle handle (Some named)
    × DeregisterStep old named (Err leave.ContainerHandleNotOwnedByContainer) new
Deregisters handle old status.PortsStillAttached new =
    (named : Named) × ReadsHandle handle (Some named)
    × DeregisterStep old named (Err leave.PortsStillAttached) new
Deregisters handle old _ new = ⊥

-- releasing a port
abbrev pub Releases : Handle → Held → Status → Held → Type 0
Releases handle old status.Done new =
    (named : Named) × ReadsHandle handle (Some named) × ReleaseStep old named (Ok tt) new
Releases handle old status.UnknownRole new = ReadsHandle handle None × (new ≡ old)
Releases handle old status.ForeignHandle new =
    (named : Named) × ReadsHandle handle (Some named)
    × ReleaseStep old named (Err remove.ContainerHandleNotOwnedByContainer) new
Releases handle old _ new = ⊥

-- attaching a port that may be NULL, which is reported before all else
abbrev pub AttachesAt : List Port → List Service → HandleAnswer → List Service → Type 0
AttachesAt [] old answer new = (answer ≡ handle_answer (Err status.Null)) × (new ≡ old)
AttachesAt (port ∷ others) old answer new =
    At handle_answer Err (AttachesPort port) old answer new
