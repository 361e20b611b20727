-- When `==` holds of replies.
use Rattle.std.proofs.Common.{rules, ◌≡◌, ℕ, true, true≢false, refl, sym, ap}
use Rattle.service_descriptions.proofs.Names.{Decides-and, Decides-like, Handle, Role, PortDetails, Reply, IsSameReply}
use Rattle.std.proofs.lemmas.Slice.Eq.{slice_eq-Decides}
use Rattle.std.specs.Bool.{Decides}
use Rattle.std.specs.Cmp.{booleans_Decides, unsigned_Decides}
use Rattle.iox2_texts.specs.contracts.attribute.verifier.AttributeVerificationErrorPartialEq.TheImpl as fault
use Rattle.iox2_texts.specs.declared.attribute.verifier.AttributeVerificationError.{AttributeVerificationError}
use Rattle.iox2_ids.specs.contracts.identifiers.unique_id.UniqueNodeIdPartialEq.TheImpl as node
use Rattle.iox2_config.proofs.Equality.{EqualityTest, decided, numbers, pairs, structs}
use Rattle.iox2_config.specs.SampleLayoutParts.{SampleLayoutParts}
use Rattle.iox2_config.specs.contracts.types.layout.SampleLayoutPartialEq.TheImpl as room
use Rattle.iox2_container.specs.contracts.container.handle.ContainerHandlePartialEq.TheImpl as handle
use Rattle.iox2_container.specs.contracts.container.handle.RolePartialEq.TheImpl as role
use Rattle.iox2_dynamic.specs.contracts.dynamic_config.port_details.PortDetailsPartialEq.TheImpl as port
use Rattle.service_descriptions.specs.contracts.replay.machine.reply.ReplyPartialEq.TheImpl as same
use Rattle.service_descriptions.specs.declared.replay.machine.reply.Reply.TheVariants as reply

ports_decide : (x y : PortDetails) → Decides (port.ghosts.eq x y) (x ≡ y)
ports_decide x y = search rules

nodes_decide : (x y : ℕ) → Decides (node.ghosts.eq x y) (x ≡ y)
nodes_decide x y = search rules

roles_decide : (x y : Role) → Decides (role.ghosts.eq x y) (x ≡ y)
roles_decide x y = search rules

abbrev roles : EqualityTest Role
roles = record { test = role.ghosts.eq; decides = roles_decide }

ruleset parts = (numbers, pairs, structs, roles)

handles_decide : (x y : Handle) → Decides (handle.ghosts.eq x y) (x ≡ y)
handles_decide = decided (hlevel parts)

rooms_decide : (x y : SampleLayoutParts) → Decides (room.ghosts.eq x y) (x ≡ y)
rooms_decide x y = search rules

faults_decide : (x y : AttributeVerificationError) → Decides (fault.ghosts.eq x y) (x ≡ y)
faults_decide x y = search rules

alike : {A : Type 0} {x : A} → Decides true (x ≡ x)
alike = (λ _. refl, λ _. refl)

-- replies are compared by their variants and what is in them, lists item by item
pub replies_decide : (x y : Reply) → Decides (same.ghosts.eq x y) (IsSameReply x y)
replies_decide (reply.Nodes one) (reply.Nodes other) =
    slice_eq-Decides nodes_decide one.items other.items _ refl
replies_decide (reply.Ports one) (reply.Ports other) =
    slice_eq-Decides ports_decide one.items other.items _ refl
replies_decide (reply.Handle one) (reply.Handle other) =
    Decides-like _ (ap reply.Handle) (λ e. cc) (handles_decide one other)
replies_decide (reply.Count one) (reply.Count other) =
    Decides-like _ (ap reply.Count) (λ e. cc) (unsigned_Decides one other)
replies_decide (reply.Refused one) (reply.Refused other) =
    Decides-like _ (ap reply.Refused) (λ e. cc) (faults_decide one other)
replies_decide (reply.Layout one) (reply.Layout other) =
    Decides-like _ (ap reply.Layout) (λ e. cc) (rooms_decide one other)
replies_decide (reply.Places a b) (reply.Places c d) =
    Decides-like _ (λ e i. reply.Places (e.0 i) (e.1 i)) (λ e. (cc, cc))
    (Decides-and _ _ (unsigned_Decides a c) (unsigned_Decides b d))
replies_decide (reply.Compatible one) (reply.Compatible other) =
    Decides-like _ (ap reply.Compatible) (λ e. cc) (booleans_Decides one other)
replies_decide reply.Locked reply.Locked = alike
replies_decide reply.Full reply.Full = alike
replies_decide reply.NotRegistered reply.NotRegistered = alike
replies_decide reply.HasOwners reply.HasOwners = alike
replies_decide reply.NoMoreOwners reply.NoMoreOwners = alike
replies_decide reply.PortsAttached reply.PortsAttached = alike
replies_decide reply.Released reply.Released = alike
replies_decide reply.NotOwned reply.NotOwned = alike
replies_decide reply.NoHandle reply.NoHandle = alike
replies_decide reply.Verified reply.Verified = alike
replies_decide reply.NoLayout reply.NoLayout = alike
replies_decide reply.NoPlaces reply.NoPlaces = alike
replies_decide reply.NoAlignments reply.NoAlignments = alike
replies_decide reply.WrongPattern reply.WrongPattern = alike
replies_decide reply.NoDescription reply.NoDescription = alike
replies_decide _ _ = (λ e. absurd (true≢false (sym e)), λ e. cc)
