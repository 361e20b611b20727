-- Lists that callbacks put members into.
use Rattle.std.proofs.Common.{◌≡◌, ◌∙◌, ℕ, Bool, true, false, [], ◌∷◌, sym, ap, inl, inr}
use Rattle.std.specs.Global.{Vec}
use Rattle.iox2_texts.specs.declared.bounded.CallbackProgression.{CallbackProgression}
use Rattle.iox2_texts.specs.declared.bounded.CallbackProgression.TheVariants.{Continue}
use Rattle.iox2_dynamic.proofs.Names.{Role, listed}
use Rattle.iox2_dynamic.specs.declared.dynamic_config.port_details.PortDetails.{PortDetails}
use Rattle.iox2_dynamic.specs.Service.{Service, first_role, second_role}
use Rattle.iox2_container.proofs.Callable.{all_put}
use Rattle.iox2_dynamic.specs.Ports.{ListsIn}
use Rattle.iox2_dynamic.proofs.Rooms.{roles_differ}
use Rattle.service_examples.specs.declared.discovery.Member.{Member}
use Rattle.service_examples.specs.declared.discovery.Member.TheVariants.{Port}
use Rattle.service_examples.specs.Members.{Appends, ports_in}

-- a callback that puts a member for each port of a role at the end of a list, and goes on
module _ {F : Type 0} (calls : F → PortDetails → CallbackProgression → F → Type 0) (name : F → ℕ)
    (list_of : F → Vec Member)
    (step : (q : F) (x : PortDetails) (r : CallbackProgression) (v : F) → calls q x r v
    → (name v ≡ name q) × (r ≡ Continue) × Appends (Port x ∷ []) (list_of q) (list_of v)) where
  pub ports_appended : (s : Service) (role : Role) (f : F) (found : Bool) (h : F)
      → ListsIn calls (first_role s.pattern) (second_role s.pattern) s.ports role f found h
      → (name h ≡ name f)
      × (role ≡ first_role s.pattern → Appends (ports_in s.ports.first) (list_of f) (list_of h))
      × (role ≡ second_role s.pattern → Appends (ports_in s.ports.second) (list_of f) (list_of h))
  ports_appended s role f false h shown =
      (ap name shown.1, λ e. absurd (shown.0.0 e), λ e. absurd (shown.0.1 e))
  ports_appended s role f true h (inl shown) =
      let all =
      all_put calls name list_of Port step f (listed s.ports.first.registry) h shown.1 in
      (all.0, λ e. all.1, λ e. absurd (roles_differ s.pattern (sym shown.0 ∙ e)))
  ports_appended s role f true h (inr shown) =
      let all =
      all_put calls name list_of Port step f (listed s.ports.second.registry) h shown.1 in
      (all.0, λ e. absurd (roles_differ s.pattern (sym e ∙ shown.0)), λ e. all.1)
