-- The one state that a reply leaves.
use Rattle.service_conformance.proofs.Names.{arith, Err, None, Ok, Option, Some, ap, false, inl, inr, refl, subst, true, ℕ, ◌∙◌, ◌≡◌, AddStep, AddsPort, CanServe, ContainerHandleNotOwnedByContainer, Default, First, Handle, IsRegistry, IsService, LeadsTo, LockIfLastIndex, MayGive, OutOfSpace, PortDetails, RegistryState, ReleaseState, RemoveStep, RemovesPort, Reply, Reports, Second, ServesAdd, ServesDeregister, ServesRegister, ServesRelease, Service, Side, TakesEntry, at_rest, handle_in, is_removal, ports_at, quiet, role_at, role_of}
use Rattle.service_conformance.proofs.Taking.{at_side, ports_taken}
use Rattle.service_descriptions.specs.declared.replay.machine.reply.Reply.TheVariants as reply
use Rattle.service_conformance.proofs.Possibles.{adds_at, removes_at}
use Rattle.service_conformance.proofs.Registries.{add_once, was_given}
use Rattle.service_conformance.proofs.Quiet.{service_quiet}

-- the one state that can be led to is a service
pub one_kept : (Step : Reply → Service → Type 0) (r : Reply) (new : Service) → CanServe Step r
    → LeadsTo Step r new → IsService new
one_kept Step r new can one = subst IsService (one can.0 can.1) (service_quiet can.0 can.2)

leaves : (Step : Reply → Service → Type 0) (r : Reply) (new : Service) → CanServe Step r
    → LeadsTo Step r new → LeadsTo Step r new × IsService new
leaves Step r new can one = (one, one_kept Step r new can one)

-- the nodes alone have changed
by_nodes : (s w : Service) (m : RegistryState ℕ) → w ≡ record s { nodes = w.nodes }
    → w.nodes.registry ≡ m
    → quiet w ≡ at_rest s.pattern m s.ports.first.registry s.ports.second.registry
by_nodes s w m e n =
    ap quiet e ∙ ap (λ r. at_rest s.pattern r s.ports.first.registry s.ports.second.registry) n

no_handle : (h : Handle) → handle_in (reply.Handle h) ≡ None → ⊥
no_handle h e = (let z : ◌≡◌ {A = Option Handle} (Some h) None = e in cc)

module _ (s : Service) (rest : quiet s ≡ s) where
  pub register_stays : (id : ℕ) (r : Reply) → handle_in r ≡ None → LeadsTo (ServesRegister s id) r s
  register_stays id _ e = grind (arith, no_handle, by_nodes)

  pub deregister_stays : (handle : Option Handle) (r : Reply) → is_removal r ≡ false
      → LeadsTo (ServesDeregister s handle) r s
  deregister_stays None _ e = grind arith
  deregister_stays (Some h) _ e = grind arith

pub register_enters : (s : Service) (id : ℕ) (h : Handle)
    → CanServe (ServesRegister s id) (reply.Handle h) → (m : RegistryState ℕ)
    → AddStep s.nodes.registry id (Ok h) m → IsRegistry m
    → LeadsTo (ServesRegister s id) (reply.Handle h)
    (at_rest s.pattern m s.ports.first.registry s.ports.second.registry)
    × IsService (at_rest s.pattern m s.ports.first.registry s.ports.second.registry)
register_enters s id h can m step k =
    leaves (ServesRegister s id) (reply.Handle h) _ can (λ w so.
    by_nodes s w m so.1 (add_once s.nodes.registry w.nodes.registry m id
    (Ok h) so.0.step step so.0.kept k))

pub register_may : (s : Service) (id : ℕ) (h : Handle)
    → CanServe (ServesRegister s id) (reply.Handle h)
    → TakesEntry s.nodes.registry × MayGive s.nodes.registry h
register_may s id h can =
    let step = can.1.0.step in
    ((step.0, step.1), was_given s.nodes.registry can.0.nodes.registry id h step can.1.0.kept)

pub deregister_goes : (s : Service) (h : Handle) (r : Reply) (m : RegistryState ℕ)
    → is_removal r ≡ true
    → ((state : ReleaseState) (new : RegistryState ℕ)
    → RemoveStep s.nodes.registry h LockIfLastIndex (Ok state) new → new ≡ m)
    → LeadsTo (ServesDeregister s (Some h)) r
    (at_rest s.pattern m s.ports.first.registry s.ports.second.registry)
deregister_goes s h _ m e gone = grind (arith, by_nodes)

same_side : (side : Side) (s : Service) → at_side side s (ports_at s side).registry ≡ quiet s
same_side First s = refl
same_side Second s = refl

module _ (s : Service) (d : PortDetails) where
  refused_add : quiet s ≡ s → (w : Service) → AddsPort s d (Err OutOfSpace) w → quiet w ≡ s
  refused_add rest w (a, e) =
      let t = ports_taken (λ r m. AddStep r d (Err OutOfSpace) m) (role_of d) s w a e in
      t.left ∙ (ap (at_side a.side s) t.step.2 ∙ (same_side a.side s ∙ rest))

  pub attach_stays : quiet s ≡ s → (r : Reply) → handle_in r ≡ None → LeadsTo (ServesAdd s d) r s
  attach_stays rest _ e = grind (arith, no_handle, refused_add)

  module _ (side : Side) (h : Handle) (role : role_of d ≡ role_at s.pattern side) where
    pub attach_enters : CanServe (ServesAdd s d) (reply.Handle h)
        → (m : RegistryState PortDetails)
        → AddStep (ports_at s side).registry d (Ok h) m → IsRegistry m
        → LeadsTo (ServesAdd s d) (reply.Handle h) (at_side side s m)
        × IsService (at_side side s m)
    attach_enters can m step k =
        leaves (ServesAdd s d) (reply.Handle h) (at_side side s m) can (λ w so.
        let t = adds_at s d side role so.1.0 (Ok h) w so.1.1 in
        t.left ∙ ap (at_side side s) (add_once _ t.registry m d (Ok h) t.step step t.whole k))

    pub attach_may : CanServe (ServesAdd s d) (reply.Handle h)
        → TakesEntry (ports_at s side).registry × MayGive (ports_at s side).registry h
    attach_may can =
        let t = adds_at s d side role can.1.1.0 (Ok h) can.0 can.1.1.1 in
        ((t.step.0, t.step.1), was_given _ t.registry d h t.step t.whole)

refused_removal : (s : Service) (h : Handle) → quiet s ≡ s → (w : Service)
    → RemovesPort s h (Err ContainerHandleNotOwnedByContainer) w → quiet w ≡ s
refused_removal s h rest w (inl a, e) =
    let t =
    ports_taken (λ r m. RemoveStep r h Default (Err ContainerHandleNotOwnedByContainer) m) h.role s
    w a e in
    t.left ∙ (ap (at_side a.side s) t.step.1 ∙ (same_side a.side s ∙ rest))
refused_removal s h rest w (inr a, e) = ap quiet e ∙ rw a.2 rest

pub release_stays : (s : Service) → quiet s ≡ s → (handle : Option Handle) (r : Reply)
    → is_removal r ≡ false → LeadsTo (ServesRelease s handle) r s
release_stays s rest None _ e = grind arith
release_stays s rest (Some h) _ e = grind (arith, refused_removal)

module _ (s : Service) (h : Handle) where
  module _ (side : Side) (role : h.role ≡ role_at s.pattern side) (m : RegistryState PortDetails)
      (gone : (state : ReleaseState) (new : RegistryState PortDetails)
      → RemoveStep (ports_at s side).registry h Default (Ok state) new → new ≡ m) where
    pub release_goes : (r : Reply) → is_removal r ≡ true
        → LeadsTo (ServesRelease s (Some h)) r (at_side side s m)
    release_goes reply.Released e = λ w so.
        let t = removes_at s h side role (Ok so.0) w so.1 in
        t.left ∙ ap (at_side side s) (gone so.0 t.registry t.step)
    release_goes reply.NotOwned e = absurd (let z : false ≡ true = e in cc)
    release_goes _ e = λ w so. absurd so

-- a report changes nothing
pub reported : (s : Service) (Reported : Reply → Type 0) (r : Reply) → quiet s ≡ s
    → LeadsTo (Reports s Reported) r s
reported s Reported r rest = λ w so. ap quiet so.1 ∙ rest
