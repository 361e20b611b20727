-- An object whose service was not changed has not changed.
use Rattle.iox2sd.proofs.Names.{List, Some, [], ap, refl, slice_index_or, slice_set, sym, ◌∷◌, ◌≡◌}
use Rattle.iox2sd.specs.Lending.{with_held}
use Rattle.iox2_dynamic.specs.Service.{Service as Held}
use Rattle.iox2sd.specs.Objects.{held}
use Rattle.iox2sd.specs.declared.service.Service.{Service}

same_object : (object : Service) (service : Held) → held object ≡ Some service
    → with_held object service ≡ object
same_object object service e = λ i. record {
  full = object.full;
  slot = record { at = object.slot.at; service = sym e i };
}

pub same_objects : (objects : List Service) (other : Service) (service : Held)
    → held (slice_index_or objects 0 other) ≡ Some service
    → slice_set objects 0 (with_held (slice_index_or objects 0 other) service) ≡ objects
same_objects [] other service e = refl
same_objects (object ∷ objects) other service e =
    ap (λ left. left ∷ objects) (same_object object service e)
