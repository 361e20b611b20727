-- Weak listings, and services at which they look.
use Rattle.std.specs.Prelude.{if◌then◌else◌, ◌&&◌, ◌==◌, ◌≡◌, ◌≢◌, All, Bool, List, None, Option, Some, [], filter, length, map, not, ℕ}
use Rattle.service_conformance.specs.Prelude.{PortDetails, RegistryState, Service, filter_map, list_any, listed, port_of, port_value}
use Rattle.service_conformance.specs.declared.conformance.possible.Part.{Part}
use Rattle.service_conformance.specs.declared.conformance.look.OpenLook.TheInside as look
use Rattle.service_conformance.specs.declared.conformance.possible.Part.TheVariants as part

-- A weak listing that is open, and lacks something: the number of the call with which it began, the
-- part that it lists, the ids of its reply of which none was there yet, and the ids that its reply
-- has not and that were there all the while.
pub record Look : Type 0 where
  pub number : ℕ
  pub part : Part
  pub unseen : List ℕ
  pub lasting : List ℕ

-- a service, and the weak listings that are open and lack something
pub record Watched : Type 0 where
  pub service : Service
  pub looks : List Look

-- a service at which no weak listing looks
abbrev pub unwatched : Service → Watched
unwatched s = record { service = s; looks = [] }

-- the ids of the ports of a registry
abbrev pub port_ids : RegistryState PortDetails → List ℕ
port_ids r = map (λ d. port_value (port_of d)) (listed r)

-- the ids that a list of the part has
abbrev pub ids_in : Service → Part → List ℕ
ids_in s part.Nodes = listed s.nodes.registry
ids_in s part.First = port_ids s.ports.first.registry
ids_in s part.Second = port_ids s.ports.second.registry

-- whether the id is one of these
abbrev pub is_among : List ℕ → ℕ → Bool
is_among ids id = list_any (λ i. i == id) ids

-- the ids that are none of these
abbrev pub without : List ℕ → List ℕ → List ℕ
without others ids = filter (λ id. not (is_among others id)) ids

-- the weak listing, if it lacks something
abbrev pub lacking : Look → Option Look
lacking look =
    if length look.unseen == 0 && length look.lasting == 0 then None else Some look

-- what a weak listing lacks after these ids were there; none where it lacks nothing
abbrev pub look_after : List ℕ → Look → Option Look
look_after there look =
    lacking (record look {
      unseen = without there look.unseen;
      lasting = filter (is_among there) look.lasting;
    })

-- those of the weak listings that lack something after the service was so
abbrev pub looks_after : Service → List Look → List Look
looks_after s looks = filter_map (λ (l : Look). look_after (ids_in s l.part) l) looks

-- the service, at which these weak listings look
abbrev pub watched : Service → List Look → Watched
watched s looks = record { service = s; looks = looks_after s looks }

-- what a weak listing with this number and this reply lacks before it has seen the service
abbrev pub look_of : ℕ → Part → List ℕ → Service → Look
look_of number p reply s = record {
  number = number;
  part = p;
  unseen = reply;
  lasting = without reply (ids_in s p);
}

-- the weak listings have seen the service
abbrev pub IsWatched : Watched → Type 0
IsWatched w = looks_after w.service w.looks ≡ w.looks

-- the weak listing with this number lacks nothing
abbrev pub LacksNothing : List Look → ℕ → Type 0
LacksNothing looks number = All (λ (l : Look). l.number ≢ number) looks

-- the weak listing that the fields tell
abbrev pub look_in : look.Inside → Look
look_in c = record {
  number = c.number;
  part = c.part;
  unseen = c.unseen.items;
  lasting = c.lasting.items;
}
