-- Paths that are joined, where the system's files lie, and how they are called, where nothing else
-- is said.
use Rattle.std.specs.Prelude.{◌≡◌, ℕ, List, [], ◌∷◌, Result, Ok, Err, slice_get}
use Rattle.std.specs.Option.{ok_or}
use Rattle.iox2sd_values.specs.Prelude.{MakesJoined, PlaceAnswer, SemanticStringError, TextAnswer, default_node, default_service, Reading, ReportsText, Refusal}
use lib.Chars.{codes}
use Rattle.iox2sd_values.specs.Refusals.{MakesOr}
use Rattle.iox2sd_values.specs.Texts.{ChecksFileName, ChecksPath, MakesFileName, MakesPath}
use Rattle.iox2sd_values.specs.declared.refusals.Refusal.TheVariants as refusal
use Rattle.iox2sd_common.specs.declared.status.Status.TheVariants as status

-- the entry that is made and checked so, joined to the path: the path is looked at first, then the
-- entry, and then the length
abbrev pub Joins : (List ℕ → Result (List ℕ) SemanticStringError → Type 0)
    → (List ℕ → PlaceAnswer → Type 0) → List ℕ → List ℕ → Result (List ℕ) Refusal → Type 0
Joins Makes Checks path entry made =
    Reading (MakesOr (MakesPath path) (ChecksPath path) status.BadPath) (λ r. made ≡ Err r) (λ p.
    Reading (MakesOr (Makes entry) (Checks entry) status.BadEntry) (λ r. made ≡ Err r) (λ e.
    Reading (MakesJoined p e) (λ error. made ≡ Err (refusal.Because status.TooLong)) (λ joined.
    made ≡ Ok joined)))

-- a path joined to a path, and the path of a file in a directory
abbrev pub JoinsPath : List ℕ → List ℕ → Result (List ℕ) Refusal → Type 0
JoinsPath path entry made = Joins MakesPath ChecksPath path entry made

abbrev pub JoinsFile : List ℕ → List ℕ → Result (List ℕ) Refusal → Type 0
JoinsFile path file made = Joins MakesFileName ChecksFileName path file made

-- the texts of the configuration by their numbers, from 0 on
abbrev pub named : List (List ℕ)
named =
    codes "/tmp/iceoryx2/"
    ∷ codes "iox2_"
    ∷ default_service.directory
    ∷ default_service.data_segment_suffix
    ∷ default_service.static_config_storage_suffix
    ∷ default_service.dynamic_config_storage_suffix
    ∷ default_service.connection_suffix
    ∷ default_service.event_connection_suffix
    ∷ default_service.blackboard_mgmt_suffix
    ∷ default_service.blackboard_data_suffix
    ∷ default_node.directory
    ∷ default_node.monitor_suffix
    ∷ default_node.static_config_suffix
    ∷ default_node.service_tag_suffix
    ∷ default_node.port_tag_suffix
    ∷ default_node.global_mgmt_suffix
    ∷ codes "iceoryx2.toml"
    ∷ codes "config/iceoryx2.toml"
    ∷ codes "iceoryx2"
    ∷ codes "iceoryx2/iceoryx2.toml"
    ∷ []

-- the text of the number is written, where there is one
abbrev pub ReportsNamed : ℕ → List ℕ → TextAnswer → List ℕ → Type 0
ReportsNamed number old answer new =
    ReportsText (ok_or (slice_get named number) status.UnknownText) old answer new
