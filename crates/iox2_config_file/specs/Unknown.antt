-- The keys of a file that no setting has, and what was probably meant by each.
use Rattle.std.specs.Prelude.{ℕ, ◌+◌, ◌/◌, List, [], ◌∷◌, ◌++◌, length, take, drop, map, flat_map, Bool, ◌&&◌, ◌||◌, ◌==◌, nat_le, nat_lt, nat_eq, bytes_eq, max, if◌then◌else◌, Option, Some, None, option_map, string_bytes}
use Rattle.std.specs.Char.{to_ascii_lowercase}
use Rattle.std.specs.List.{find, list_all, list_any, cons_option}
use Rattle.std.specs.Option.{option_or}
use Rattle.std.specs.Str.{chars}
use Rattle.iox2_config.specs.declared.config.Config.{Config}
use Rattle.iox2_config_file.specs.declared.fault.Kind.{Kind}
use Rattle.iox2_config_file.specs.declared.proposal.Likeness.{Likeness}
use Rattle.iox2_config_file.specs.declared.proposal.Likeness.TheVariants.{Spelling, OtherTable, Quoted, Near}
use Rattle.iox2_config_file.specs.declared.proposal.Proposal.{Proposal}
use Rattle.iox2_config_file.specs.declared.proposal.Wanted.{Wanted}
use Rattle.iox2_config_file.specs.declared.proposal.Wanted.TheVariants as wanted
use Rattle.iox2_config_file.specs.declared.section.Section.{Section}
use Rattle.iox2_config_file.specs.Read.{rows_in, sections, section_members}
use Rattle.iox2_config_file.specs.Settings.{prefix_of}
use Rattle.strsim.specs.Edits.{levenshtein_row}
use Rattle.iox2_config_file.specs.declared.unknown.UnknownKey.{UnknownKey}
use Rattle.toml.specs.Data.{Members, no_members, member}

-- a known key, and how it is like the one that is not known
abbrev pub Proposed : Type 0
Proposed = Section × List ℕ × Likeness

abbrev pub proposal_view : Proposal → Proposed
proposal_view p = (p.section, p.key.now, p.likeness)

-- it is `-` or `_`
abbrev pub is_dash : ℕ → Bool
is_dash c = c == 45 || c == 95

-- the letters of a key without `-` and `_`, all of them small
unfoldable pub spelling : List ℕ → List ℕ
spelling [] = []
spelling (c ∷ cs) = if is_dash c then spelling cs else to_ascii_lowercase c ∷ spelling cs

-- a text is the path of a key: a prefix, and then the key
abbrev pub is_path : List ℕ → List ℕ → List ℕ → Bool
is_path text prefix key =
    bytes_eq (take (length prefix) text) prefix && bytes_eq (drop (length prefix) text) key

-- what is looked for among known keys: one that is the same but for `-`, `_` and the case of
-- letters, or one whose path is one of two texts
pub data Target : Type 0 where
  respelled : List ℕ → Target
  path : List ℕ → List ℕ → Target

abbrev pub wanted_view : Wanted → Target
wanted_view (wanted.Respelled key) = respelled key.now
wanted_view (wanted.Path text other) = path text.now other.now

abbrev pub is_wanted : Target → Section × List ℕ → Bool
is_wanted (respelled key) (s, known) = bytes_eq (spelling key) (spelling known)
is_wanted (path text other) (s, known) =
    is_path text (prefix_of s) known || is_path other (prefix_of s) known

-- the keys of some tables, each with its table
abbrev pub keys_of : Section → List (List ℕ × Kind) → List (Section × List ℕ)
keys_of s rows = map (λ row. (s, row.0)) rows

abbrev pub keys_in : Config → List Section → List (Section × List ℕ)
keys_in c ss = flat_map (λ s. keys_of s (rows_in s c)) ss

-- the first known key of all tables that is wanted
unfoldable pub wanted_in : Config → Target → Option (Section × List ℕ)
wanted_in c target = find (is_wanted target) (keys_in c sections)

-- how many characters have to be put in, taken out or changed
unfoldable pub edit_distance : List ℕ → List ℕ → ℕ
edit_distance a b = levenshtein_row nat_eq (chars a) (chars b) (length (chars b))

-- this distance, where it is below a limit
abbrev pub distance_below : List ℕ → List ℕ → ℕ → Option ℕ
distance_below a b limit =
    if nat_lt (edit_distance a b) limit then Some (edit_distance a b) else None

-- a known key is at the least distance of some
abbrev pub is_nearest : List ℕ → List (Section × List ℕ) → Section × List ℕ → Bool
is_nearest key keys known =
    list_all (λ other. nat_le (edit_distance key known.1) (edit_distance key other.1)) keys

-- the first of some keys at the least distance, where that is below a limit
abbrev pub nearest_below : List ℕ → ℕ → List (Section × List ℕ) → Option (Section × List ℕ)
nearest_below key limit keys =
    find (λ known. nat_lt (edit_distance key known.1) limit && is_nearest key keys known) keys

-- the greatest distance at which a key is proposed: 2, or a third of the key's bytes
abbrev pub reach : List ℕ → ℕ
reach key = max (length key / 3) 2

-- the nearest of some keys, to a key of at most 64 bytes
unfoldable pub nearest : List ℕ → List (Section × List ℕ) → Option (Section × List ℕ)
nearest key keys =
    if nat_le (length key) 64 then nearest_below key (reach key + 1) keys else None

-- a proposal of a known key
abbrev pub proposal_of : Likeness → Section × List ℕ → Proposed
proposal_of likeness (s, key) = (s, key, likeness)

-- the same key but for `-`, `_` and the case of letters, in another table
abbrev pub elsewhere : Config → List ℕ → Option Proposed
elsewhere c key = option_map (proposal_of OtherTable) (wanted_in c (respelled key))

-- of a key with a dot, the known key whose path it is: from the root on, or from its table on
abbrev pub unquoted : Config → Section → List ℕ → Option Proposed
unquoted c s key =
    if list_any (λ b. b == 46) key
    then option_map (proposal_of Quoted) (wanted_in c (path key (prefix_of s ++ key)))
    else None

-- what was probably meant: the same key but for `-`, `_` and the case of letters; or else such a
-- key of another table; or else the key whose path stands in quotes; or else the nearest key
unfoldable pub proposed : Config → Section → List ℕ → Option Proposed
proposed c s key =
    let keys = keys_of s (rows_in s c) in
    option_or (option_map (proposal_of Spelling) (find (is_wanted (respelled key)) keys))
    (option_or (elsewhere c key)
    (option_or (unquoted c s key) (option_map (proposal_of Near) (nearest key keys))))

-- a key is one of the rows
abbrev pub is_known : List ℕ → List (List ℕ × Kind) → Bool
is_known key rows = list_any (λ row. bytes_eq key row.0) rows

-- a key that is not known: its table, the key, and what was probably meant
abbrev pub Unknown : Type 0
Unknown = Section × List ℕ × Option Proposed

abbrev pub unknown_view : UnknownKey → Unknown
unknown_view u = (u.section, string_bytes u.key, option_map proposal_view u.meant)

-- a key of a table, where it is not known
unfoldable pub unknown_at : Config → Section → List ℕ → Option Unknown
unknown_at c s key =
    if is_known key (rows_in s c) then None else Some (s, key, proposed c s key)

-- the keys among those of a table that are not known
abbrev pub unknown_among : Config → Section → Members → List Unknown
unknown_among c s no_members = []
unknown_among c s (member key value ms) =
    cons_option (unknown_at c s key) (unknown_among c s ms)

-- the unknown keys of a table of a file
unfoldable pub section_unknown : Config → Members → Section → List Unknown
section_unknown c file s = unknown_among c s (section_members s file)

-- all unknown keys of a file, by its tables, and in each table in the order of the keys
unfoldable pub unknown_in : Config → Members → List Unknown
unknown_in c file = flat_map (section_unknown c file) sections
