-- The keys of a file that no setting has.
use Rattle.std.specs.Prelude.{◌≡◌, ◌⊎◌, ◌≤◌, ◌<◌, ℕ, List, [], ◌++◌, map, flat_map, drop, length, Option, Some, None, string_bytes}
use Rattle.iox2sd_config.specs.Prelude.{code, Status, Note, topic_note, unknown, unknown_position, IsInOrder, Section, Position}
use Rattle.iox2_config_file.specs.Unknown.{Proposed, Unknown, unknown_view}
use Rattle.iox2_config_file.specs.declared.proposal.Likeness.{Likeness}
use Rattle.iox2_config_file.specs.declared.proposal.Likeness.TheVariants.{Spelling, OtherTable, Quoted, Near}
use Rattle.iox2_config_file.specs.declared.unknown.UnknownKey.{UnknownKey}
use Rattle.iox2sd_common.specs.declared.status.Status.TheVariants as status
use Rattle.iox2sd_config.specs.Files.{OfFile}
use Rattle.iox2sd_config.specs.Faults.{section_number, key_path, key_of, cut_key, cut_reason, line_of, column_of, unread_status, sort_key_at}
use Rattle.iox2sd_config.specs.declared.unknown.NamedKey.{NamedKey}
use Rattle.iox2sd_config.specs.declared.unknown.PlainUnknown.{PlainUnknown}
use Rattle.iox2sd_config.specs.declared.unknown.UnknownAnswer.{UnknownAnswer}

-- the number of how a known key is like one that is not known
abbrev pub likeness_number : Likeness → ℕ
likeness_number Spelling = 1
likeness_number OtherTable = 2
likeness_number Quoted = 3
likeness_number Near = 4

-- the same of what was probably meant, 0 where that is nothing
abbrev pub meant_number : Option Proposed → ℕ
meant_number None = 0
meant_number (Some (s, key, likeness)) = likeness_number likeness

-- the path of the known key that was probably meant, or nothing
abbrev pub meant_path : Option Proposed → List ℕ
meant_path None = []
meant_path (Some (s, key, likeness)) = key_path s key

-- what the report on a file says of an unknown key, with its table and what was probably meant
abbrev pub c_key : Section → Option Proposed → Note → PlainUnknown
c_key s meant n = record {
  table = section_number s;
  likeness = meant_number meant;
  line = line_of n.position;
  column = column_of n.position;
  key_length = length (key_of n.key);
  meant = cut_key (meant_path meant);
  meant_length = length (meant_path meant);
  reason = cut_reason n.message;
  reason_length = length n.message;
}

-- an unknown key at a position as a plain value, and its path as TOML writes it
abbrev pub c_key_at : Option Position → Unknown → PlainUnknown × List ℕ
c_key_at at (s, key, meant) =
    let n = topic_note at (unknown (s, key, meant)) in
    (c_key s meant n, key_of n.key)

-- the same in a file
abbrev pub c_unknown : List ℕ → Unknown → PlainUnknown × List ℕ
c_unknown bytes key = c_key_at (unknown_position bytes key) key

-- a plain value and its path, as the code holds them, and where they stand among others
abbrev pub named_view : NamedKey → PlainUnknown × List ℕ
named_view k = (k.plain, string_bytes k.path)

abbrev pub named_sort_key : NamedKey → ℕ × ℕ
named_sort_key k = sort_key_at k.plain.line k.plain.column

-- these are some unknown keys of a file, in the order of the file
abbrev pub ListsKeys : List ℕ → List UnknownKey → List NamedKey → Type 0
ListsKeys bytes keys listed =
    (found : List NamedKey)
    × (map named_view found ≡ map (c_unknown bytes) (map unknown_view keys))
    × IsInOrder named_sort_key found listed

-- their plain values, and their paths, one after the other
abbrev pub plain_of : List NamedKey → List PlainUnknown
plain_of listed = map (λ k. k.plain) listed

abbrev pub paths_of : List NamedKey → List ℕ
paths_of listed = flat_map (λ k. string_bytes k.path) listed

-- the answer of a status
abbrev pub unknown_answer : Status → ℕ → ℕ → UnknownAnswer
unknown_answer s count n = record { status = code s; count = count; length = n }

-- these keys stand at the front of the array, and their paths at that of the buffer; or they do not
-- fit there, and both are as they were
abbrev pub PutsKeys : List PlainUnknown → List ℕ → List PlainUnknown → List ℕ → UnknownAnswer
    → List PlainUnknown → List ℕ → Type 0
PutsKeys plain paths old old_paths answer new new_paths =
    ((length plain ≤ length old) × (length paths ≤ length old_paths)
    × (answer ≡ unknown_answer status.Done (length plain) (length paths))
    × (new ≡ plain ++ drop (length plain) old)
    × (new_paths ≡ paths ++ drop (length paths) old_paths))
    ⊎ (((length old < length plain) ⊎ (length old_paths < length paths))
    × (answer ≡ unknown_answer status.BufferTooShort (length plain) (length paths))
    × (new ≡ old) × (new_paths ≡ old_paths))

-- this status refuses, and both are as they were
abbrev pub RefusesKeys : Status → List PlainUnknown → List ℕ → UnknownAnswer → List PlainUnknown
    → List ℕ → Type 0
RefusesKeys s old old_paths answer new new_paths =
    (answer ≡ unknown_answer s 0 0) × (new ≡ old) × (new_paths ≡ old_paths)

-- some unknown keys of a text are put in its order, or there was no memory
abbrev pub PutsUnknown : List ℕ → List UnknownKey → List PlainUnknown → List ℕ → UnknownAnswer
    → List PlainUnknown → List ℕ → Type 0
PutsUnknown bytes keys old old_paths answer new new_paths =
    ((listed : List NamedKey) × ListsKeys bytes keys listed
    × PutsKeys (plain_of listed) (paths_of listed) old old_paths answer new new_paths)
    ⊎ RefusesKeys status.NoMemory old old_paths answer new new_paths

-- all unknown keys of a file are listed, or it is none, or there was no memory
abbrev pub ListsUnknown : List ℕ → List PlainUnknown → List ℕ → UnknownAnswer
    → List PlainUnknown → List ℕ → Type 0
ListsUnknown bytes old old_paths answer new new_paths =
    OfFile bytes
    (λ file. PutsUnknown bytes file.unknown.items old old_paths answer new new_paths)
    (λ unread. RefusesKeys (unread_status unread) old old_paths answer new new_paths)
