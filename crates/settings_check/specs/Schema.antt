-- The JSON Schema of files of settings.
use Rattle.std.specs.Prelude.{◌≡◌, ℕ, Bool, true, false, List, [], ◌∷◌, ◌++◌, codes, map, drop, if◌then◌else◌}
use Rattle.iox2_config.specs.declared.config.Config.{Config}
use Rattle.iox2_config_file.specs.declared.fault.Kind.{Kind}
use Rattle.iox2_config_file.specs.declared.fault.Kind.TheVariants as kind
use Rattle.iox2_config_file.specs.declared.section.Row.{Row}
use Rattle.iox2_config_file.specs.declared.section.Section.{Section}
use Rattle.iox2_config_file.specs.declared.section.Section.TheVariants as section
use Rattle.iox2_config_file.specs.Read.{row_view, rows_in, sections}
use Rattle.iox2_config_file.specs.Settings.{are_lines, prefix_of}
use Rattle.iox2_config_file.specs.Write.{InTurn}
use Rattle.settings_check.specs.declared.schema.TheConstants.{HEAD, DEFINITIONS, TAIL}

-- what the value of a key may be, but for which table
abbrev pub kind_schema : Kind → List ℕ
kind_schema kind.Table = codes "\"type\": \"object\""
kind_schema kind.Number =
    codes "\"type\": \"integer\", \"minimum\": 0, \"maximum\": 9223372036854775807"
kind_schema kind.Flag = codes "\"type\": \"boolean\""
kind_schema kind.Path =
    codes "\"type\": \"string\", \"maxLength\": 255, \"pattern\": \"^[\\\\u0001-\\\\u007f]*$\""
kind_schema kind.FileName =
    codes "\"type\": \"string\", \"maxLength\": 255, "
    ++ codes "\"pattern\": \"^(?!\\\\.{1,2}$)[\\\\u0001-.0-\\\\u007f]+$\""
kind_schema kind.Backpressure = codes "\"enum\": [\"RetryUntilDelivered\", \"DiscardData\"]"
kind_schema kind.Allocation = codes "\"enum\": [\"BestFit\", \"PowerOfTwo\", \"Static\"]"
kind_schema kind.Duration = codes "\"allOf\": [{\"$ref\": \"#/definitions/duration\"}]"

-- what the value of a key may be: of a table the definition of that table
abbrev pub schema_of : Kind → Section → List ℕ → List ℕ
schema_of kind.Table s key =
    codes "\"allOf\": [{\"$ref\": \"#/definitions/" ++ (prefix_of s ++ (key ++ codes ".\"}]"))
schema_of other s key = kind_schema other

abbrev pub value_schema : Section → Row → List ℕ
value_schema s row = schema_of row.kind s row.key.now

-- a key, with what it means and what its value may be
abbrev pub property : Section → Row → List ℕ
property s row =
    codes "    \"" ++ (row.key.now ++ (codes "\": {\"description\": \""
    ++ (row.about.now ++ (codes "\", " ++ (value_schema s row ++ codes "}")))))

-- what stands between two
abbrev pub comma_if : Bool → List ℕ
comma_if is_first = if is_first then [] else codes ",\n"

-- some keys, one behind the other
abbrev pub properties : Section → Bool → List Row → List ℕ
properties s is_first [] = []
properties s is_first (row ∷ rows) =
    comma_if is_first ++ (property s row ++ properties s false rows)

-- the rows are those of the table, and what is said of each may stand in JSON as it is
abbrev pub IsTable : Section → List Row → Type 0
IsTable s rows = ((c : Config) → map row_view rows ≡ rows_in s c) × (are_lines rows ≡ true)

-- what a table may have: its keys, and no other
abbrev pub object_schema : Section → List Row → List ℕ
object_schema s rows =
    codes "  \"type\": \"object\", \"additionalProperties\": false,\n  \"properties\": {\n"
    ++ (properties s true rows ++ codes "\n  }")

-- it is appended
abbrev pub HasObject : Section → List ℕ → List ℕ → Type 0
HasObject s old new = (rows : List Row) × IsTable s rows × (new ≡ old ++ object_schema s rows)

-- the name of a table, and the table
abbrev pub definition_of : Section → List Row → List ℕ
definition_of s rows =
    (codes "  \"" ++ (prefix_of s ++ codes "\": {\n")) ++ (object_schema s rows ++ codes "},\n")

abbrev pub IsDefinition : Section → List ℕ → Type 0
IsDefinition s text = (rows : List Row) × IsTable s rows × (text ≡ definition_of s rows)

-- a duration: both numbers must be there, and no other key
abbrev pub duration_definition : List ℕ
duration_definition =
    codes "  \"duration\": {\n"
    ++ (codes "  \"type\": \"object\", \"additionalProperties\": false, "
    ++ (codes "\"required\": [\"secs\", \"nanos\"],\n  \"properties\": {\n"
    ++ (codes "    \"secs\": {\"type\": \"integer\", \"minimum\": 0, "
    ++ (codes "\"maximum\": 9223372036854775807},\n"
    ++ (codes "    \"nanos\": {\"type\": \"integer\", \"minimum\": 0, "
    ++ codes "\"maximum\": 4294967295}\n  }}\n")))))

-- the whole: the top of the file, the other tables, and a duration
abbrev pub IsSchema : List ℕ → Type 0
IsSchema text =
    (rows : List Row) × (others : List ℕ)
    × IsTable section.Root rows × InTurn IsDefinition (drop 1 sections) others
    × (text ≡ HEAD.now ++ (object_schema section.Root rows
    ++ (DEFINITIONS.now ++ (others ++ (duration_definition ++ TAIL.now)))))
