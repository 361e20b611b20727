-- What is written for a configuration.
use Rattle.std.specs.Prelude.{◌≡◌, ℕ, ◌/◌, ◌%◌, ◌^◌, Bool, true, false, if◌then◌else◌, nat_lt, List, [], ◌∷◌, ◌++◌, codes, map, flat_map, Option, Some, None, Result, Ok, Err, String, string_bytes, ⊤}
use Rattle.std.specs.List.{filter_map}
use Rattle.std.specs.declared.alloc.Global.{Global}
use Rattle.std.specs.Fmt.{decimal}
use Rattle.std.specs.Duration.{as_nanos}
use Rattle.iox2_config.specs.declared.config.choices.BackpressureStrategy.TheVariants.{RetryUntilDelivered, DiscardData}
use Rattle.iox2_config.specs.declared.config.choices.AllocationStrategy.TheVariants.{BestFit, PowerOfTwo, Static}
use Rattle.iox2_config.specs.Defaults.{IsDefaultConfig}
use Rattle.iox2_config.specs.declared.config.Config.{Config}
use Rattle.iox2_config_file.specs.declared.section.Row.{Row}
use Rattle.iox2_config_file.specs.declared.section.Section.{Section}
use Rattle.iox2_config_file.specs.declared.value.SettingValue.{SettingValue as Held}
use Rattle.iox2_config_file.specs.declared.value.SettingValue.TheVariants as held
use Rattle.iox2_config_file.specs.declared.write.ConfigWriteError.{ConfigWriteError}
use Rattle.iox2_config_file.specs.declared.write.ConfigWriteError.TheVariants.{OutOfRange, NoMemory}
use Rattle.iox2_config_file.specs.declared.write.Misfit.{Misfit}
use Rattle.iox2_config_file.specs.declared.write.TheConstants.{TITLE}
use Rattle.iox2_config_file.specs.Read.{sections, rows_in, row_view}
use Rattle.iox2_config_file.specs.Settings.{header_name, is_line, are_lines, Setting, settings_in}
use Rattle.iox2_config_file.specs.Values.{SettingValue, number, flag, text, backpressure, allocation, duration, absent, settings}
use Rattle.toml_parser.specs.Lexical.{line_feed}
use Rattle.toml_writer.specs.Text.{has, key_text, string_text}

-- what a setting holds, as the table of settings says it
abbrev pub value_view : Held → SettingValue
value_view (held.Number n) = number n
value_view (held.Flag b) = flag b
value_view (held.Text s) = text s.now
value_view (held.Backpressure b) = backpressure b
value_view (held.Allocation a) = allocation a
value_view (held.Duration d) = duration (as_nanos d)
value_view held.Absent = absent

-- a text as TOML writes it, in one line: one that has a newline as it is written where it is a key
abbrev pub text_line : List ℕ → List ℕ
text_line s = if has line_feed s then key_text s else string_text s

-- a value as TOML writes it, in one line
abbrev pub value_text : SettingValue → List ℕ
value_text (number n) = decimal n
value_text (flag true) = codes "true"
value_text (flag false) = codes "false"
value_text (text s) = text_line s
value_text (backpressure RetryUntilDelivered) = codes "\"RetryUntilDelivered\""
value_text (backpressure DiscardData) = codes "\"DiscardData\""
value_text (allocation BestFit) = codes "\"BestFit\""
value_text (allocation PowerOfTwo) = codes "\"PowerOfTwo\""
value_text (allocation Static) = codes "\"Static\""
value_text (duration n) =
    codes "{ nanos = " ++ decimal (n % 1_000_000_000)
    ++ (codes ", secs = " ++ (decimal (n / 1_000_000_000) ++ codes " }"))
value_text absent = codes "not set"
value_text settings = []

-- TOML has the value: no number is above 2^63 - 1
abbrev pub value_fits : SettingValue → Bool
value_fits (number n) = nat_lt n (2 ^ 63)
value_fits (duration n) = nat_lt (n / 1_000_000_000) (2 ^ 63)
value_fits _ = true

-- it is anything
abbrev pub value_is_set : SettingValue → Bool
value_is_set absent = false
value_is_set _ = true

-- what stands below the comment of a setting
abbrev pub assignment : List ℕ → SettingValue → List ℕ
assignment key value =
    if value_is_set value then key ++ (codes " = " ++ (value_text value ++ codes "\n"))
    else codes "# " ++ (key ++ codes " is not set\n")

-- a setting below a comment that says what it is, and what it is by default
abbrev pub entry_text : Row → SettingValue → SettingValue → List ℕ
entry_text row default value =
    codes "\n# " ++ (row.about.now ++ (codes " By default " ++ (value_text default ++ (codes ".\n"
    ++ assignment row.key.now value))))

-- settings, each with its row and its default
abbrev pub entries_text : List Row → List Setting → List Setting → List ℕ
entries_text (row ∷ rows) (default ∷ defaults) (x ∷ xs) =
    entry_text row default.value x.value ++ entries_text rows defaults xs
entries_text _ _ _ = []

-- all settings of a table, below comments of one line each
abbrev pub IsEntriesText : Config → Config → Section → List ℕ → Type 0
IsEntriesText default config s entries =
    (rows : List Row) × (map row_view rows ≡ rows_in s config) × (are_lines rows ≡ true)
    × (entries ≡ entries_text rows (settings_in s default) (settings_in s config))

-- the header of this name, below a comment of one line that says what the table is
abbrev pub IsHeader : Option (List ℕ) → List ℕ → Type 0
IsHeader None head = head ≡ []
IsHeader (Some name) head =
    (about : List ℕ) × (is_line about ≡ true)
    × (head ≡ codes "\n# " ++ (about ++ (codes "\n[" ++ (name ++ codes "]\n"))))

abbrev pub IsHeaderText : Section → List ℕ → Type 0
IsHeaderText s head = IsHeader (header_name s) head

-- a table: its header, and below it its settings
abbrev pub IsTableText : Config → Config → Section → List ℕ → Type 0
IsTableText default config s table =
    (head : List ℕ) × (entries : List ℕ) × (table ≡ head ++ entries) × IsHeaderText s head
    × IsEntriesText default config s entries

-- what some things give, one after the other
abbrev pub InTurn : {A B : Type 0} → (B → List A → Type 0) → List B → List A → Type 0
InTurn Gives [] all = all ≡ []
InTurn {A} Gives (x ∷ xs) all =
    (first : List A) × (more : List A) × (all ≡ first ++ more) × Gives x first
    × InTurn Gives xs more

-- tables, one after the other
abbrev pub IsTablesText : Config → Config → List Section → List ℕ → Type 0
IsTablesText default config = InTurn (IsTableText default config)

-- the text of a configuration: all tables with all settings
abbrev pub IsConfigText : Config → Config → List ℕ → Type 0
IsConfigText default config bytes =
    (tables : List ℕ) × (bytes ≡ TITLE.now ++ tables) × IsTablesText default config sections tables

-- the keys of the settings of a table whose values TOML does not have
abbrev pub section_misfits : Section → Config → List (List ℕ)
section_misfits s config =
    filter_map (λ x. if value_fits x.value then None else Some x.key) (settings_in s config)

-- the same, each with its table
abbrev pub located_misfits : Config → Section → List (Section × List ℕ)
located_misfits config s = map (λ key. (s, key)) (section_misfits s config)

-- the settings whose values TOML does not have, each with its table
abbrev pub misfits : Config → List (Section × List ℕ)
misfits config = flat_map (located_misfits config) sections

-- the first of some settings
abbrev pub FirstMisfitOf : List (Section × List ℕ) → Option Misfit → Type 0
FirstMisfitOf found None = found ≡ []
FirstMisfitOf found (Some misfit) =
    (more : List (Section × List ℕ)) × (found ≡ (misfit.section, misfit.key.now) ∷ more)

-- the first setting whose value TOML does not have
abbrev pub FirstMisfit : Config → Option Misfit → Type 0
FirstMisfit config = FirstMisfitOf (misfits config)

-- what is written for a configuration, or why nothing is
abbrev pub WritesOver : Config → Config → Result (String Global) ConfigWriteError → Type 0
WritesOver default config (Ok written) =
    (misfits config ≡ []) × IsConfigText default config (string_bytes written)
WritesOver default config (Err (OutOfRange misfit)) = FirstMisfit config (Some misfit)
WritesOver default config (Err NoMemory) = ⊤

-- the same with the defaults of the middleware
abbrev pub Writes : Config → Result (String Global) ConfigWriteError → Type 0
Writes config result =
    (default : Config) × IsDefaultConfig default × WritesOver default config result
