-- What is read of the text of a configuration.
use Rattle.std.proofs.Common.{◌≡◌, ℕ, Bool, true, List, [], ◌∷◌, ◌++◌, map, Option, Some, None, option_map, Result, Ok, Err, IfOk, IfErr, string_bytes, ◌∙◌, refl, sym, ap, subst, length, arith, rules}
use Rattle.std.specs.Prelude.{not, ◌||◌, String}
use Rattle.std.specs.List.{filter_map}
use Rattle.std.proofs.lemmas.List.Elements.{filter_map-append}
use Rattle.std.specs.declared.alloc.Global.{Global}
use Rattle.toml.specs.Data.{Data, Members, get_member}
use Rattle.toml.specs.Parse.{parse_document}
use Rattle.toml.specs.Tables.{Nodes, no_nodes, node, value, get_node, close, close_node}
use Rattle.iox2_config.specs.Defaults.{IsDefaultConfig}
use Rattle.iox2_config.specs.declared.config.Config.{Config}
use Rattle.iox2_config_file.specs.declared.fault.Kind.{Kind}
use Rattle.iox2_config_file.specs.declared.fault.Kind.TheVariants as kind
use Rattle.iox2_config_file.specs.declared.section.Section.{Section}
use Rattle.iox2_config_file.specs.declared.section.Section.TheVariants as section
use Rattle.iox2_config_file.specs.Read.{IsSettingsOf, fault_view, read_setting, section_members, rows_in, row_fault, section_faults, faults_in}
use Rattle.iox2_config_file.specs.declared.read.ConfigFileError.{ConfigFileError}
use Rattle.iox2_config_file.specs.declared.read.ConfigFileError.TheVariants as error
use Rattle.iox2_config_file.specs.declared.read.FileContents.{FileContents}
use Rattle.iox2_config_file.specs.declared.write.ConfigWriteError.{ConfigWriteError}
use Rattle.iox2_config_file.specs.Answers.{HasNoFault, IsConfigOf, IsUnparsed, ReadsAll, AreConfig, AreLegal, AreSame, ReadsBack, IsNoMemory}
use Rattle.iox2_config_file.specs.Settings.{Setting, settings_in, tables_in, global_settings, service_settings, node_settings}
use Rattle.iox2_config_file.specs.Unknown.{is_known, unknown_view, unknown_at, unknown_among, section_unknown, unknown_in}
use Rattle.iox2_config_file.specs.Values.{SettingValue, value_or}
use Rattle.iox2_config_file.specs.Write.{value_is_set, misfits, IsConfigText, WritesOver}
use Rattle.iox2_config_file.proofs.Written.{Pair, AreWritten, Keeps, keeps, data_at, pair_of, rows_of, are_set, rest_written}
use Rattle.iox2_config_file.proofs.WrittenTables.{AllWritten, all_written, rows_in_all, pairs_in, no_items, table_nodes, global_nodes, defaults_nodes, root_nodes, run_all, written_is_read}

-- each pair's key holds what is written at it
abbrev AllHold : Nodes → List Pair → Type 0
AllHold ns [] = Unit {0}
AllHold ns (p ∷ ps) = (get_node p.0 ns ≡ option_map value p.1) × AllHold ns ps

-- every key of the table passes
abbrev AllKeys : (List ℕ → Bool) → Nodes → Type 0
AllKeys test no_nodes = Unit {0}
AllKeys test (node k x ns) = (test k ≡ true) × AllKeys test ns

-- what a key of the closed table holds
get_closed : (k : List ℕ) (ns : Nodes)
    → get_member k (close ns) ≡ option_map close_node (get_node k ns)
get_closed k no_nodes = refl
get_closed k (node l x ns) = grind (arith, get_closed k ns)

-- what stands in a table of the document
abbrev pub nodes_in : Config → Section → Nodes
nodes_in c section.Root = root_nodes c
nodes_in c section.Global = global_nodes c
nodes_in c section.Defaults = defaults_nodes c
nodes_in c s = table_nodes c s

abbrev pub file_of : Config → Members
file_of c = close (root_nodes c)

members_in : (c : Config) (s : Section) → section_members s (file_of c) ≡ close (nodes_in c s)
members_in c s = grind arith

holds_in : (c : Config) (s : Section) → AllHold (nodes_in c s) (pairs_in s c)
holds_in c s = grind arith

-- ---- settings

member_is : (k : List ℕ) (ns : Nodes) (o : Option Data) → get_node k ns ≡ option_map value o
    → get_member k (close ns) ≡ o
member_is k ns o h = grind (arith, get_closed)

value_is : (k : Kind) (d v : SettingValue) (o : Option Data) → Keeps k v o
    → (not (value_is_set d) || value_is_set v) ≡ true → value_or k d o ≡ v
value_is k d v o kept set = grind arith

-- the row of a setting
abbrev row_of : Setting → List ℕ × Kind
row_of x = (x.key, x.kind)

setting_is : (ns : Nodes) (d x : Setting) → row_of d ≡ row_of x
    → get_node x.key ns ≡ option_map value (data_at x.value)
    → Keeps x.kind x.value (data_at x.value)
    → (not (value_is_set d.value) || value_is_set x.value) ≡ true
    → read_setting (close ns) d ≡ x
setting_is ns d x same holds kept set =
    let found = member_is x.key ns (data_at x.value) holds in
    let is = value_is x.kind d.value x.value (data_at x.value) kept set in
    grind arith

settings_are : (ns : Nodes) (ds xs : List Setting) → AreWritten ds xs → are_set ds xs ≡ true
    → AllHold ns (map pair_of xs) → map (read_setting (close ns)) ds ≡ xs
settings_are ns [] [] h set holds = refl
settings_are ns [] (x ∷ xs) h set holds = absurd (omega (arith, ap length h.rows))
settings_are ns (d ∷ ds) [] h set holds = absurd (omega (arith, ap length h.rows))
settings_are ns (d ∷ ds) (x ∷ xs) h set holds =
    let below = settings_are ns ds xs (rest_written d x ds xs h) in
    grind (arith, setting_is ns d x, keeps, h.rows)

abbrev AreSet : List Setting → List Setting → Type 0
AreSet ds xs = are_set ds xs ≡ true

-- a setting that may be left out is left out by default
set_in : (default config : Config) → IsDefaultConfig default → (s : Section)
    → AreSet (settings_in s default) (settings_in s config)
set_in default config h s = grind arith

-- ---- faults

row_right : (s : Section) (ns : Nodes) (x : Setting)
    → get_node x.key ns ≡ option_map value (data_at x.value)
    → Keeps x.kind x.value (data_at x.value)
    → row_fault s (close ns) (row_of x) ≡ None
row_right s ns x holds kept =
    let found = member_is x.key ns (data_at x.value) holds in grind arith

settings_right : (s : Section) (ns : Nodes) (ds xs : List Setting) → AreWritten ds xs
    → AllHold ns (map pair_of xs) → filter_map (row_fault s (close ns)) (rows_of xs) ≡ []
settings_right s ns ds [] h holds = refl
settings_right s ns [] (x ∷ xs) h holds = absurd (omega (arith, ap length h.rows))
settings_right s ns (d ∷ ds) (x ∷ xs) h holds =
    let more = settings_right s ns ds xs (rest_written d x ds xs h) in
    grind (arith, row_right s ns x, keeps)

-- the tables in a table are tables
abbrev table_rows : Section → List (List ℕ × Kind)
table_rows s = map (λ k. (k, kind.Table)) (tables_in s)

tables_right : (c : Config) (s : Section)
    → filter_map (row_fault s (close (nodes_in c s))) (table_rows s) ≡ []
tables_right c s = grind arith

both_none : {X : Type 0} (xs ys : List X) → xs ≡ [] → ys ≡ [] → xs ++ ys ≡ []
both_none xs ys one other = cc

section_right : (default config c : Config) → AllWritten default config → (s : Section)
    → section_faults c (file_of config) s ≡ []
unfolding section_faults
section_right default config c written s =
    let right = settings_right s (nodes_in config s) _ _ (written s) (holds_in config s) in
    rw (members_in config s, rows_in_all c config s, filter_map-append, right)
    (tables_right config s)

no_faults : (default config c : Config) → AllWritten default config
    → faults_in c (file_of config) ≡ []
unfolding faults_in
no_faults default config c written = search (rules, arith, both_none, section_right)

-- ---- unknown keys

known_among : (c : Config) (s : Section) (ns : Nodes)
    → AllKeys (λ k. is_known k (rows_in s c)) ns → unknown_among c s (close ns) ≡ []
unfolding unknown_at
known_among c s no_nodes all = refl
known_among c s (node k x ns) all = grind (arith, known_among c s ns)

abbrev AreKnown : Section → Config → Nodes → Type 0
AreKnown s c ns = AllKeys (λ k. is_known k (rows_in s c)) ns

known_in : (c : Config) (s : Section) → AreKnown s c (nodes_in c s)
known_in c s = grind arith

section_known : (config c : Config) (s : Section) → section_unknown c (file_of config) s ≡ []
unfolding section_unknown
section_known config c s =
    let known : AreKnown s c (nodes_in config s) =
    subst (λ rows. AllKeys (λ k. is_known k (rows ++ table_rows s)) (nodes_in config s))
    (sym (rows_in_all c config s)) (known_in config s) in
    rw (members_in config s) (known_among c s (nodes_in config s) known)

none_unknown : (config c : Config) → unknown_in c (file_of config) ≡ []
unfolding unknown_in
none_unknown config c = search (rules, arith, section_known)

-- ---- all of it

settings_back : (default config : Config) → IsDefaultConfig default → AllWritten default config
    → IsSettingsOf default (file_of config) config
settings_back default config is written s =
    let holds = holds_in config s in
    rw (members_in config s)
    (sym (settings_are _ _ _ (written s) (set_in default config is s) holds))

-- the text of a configuration is read as that configuration
pub reads_back : (default config : Config) (bytes : List ℕ) → IsDefaultConfig default
    → misfits config ≡ [] → ((s : Section) → AreLegal (settings_in s config))
    → IsConfigText default config bytes → ReadsBack config bytes
reads_back default config bytes is fit legal written =
    let all = all_written default config is fit legal in (
      file_of config,
      rw (written_is_read default config bytes all written, run_all),
      λ c. no_faults default config c all,
      λ other is. settings_back other config is (all_written other config is fit legal),
      none_unknown config,
    )

legal_in : (config : Config) → AreLegal (global_settings config.global)
    → AreLegal (service_settings config.global.service)
    → AreLegal (node_settings config.global.node)
    → (s : Section) → AreLegal (settings_in s config)
legal_in config whole services nodes s = grind arith

-- what is written is read back
pub wrote_back : (default config : Config) (r : Result (String Global) ConfigWriteError)
    → IsDefaultConfig default → AreLegal (global_settings config.global)
    → AreLegal (service_settings config.global.service)
    → AreLegal (node_settings config.global.node)
    → WritesOver default config r → IfOk r (λ text. ReadsBack config (string_bytes text))
wrote_back default config (Ok written) is whole services nodes (fit, text_is) =
    search (rules, reads_back, legal_in)
wrote_back default config (Err e) is whole services nodes h = tt

-- ---- reading it

-- the file is the one that was written
same_file : (bytes : List ℕ) (one other : Members) → parse_document bytes ≡ Some one
    → parse_document bytes ≡ Some other → other ≡ one
same_file bytes one other parsed shown = cc

-- a file without faults gives settings
config_back : (config : Config) (file : Members) (default : Config) (found : Option Config)
    → HasNoFault file → IsSettingsOf default file config → IsConfigOf default file found
    → (back : Config) × (found ≡ Some back) × AreSame back config
config_back config file default None allowed set (first, is_first) =
    let none = allowed config in let some = is_first config in absurd (grind arith)
config_back config file default (Some back) allowed set (_, is) =
    (back, refl, λ s. is s ∙ sym (set s))

pub config_is_back : (config : Config) (bytes : List ℕ)
    (r : Result FileContents ConfigFileError) → ReadsBack config bytes → IfOk r (ReadsAll bytes)
    → IfOk r (AreConfig config)
config_is_back config bytes (Ok read) (file, parsed, allowed, set, known) all =
    let same = same_file bytes file all.file parsed all.parsed in
    let (back, is, are_same) =
    config_back config all.file all.default read.config (subst HasNoFault (sym same) allowed)
    (subst (λ f. IsSettingsOf all.default f config) (sym same) (set all.default all.is_default))
    all.config in record {
      back = back;
      read = is;
      same = are_same;
      allowed = no_items fault_view read.faults.items
          (rw (same, allowed config) at (all.faults config));
      known = no_items unknown_view read.unknown.items
          (rw (same, known config) at (all.unknown config));
    }
config_is_back config bytes (Err e) back h = tt

pub only_memory : (config : Config) (bytes : List ℕ) (r : Result FileContents ConfigFileError)
    → ReadsBack config bytes → IfErr r (IsUnparsed bytes) → IfErr r IsNoMemory
only_memory config bytes (Ok read) back h = tt
only_memory config bytes (Err (error.Syntax e)) back h = grind arith
only_memory config bytes (Err (error.NoMemory e)) back h = tt
