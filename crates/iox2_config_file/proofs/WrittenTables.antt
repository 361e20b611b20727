-- The tables of a configuration as they are written, and what a document holds after them.
use Rattle.std.proofs.Common.{◌≡◌, ℕ, ◌<◌, ◌^◌, ◌&&◌, Bool, true, false, List, [], ◌∷◌, ◌++◌, length, codes, map, take, drop, Option, Some, None, option_map, refl, ap, ◌∙◌, arith, append_assoc}
use Rattle.std.specs.Prelude.{flat_map, if◌then◌else◌}
use Rattle.std.specs.List.{list_all, filter_map}
use Rattle.toml_writer.specs.Text.{key_text, dotted_text, string_text, encoding_of, escaped, needs_escape, quotes_after}
use Rattle.toml_parser.specs.Lexical.{is_word}
use Rattle.toml_parser.specs.Strings.{Key}
use Rattle.toml_writer.proofs.Scalars.{IsWord-pos}
use Rattle.std.specs.Fmt.{decimal}
use Rattle.std.proofs.Math.Nat.{mod-lt}
use Rattle.std.proofs.lemmas.Bool.Decides.{nat_tests}
use Rattle.toml.specs.Parse.{parse_document}
use Rattle.toml.specs.Tables.{Node, Nodes, no_nodes, node, open_table, implicit, header, insert, close, Document, Expression, std_table, define, along_header, along_dots, at_key}
use Rattle.toml.proofs.ReadLines.{run}
use Rattle.toml.proofs.Fill.{run-append}
use Rattle.iox2_config.specs.Defaults.{IsDefaultConfig}
use Rattle.iox2_config.specs.declared.config.Config.{Config}
use Rattle.iox2_config.specs.declared.config.defaults.Event.{Event}
use Rattle.std.specs.declared.time.Duration.{Duration}
use Rattle.iox2_config_file.specs.declared.section.Section.{Section}
use Rattle.iox2_config_file.specs.declared.section.Section.TheVariants as section
use Rattle.iox2_config_file.specs.Read.{sections}
use Rattle.iox2_config_file.specs.Answers.{AreLegal}
use Rattle.iox2_config_file.specs.Settings.{is_line, Setting, event_settings, settings_in}
use Rattle.iox2_config_file.specs.Values.{SettingValue, text, settings}
use Rattle.iox2_config_file.specs.Write.{value_text, value_fits, section_misfits, located_misfits, misfits, IsHeaderText, IsTableText, IsTablesText, IsConfigText}
use Rattle.iox2_config_file.proofs.Reading.{Block, block_append, block_none, block_newline, block_comment, block_header, read_document}
use Rattle.iox2_config_file.proofs.Written.{Pair, lines_of, set_all, AreWritten, line_comment, is_comment, comments_append, rows_of, pair_of, entries_block}

-- the header of a table, as the reader has it
abbrev pub headers : Section → List Expression
headers section.Root = []
headers section.Global = (([], codes "global"), std_table) ∷ []
headers section.Service = ((codes "global" ∷ [], codes "service"), std_table) ∷ []
headers section.Node = ((codes "global" ∷ [], codes "node"), std_table) ∷ []
headers section.Defaults = []
headers section.PublishSubscribe =
    ((codes "defaults" ∷ [], codes "publish-subscribe"), std_table) ∷ []
headers section.Event = ((codes "defaults" ∷ [], codes "event"), std_table) ∷ []
headers section.RequestResponse =
    ((codes "defaults" ∷ [], codes "request-response"), std_table) ∷ []
headers section.Blackboard = ((codes "defaults" ∷ [], codes "blackboard"), std_table) ∷ []

-- the pairs of a table
abbrev pub pairs_in : Section → Config → List Pair
pairs_in s c = map pair_of (settings_in s c)

-- the lines of a table
abbrev pub table_lines : Config → Section → List Expression
table_lines c s = headers s ++ lines_of (pairs_in s c)

named_layout : (about name : List ℕ)
    → codes "\n# " ++ (about ++ (codes "\n[" ++ (name ++ codes "]\n")))
    ≡ (10 ∷ []) ++ ((35 ∷ ((32 ∷ about) ++ 10 ∷ [])) ++ 91 ∷ (name ++ codes "]\n"))
named_layout about name = simp append_assoc refl

named_block : (about name : List ℕ) (key : Key) → is_line about ≡ true → name ≡ dotted_text key
    → length key.0 < 80
    → Block (codes "\n# " ++ (about ++ (codes "\n[" ++ (name ++ codes "]\n"))))
    ((key, std_table) ∷ [])
named_block about name key line is short =
    let said = block_comment (32 ∷ about) (line_comment about line) in
    rw (named_layout, is)
    (block_append (10 ∷ []) _ [] _ block_newline
    (block_append _ _ [] _ said (block_header key short)))

head_block : (head name : List ℕ) (key : Key) → name ≡ dotted_text key → length key.0 < 80
    → (about : List ℕ) × (is_line about ≡ true)
    × (head ≡ codes "\n# " ++ (about ++ (codes "\n[" ++ (name ++ codes "]\n"))))
    → Block head ((key, std_table) ∷ [])
head_block head name key is short (about, line, whole) = grind (arith, named_block)

header_block : (s : Section) (head : List ℕ) → IsHeaderText s head → Block head (headers s)
unfolding key_text
header_block s head h = grind (arith, block_none, head_block)

abbrev pub AllWritten : Config → Config → Type 0
AllWritten default config =
    (s : Section) → AreWritten (settings_in s default) (settings_in s config)

table_block : (default config : Config) (s : Section) (table : List ℕ)
    → AreWritten (settings_in s default) (settings_in s config) → IsTableText default config s table
    → Block table (table_lines config s)
table_block default config s table written (head, entries, whole, headed, listed) =
    grind (arith, entries_block, lines_of, block_append, header_block)

tables_block : (default config : Config) (ss : List Section) (tables : List ℕ)
    → AllWritten default config → IsTablesText default config ss tables
    → Block tables (flat_map (table_lines config) ss)
tables_block default config [] tables written h = grind (arith, block_none)
tables_block default config (s ∷ ss) tables written (table, more, whole, this, rest) =
    grind (arith, block_append, table_block, tables_block default config ss more written rest)

title : List ℕ
title = codes " The settings of the middleware. A key that is left out has its default."

-- how the text of a configuration is read
pub written_is_read : (default config : Config) (bytes : List ℕ) → AllWritten default config
    → IsConfigText default config bytes
    → parse_document bytes
    ≡ option_map (λ doc. close doc.0)
    (run (no_nodes, []) (flat_map (table_lines config) sections))
unfolding title
written_is_read default config bytes written (tables, whole, h) =
    ap parse_document whole
    ∙ read_document title tables (flat_map (table_lines config) sections) refl
    (tables_block default config sections tables written h)

-- a list of all parts that are empty
none_of : {X : Type 0} (xs ys : List X) → xs ++ ys ≡ [] → (xs ≡ []) × (ys ≡ [])
none_of [] ys h = (refl, h)
none_of (x ∷ xs) ys h = absurd (omega (arith, ap length h))

-- nothing is made of nothing alone
pub no_items : {X Y : Type 0} (f : X → Y) (xs : List X) → map f xs ≡ [] → xs ≡ []
no_items f [] h = refl
no_items f (x ∷ xs) h = absurd (omega (arith, ap length h))

all_fit : (xs : List Setting)
    → filter_map (λ x. if value_fits x.value then None else Some x.key) xs ≡ []
    → list_all (λ x. value_fits x.value) xs ≡ true
all_fit [] h = refl
all_fit (x ∷ xs) h = grind (arith, all_fit xs)

abbrev NoneIn : Config → List Section → Type 0
NoneIn config [] = Unit {0}
NoneIn config (s ∷ ss) = (section_misfits s config ≡ []) × NoneIn config ss

none_in : (config : Config) (ss : List Section) → flat_map (located_misfits config) ss ≡ []
    → NoneIn config ss
none_in config [] h = tt
none_in config (s ∷ ss) h = grind (arith, none_of, no_items, none_in config ss)

none_at : (config : Config) → NoneIn config sections → (s : Section)
    → section_misfits s config ≡ []
none_at config h s = grind (arith, none_in config sections)

-- a configuration whose numbers TOML has
fit_in : (config : Config) → misfits config ≡ [] → (s : Section)
    → list_all (λ x. value_fits x.value) (settings_in s config) ≡ true
fit_in config h s = all_fit (settings_in s config) (none_at config (none_in config sections h) s)

-- the rows of a table are those of every configuration
pub rows_in_all : (one other : Config) (s : Section)
    → rows_of (settings_in s one) ≡ rows_of (settings_in s other)
rows_in_all one other s = grind arith

-- a value is written in one line
word_comment : (bytes : List ℕ) → list_all is_word bytes ≡ true → is_comment bytes ≡ true
word_comment [] all = refl
word_comment (c ∷ cs) all = grind (arith, nat_tests, word_comment cs)

decimal_comment : (n : ℕ) → n < 2 ^ 63 → is_comment (decimal n) ≡ true
decimal_comment n fits = word_comment (decimal n) (IsWord-pos n fits).all

abbrev is_text_line : SettingValue → Bool
is_text_line (text s) = is_comment (value_text (text s))
is_text_line settings = false
is_text_line _ = true

value_line : (v : SettingValue) → value_fits v ≡ true → is_text_line v ≡ true
    → is_comment (value_text v) ≡ true
value_line v fits line = grind (arith, decimal_comment, nat_tests, mod-lt, comments_append)

-- settings that are all written in one line each
abbrev AreShort : List Setting → Type 0
AreShort xs = list_all (λ x. value_fits x.value && is_text_line x.value) xs ≡ true

short_lines : (xs : List Setting) → AreShort xs
    → list_all (λ x. is_comment (value_text x.value)) xs ≡ true
short_lines [] h = refl
short_lines (x ∷ xs) h = grind (arith, value_line, short_lines xs)

short_in : (default : Config) → IsDefaultConfig default → (s : Section)
    → AreShort (settings_in s default)
unfolding string_text encoding_of escaped needs_escape quotes_after
short_in default h s = grind arith

-- all settings are written
pub all_written : (default config : Config) → IsDefaultConfig default → misfits config ≡ []
    → ((s : Section) → AreLegal (settings_in s config)) → AllWritten default config
all_written default config is fit legal s =
    grind (arith, rows_in_all, short_lines, short_in, fit_in)

-- what the tables of the document hold
abbrev pub table_nodes : Config → Section → Nodes
table_nodes c s = set_all (pairs_in s c) no_nodes

-- a table below the others of one
abbrev below : List ℕ → Config → Section → Nodes → Nodes
below key c s ns = insert key (open_table header (table_nodes c s)) ns

abbrev pub global_nodes : Config → Nodes
global_nodes c =
    below (codes "node") c section.Node
    (below (codes "service") c section.Service (table_nodes c section.Global))

abbrev pub defaults_nodes : Config → Nodes
defaults_nodes c =
    below (codes "blackboard") c section.Blackboard
    (below (codes "request-response") c section.RequestResponse
    (below (codes "event") c section.Event
    (below (codes "publish-subscribe") c section.PublishSubscribe no_nodes)))

abbrev at_global : Nodes → Nodes
at_global ns = insert (codes "global") (open_table header ns) no_nodes

abbrev at_defaults : Config → Nodes → Nodes
at_defaults c ns = insert (codes "defaults") (open_table implicit ns) (at_global (global_nodes c))

abbrev pub root_nodes : Config → Nodes
root_nodes c = at_defaults c (defaults_nodes c)

run_then : (doc next : Document) (es fs : List Expression) → run doc es ≡ Some next
    → run doc (es ++ fs) ≡ run next fs
run_then doc next es fs h = grind (arith, run-append, run)

-- the lines of some tables
abbrev lines_in : Config → List Section → List Expression
lines_in c ss = flat_map (table_lines c) ss

-- a document of `global` and of the tables in `defaults`
abbrev of_both : Node → Nodes → Nodes
of_both global defaults =
    node (codes "defaults") (open_table implicit defaults)
    (node (codes "global") global no_nodes)

abbrev of_samples : Node → Nodes
of_samples samples = node (codes "publish-subscribe") samples no_nodes

-- the lines up to those of events, which are all written
run_front : (c : Config) → run (no_nodes, []) (lines_in c (take 6 sections))
    ≡ Some (
      of_both (open_table header (global_nodes c))
          (of_samples (open_table header (table_nodes c section.PublishSubscribe))),
      codes "defaults" ∷ codes "publish-subscribe" ∷ [],
    )
unfolding define along_header along_dots at_key
run_front c = refl

-- the settings of events with these that may be left out
abbrev with_options : Event → Option Duration → Option ℕ → Option ℕ → Option ℕ → List Pair
with_options e deadline created dropped dead =
    map pair_of (event_settings (record e {
      deadline = deadline;
      notifier_created_event = created;
      notifier_dropped_event = dropped;
      notifier_dead_event = dead;
    }))

run_events : (e : Event) (d : Option Duration) (x y z : Option ℕ) (global samples : Node)
    → run (of_both global (of_samples samples), codes "defaults" ∷ codes "publish-subscribe" ∷ [])
    (headers section.Event ++ lines_of (with_options e d x y z))
    ≡ Some (
      of_both global
          (node (codes "event") (open_table header (set_all (with_options e d x y z) no_nodes))
          (of_samples samples)),
      codes "defaults" ∷ codes "event" ∷ [],
    )
unfolding define along_header along_dots at_key
run_events e None None None None global samples = refl
run_events e None None None (Some z) global samples = refl
run_events e None None (Some y) None global samples = refl
run_events e None None (Some y) (Some z) global samples = refl
run_events e None (Some x) None None global samples = refl
run_events e None (Some x) None (Some z) global samples = refl
run_events e None (Some x) (Some y) None global samples = refl
run_events e None (Some x) (Some y) (Some z) global samples = refl
run_events e (Some d) None None None global samples = refl
run_events e (Some d) None None (Some z) global samples = refl
run_events e (Some d) None (Some y) None global samples = refl
run_events e (Some d) None (Some y) (Some z) global samples = refl
run_events e (Some d) (Some x) None None global samples = refl
run_events e (Some d) (Some x) None (Some z) global samples = refl
run_events e (Some d) (Some x) (Some y) None global samples = refl
run_events e (Some d) (Some x) (Some y) (Some z) global samples = refl

-- the lines below those of events
run_back : (c : Config) (events : Nodes) (global samples : Node)
    → run (
      of_both global (node (codes "event") (open_table header events) (of_samples samples)),
      codes "defaults" ∷ codes "event" ∷ [],
    ) (lines_in c (drop 7 sections))
    ≡ Some (
      of_both global
          (below (codes "blackboard") c section.Blackboard
          (below (codes "request-response") c section.RequestResponse
          (node (codes "event") (open_table header events) (of_samples samples)))),
      codes "defaults" ∷ codes "blackboard" ∷ [],
    )
unfolding define along_header along_dots at_key
run_back c events global samples = refl

-- all lines of a configuration
pub run_all : (c : Config) → run (no_nodes, []) (lines_in c sections)
    ≡ Some (root_nodes c, codes "defaults" ∷ codes "blackboard" ∷ [])
run_all c =
    let e = c.defaults.event in
    let global = open_table header (global_nodes c) in
    let samples = open_table header (table_nodes c section.PublishSubscribe) in
    run_then _ _ (lines_in c (take 6 sections)) (lines_in c (drop 6 sections)) (run_front c)
    ∙ run_then _ _ (table_lines c section.Event) (lines_in c (drop 7 sections))
    (run_events e e.deadline e.notifier_created_event e.notifier_dropped_event
    e.notifier_dead_event global samples)
    ∙ run_back c (table_nodes c section.Event) global samples
