-- The settings of a table beside its rows, and the tables of a file, one after the other. There is
-- a row for each field: settings of equal rows are equal.
use Rattle.std.proofs.Common.{◌≡◌, ℕ, zero, suc, ◌+◌, ◌≤◌, true, false, cond, List, [], ◌∷◌, ◌++◌, length, map, drop, slice_get, Option, Some, None, refl, sym, ap, ◌∙◌, subst, add-one, append_assoc, append-nil, arith, length-append, drop_of_length-le, rules, ◌<◌, get_or, drop-cons}
use Rattle.std.specs.List.{filter_map}
use Rattle.std.proofs.lemmas.List.{length-map, length-drop}
use Rattle.std.proofs.lemmas.Option.{none-some, same_Some, slice_get-map}
use Rattle.iox2_config_file.specs.declared.fault.Kind.{Kind}
use Rattle.iox2_config_file.specs.declared.section.Row.{Row}
use Rattle.iox2_config_file.specs.Read.{row_view}
use Rattle.iox2_config_file.specs.Settings.{Setting, held_at, global_settings, service_settings, node_settings, publish_subscribe_settings, event_settings, request_response_settings, blackboard_settings}
use Rattle.iox2_config_file.specs.Values.{SettingValue, number, duration, option_value}
use Rattle.iox2_config_file.specs.Write.{value_fits, entry_text, entries_text, section_misfits, located_misfits, InTurn}
use Rattle.std.specs.Prelude.{flat_map, option_map}
use Rattle.iox2_config.specs.declared.config.Config.{Config}
use Rattle.iox2_config_file.specs.declared.section.Section.{Section}
use Rattle.std.specs.Duration.{as_nanos}
use Rattle.std.specs.declared.time.Duration.{Duration}
use Rattle.iox2_config.specs.declared.config.defaults.Blackboard.{Blackboard}
use Rattle.iox2_config.specs.declared.config.defaults.Event.{Event}
use Rattle.iox2_config.specs.declared.config.global.Node.{Node}
use Rattle.iox2_config.specs.declared.config.defaults.PublishSubscribe.{PublishSubscribe}
use Rattle.iox2_config.specs.declared.config.defaults.RequestResonse.{RequestResonse}
use Rattle.iox2_config.specs.declared.config.global.Service.{Service}
use Rattle.iox2_config_file.specs.Answers.{HaveEqualFields, AreSame}
use Rattle.iox2_config_file.specs.declared.section.Section.TheVariants as section
use Rattle.iox2_config.specs.GlobalSettings.{GlobalSettings}

-- the key of a setting whose value TOML does not have
abbrev pub misfit : Setting → Option (List ℕ)
misfit x = cond (value_fits x.value) None (Some x.key)

abbrev pub keyed : Setting → List ℕ × Kind
keyed x = (x.key, x.kind)

-- no setting has this number
pub past : (xs : List Setting) (i : ℕ) → held_at xs i ≡ None → drop i xs ≡ []
past [] zero h = refl
past [] (suc i) h = refl
past (x ∷ xs) zero h = absurd (none-some _ (sym h))
past (x ∷ xs) (suc i) h = past xs i h

-- a setting has this number
pub here : (xs : List Setting) (i : ℕ) (v : SettingValue) → held_at xs i ≡ Some v
    → (x : Setting) × (drop i xs ≡ x ∷ drop (suc i) xs) × (x.value ≡ v) × (slice_get xs i ≡ Some x)
here [] i v h = absurd (none-some v h)
here (x ∷ xs) zero v h = (x, refl, same_Some _ v h, refl)
here (x ∷ xs) (suc i) v h = here xs i v h

-- past the last setting nothing more is found
pub misfits_past : (xs : List Setting) (i : ℕ) → held_at xs i ≡ None
    → filter_map misfit (drop (i + 1) xs) ≡ filter_map misfit (drop i xs)
misfits_past xs i h =
    let none = past xs i h in
    let more : drop (i + 1) xs ≡ [] =
    drop_of_length-le xs (omega (arith, length-drop i xs, ap length none)) in
    cc

-- a setting that fits is passed over
pub misfits_fit : (xs : List Setting) (i : ℕ) (v : SettingValue) → held_at xs i ≡ Some v
    → value_fits v ≡ true → filter_map misfit (drop (i + 1) xs) ≡ filter_map misfit (drop i xs)
misfits_fit xs i v h fits = grind (arith, here, add-one)

front : {A : Type 0} (xs ys : List A) (i : ℕ) (x : A) → slice_get xs i ≡ Some x
    → slice_get (xs ++ ys) i ≡ Some x
front [] ys i x h = absurd (none-some x h)
front (a ∷ xs) ys zero x h = h
front (a ∷ xs) ys (suc i) x h = front xs ys i x h

-- the row of a setting has its key
pub row_key : (rows : List Row) (xs : List Setting) (more : List (List ℕ × Kind)) (i : ℕ)
    (x : Setting) (r : Row) → map row_view rows ≡ map keyed xs ++ more → slice_get xs i ≡ Some x
    → slice_get rows i ≡ Some r → r.key.now ≡ x.key
row_key rows xs more i x r same at row =
    let keyed_at = slice_get-map keyed xs i in
    let viewed = slice_get-map row_view rows i in
    grind (arith, front)

-- a setting that does not fit is the first that is found
pub misfits_here : (rows : List Row) (xs : List Setting) (more : List (List ℕ × Kind)) (i : ℕ)
    (v : SettingValue) (r : Row) → map row_view rows ≡ map keyed xs ++ more
    → held_at xs i ≡ Some v → value_fits v ≡ false → slice_get rows i ≡ Some r
    → Some r.key.now ≡ slice_get (filter_map misfit (drop i xs)) 0
misfits_here rows xs more i v r same h fits row =
    let (x, split, value, there) = here xs i v h in
    let key = row_key rows xs more i x r same there row in grind arith

-- there are no more settings than rows
pub misfits_end : (rows : List Row) (xs : List Setting) (more : List (List ℕ × Kind)) (i : ℕ)
    → map row_view rows ≡ map keyed xs ++ more → length rows ≤ i
    → filter_map misfit (drop i xs) ≡ []
misfits_end rows xs more i same past_rows =
    grind (arith, length-map, length-append, drop_of_length-le)

pub no_entries : (rows : List Row) (ds : List Setting) → entries_text rows ds [] ≡ []
no_entries [] ds = refl
no_entries (r ∷ rows) [] = refl
no_entries (r ∷ rows) (d ∷ ds) = refl

-- where a setting has no value, nothing more is written
pub entries_past : (rows : List Row) (ds xs : List Setting) (i : ℕ)
    → held_at xs i ≡ None → entries_text (drop i rows) (drop i ds) (drop i xs) ≡ []
entries_past rows ds xs i h = grind (arith, past, no_entries)

-- the list from an index on begins with what stands there
pub drop_at : {A : Type 0} (xs : List A) (i : ℕ) (x : A) → slice_get xs i ≡ Some x
    → drop i xs ≡ x ∷ drop (suc i) xs
drop_at [] i x h = absurd (none-some x h)
drop_at (y ∷ ys) zero x h = cc
drop_at (y ∷ ys) (suc i) x h = drop_at ys i x h

-- one setting more is written
pub entries_here : (rows : List Row) (ds xs : List Setting) (i : ℕ) (r : Row)
    (d v : SettingValue) → slice_get rows i ≡ Some r → held_at ds i ≡ Some d → held_at xs i ≡ Some v
    → entries_text (drop i rows) (drop i ds) (drop i xs)
    ≡ entry_text r d v ++ entries_text (drop (i + 1) rows) (drop (i + 1) ds) (drop (i + 1) xs)
entries_here rows ds xs i r d v row default value =
    let (y, split_d, is_d, _) = here ds i d default in
    let (x, split_x, is_x, _) = here xs i v value in
    rw (add-one, drop_at rows i r row, split_d, split_x, is_d, is_x)

-- one setting more was written
pub entries_next : (rows : List Row) (ds xs : List Setting) (i : ℕ) (r : Row)
    (d v : SettingValue) (out new whole : List ℕ)
    → out ++ entries_text (drop i rows) (drop i ds) (drop i xs) ≡ whole
    → new ≡ out ++ entry_text r d v → slice_get rows i ≡ Some r → held_at ds i ≡ Some d
    → held_at xs i ≡ Some v
    → new ++ entries_text (drop (i + 1) rows) (drop (i + 1) ds) (drop (i + 1) xs) ≡ whole
entries_next rows ds xs i r d v out new whole before wrote row default value =
    grind (arith, append_assoc, entries_here)

-- all is written where nothing is left
pub all_written : (out rest whole : List ℕ) → out ++ rest ≡ whole → rest ≡ [] → out ≡ whole
all_written out rest whole before none = search rules

some_first : (xs : List (List ℕ)) (x : List ℕ) → Some x ≡ slice_get xs 0
    → (more : List (List ℕ)) × (xs ≡ x ∷ more)
some_first [] x h = absurd (none-some x (sym h))
some_first (y ∷ ys) x h = (ys, ap (λ z. z ∷ ys) (sym (same_Some x y h)))

pub split_at : {A : Type 0} (xs : List A) (i : ℕ) (d : A) → i < length xs
    → drop i xs ≡ get_or xs i d ∷ drop (i + 1) xs
split_at xs i d lt = rw add-one (drop-cons xs i d lt)

-- what is found in one table more
pub table_more : {A : Type 0} (found : Section → List A) (ss : List Section) (i : ℕ) (d : Section)
    (old new whole : List A) → i < length ss → new ≡ old ++ found (get_or ss i d)
    → old ++ flat_map found (drop i ss) ≡ whole → new ++ flat_map found (drop (i + 1) ss) ≡ whole
table_more found ss i d old new whole lt added before = grind (arith, append_assoc, split_at)

-- the first setting of this table that does not fit is the first of all
pub misfit_first : (config : Config) (ss : List Section) (i : ℕ) (d : Section) (key : List ℕ)
    → i < length ss → Some key ≡ slice_get (section_misfits (get_or ss i d) config) 0
    → flat_map (located_misfits config) ss ≡ flat_map (located_misfits config) (drop i ss)
    → (more : List (Section × List ℕ))
    × (flat_map (located_misfits config) ss ≡ (get_or ss i d, key) ∷ more)
misfit_first config ss i d key lt h same =
    let (more, is) = some_first (section_misfits (get_or ss i d) config) key h in
    let split = split_at ss i d lt in
    let s = get_or ss i d in
    (map (λ k. (s, k)) more ++ flat_map (located_misfits config) (drop (i + 1) ss), grind arith)

-- a table whose settings fit is passed over
pub misfit_next : (config : Config) (ss : List Section) (i : ℕ) (d : Section) → i < length ss
    → None ≡ slice_get (section_misfits (get_or ss i d) config) 0
    → flat_map (located_misfits config) (drop (i + 1) ss)
    ≡ flat_map (located_misfits config) (drop i ss)
misfit_next config ss i d lt h = grind (arith, none-some, split_at)

-- what the things from one on give follows what those before it gave
abbrev pub Follow : {A B : Type 0} → (B → List A → Type 0) → List B → ℕ → List A → Type 0
Follow {A} Gives xs i done =
    (more : List A) → InTurn Gives (drop i xs) more → InTurn Gives xs (done ++ more)

-- one thing more
pub turn_next : {A B : Type 0} (Gives : B → List A → Type 0) (xs : List B) (i : ℕ) (d : B)
    (before old new done one : List A) → i < length xs → old ≡ before ++ done → new ≡ old ++ one
    → Gives (get_or xs i d) one → Follow Gives xs i done
    → (all : List A) × (new ≡ before ++ all) × Follow Gives xs (i + 1) all
turn_next Gives xs i d before old new done one lt was now gives rest =
    let split = split_at xs i d lt in (
      done ++ one,
      now ∙ ap (λ l. l ++ one) was ∙ append_assoc before done one,
      λ more others.
          let here : InTurn Gives (drop i xs) (one ++ more) =
          subst (λ l. InTurn Gives l (one ++ more)) (sym split) (one, more, refl, gives, others) in
          subst (λ l. InTurn Gives xs l) (sym (append_assoc done one more))
          (rest (one ++ more) here),
    )

-- behind the last thing nothing is left
pub turns_end : {A B : Type 0} (Gives : B → List A → Type 0) (xs : List B) (i : ℕ)
    (done : List A) → length xs ≤ i → Follow Gives xs i done → InTurn Gives xs done
turns_end Gives xs i done past_all rest =
    subst (λ l. InTurn Gives xs l) (append-nil done)
    (rest [] (subst (λ l. InTurn Gives l []) (sym (drop_of_length-le xs past_all)) refl))

-- settings of equal rows are equal
same_service : (a b : Service) → service_settings a ≡ service_settings b → a ≡ b
same_service a b same = grind arith

same_node : (a b : Node) → node_settings a ≡ node_settings b → a ≡ b
same_node a b same = grind arith

same_samples : (a b : PublishSubscribe)
    → publish_subscribe_settings a ≡ publish_subscribe_settings b → a ≡ b
same_samples a b same = grind arith

same_requests : (a b : RequestResonse)
    → request_response_settings a ≡ request_response_settings b → a ≡ b
same_requests a b same = grind arith

same_board : (a b : Blackboard) → blackboard_settings a ≡ blackboard_settings b → a ≡ b
same_board a b same = grind arith

-- the same of values that may be absent
same_number : (a b : Option ℕ) → option_value number a ≡ option_value number b → a ≡ b
same_number None None same = refl
same_number None (Some m) same = grind arith
same_number (Some n) None same = grind arith
same_number (Some n) (Some m) same = grind arith

same_nanos : (a b : Option Duration) → option_value (λ x. duration (as_nanos x)) a
    ≡ option_value (λ x. duration (as_nanos x)) b → option_map as_nanos a ≡ option_map as_nanos b
same_nanos None None same = refl
same_nanos None (Some m) same = grind arith
same_nanos (Some n) None same = grind arith
same_nanos (Some n) (Some m) same = grind arith

-- events and global settings, whose durations are equal by their nanoseconds
same_event : (a b : Event) → event_settings a ≡ event_settings b
    → (option_map as_nanos a.deadline ≡ option_map as_nanos b.deadline)
    × (record a { deadline = b.deadline } ≡ b)
same_event a b same = grind (arith, same_number, same_nanos)

same_global : (a b : GlobalSettings) → global_settings a ≡ global_settings b
    → (as_nanos a.creation_timeout ≡ as_nanos b.creation_timeout) × (a.root_path ≡ b.root_path)
    × (a.prefix ≡ b.prefix)
same_global a b same = grind arith

pub table_is_complete : (one other : Config) → AreSame one other → HaveEqualFields one other
table_is_complete one other same =
    let (timeout, root, prefix) = same_global one.global other.global (same section.Global) in
    let services = same_service one.global.service other.global.service (same section.Service) in
    let nodes = same_node one.global.node other.global.node (same section.Node) in
    let samples = same_samples one.defaults.publish_subscribe other.defaults.publish_subscribe
    (same section.PublishSubscribe) in
    let (deadline, events) = same_event one.defaults.event other.defaults.event
    (same section.Event) in
    let requests = same_requests one.defaults.request_response other.defaults.request_response
    (same section.RequestResponse) in
    let boards = same_board one.defaults.blackboard other.defaults.blackboard
    (same section.Blackboard) in
    record { timeout = timeout; deadline = deadline; others = grind arith }
