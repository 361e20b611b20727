-- The lines of settings, and the reason for which a line is bad.
use Rattle.std.proofs.Common.{◌≡◌, ◌≢◌, ℕ, ◌<◌, ◌≤◌, ◌∷◌, ◌++◌, List, Bool, false, length, get_or, ap, Some, None, slice_get, subst, sym, ◌∙◌, arith, zero, suc, replicate, true, [], inl, inr, codes, map, nat_eq, slice_set, refl, length-append}
use Rattle.std.proofs.lemmas.Option.{none-some, slice_get_within, slice_get_cases, slice_get-get_or}
use Rattle.service_drawing.specs.Settings.{HasName, IsSetting, IsNamed, word_of, MayBecome, Assignment, GivesSetting, assigned, AreSettings, Sets, NamesMarked, IsNotSet, value_text, HasConfiguration, restored, setting_names, setting_values}
use Rattle.service_drawing.proofs.Words.{longer, same_text, line_one, same_pattern}
use Rattle.std.specs.List.{AllByRecursion, IsDistinct, list_any}
use Rattle.std.proofs.Math.Bool.{or-false, or-true}
use Rattle.std.proofs.lemmas.Bool.{eqb-false, eqb-true, ne_eqb}
use Rattle.std.proofs.lemmas.Cmp.{nat_eq_equiv}
use Rattle.std.proofs.lemmas.List.{append_cancel_left, map-append}
use Rattle.std.proofs.lemmas.List.Folds.{list_any-append}
use Rattle.std.proofs.lemmas.Map.Keys.{IsDistinct-push}
use Rattle.service_drawing.specs.Lines.{IsLine, StopsAt, HasService, IsInternal, IsNoService, ReadMany}
use Rattle.service_drawing.specs.declared.reading.cause.Reason.{Reason}
use Rattle.service_drawing.specs.declared.reading.cause.Reason.TheVariants.{InternalName, UnknownSetting, SetTwice, OtherForm}
use Rattle.service_drawing.specs.declared.settings.Value.{Value}
use Rattle.service_drawing.proofs.Forms.{one_read, many_stops, GoesOn, no_key, more_follow, none_follow}
use Rattle.iox2_config.specs.declared.config.Config.{Config}
use Rattle.iox2_config.specs.declared.config.defaults.Defaults.{Defaults}
use Rattle.iox2_config.specs.declared.hash.input.PatternKind.{PatternKind}
use Rattle.service_drawing.specs.Descriptions.{StopsReading, after_settings, BeginsInternal, IsServiceReason, AtSetting, IsUnknown, WasSet, AmongSettings, IsReason}
use Rattle.service_drawing.proofs.Descriptions.{Breaks, broken, service_same, after_settings_lawful, stops_behind_service}

-- the setting of this number has another name
pub not_named : (names : List (List ℕ)) (i : ℕ) (word name : List ℕ) → Some name ≡ slice_get names i
    → (IsNamed word name → ⊥) → HasName names i word → ⊥
not_named names i word name there other h = grind (arith, h.stands, h.named)

past_end : (names : List (List ℕ)) (i : ℕ) → slice_get names i ≡ None → length names ≤ i
past_end names i e = grind (arith, slice_get_cases, none-some)

-- there is no setting from this number on
pub none_named : (names : List (List ℕ)) (i : ℕ) (word : List ℕ) → None ≡ slice_get names i
    → ((k : ℕ) → k < i → HasName names k word → ⊥) → (k : ℕ) → HasName names k word → ⊥
none_named names i word past before k h = grind (arith, slice_get_within, past_end)

-- the setting of the same word
pub as_word : (names : List (List ℕ)) (i : ℕ) (word other : List ℕ) → word ≡ other
    → IsSetting names i word → IsSetting names i other
as_word names i word other e h = subst (λ (w : List ℕ). IsSetting names i w) e h

-- the mark of this number
pub marked_at : (given : List Bool) (index : ℕ) (mark : Bool) → index < length given
    → get_or given index false ≡ mark → slice_get given index ≡ Some mark
marked_at given index mark within e = slice_get-get_or given index false within ∙ ap Some e

-- a space stands behind the word
pub spaced : (text word rest : List ℕ) → word_of text ≡ word → text ≡ word ++ 32 ∷ rest
    → word_of text ≢ text
spaced text word rest e f same = longer word rest 32 (sym e ∙ same ∙ f)

-- the numbers of the settings
abbrev pub numbers : List Assignment → List ℕ
numbers sets = map (λ set. set.index) sets

-- one setting has the name
pub one_setting : (names : List (List ℕ)) (i j : ℕ) (word : List ℕ) → IsSetting names i word
    → IsSetting names j word → i ≡ j
one_setting names i j word p q = grind arith

-- a text sets one setting
pub same_setting : (k : PatternKind) (d : Defaults) (x y : Assignment) (t : List ℕ)
    → GivesSetting k d x t → GivesSetting k d y t → x.index ≡ y.index
same_setting k d x y t p q =
    one_setting (setting_names k) x.index y.index (word_of t) p.setting q.setting

-- a text without a space sets nothing
pub no_value_follows : (k : PatternKind) (d : Defaults) (text : List ℕ) → word_of text ≡ text
    → (set : Assignment) → ¬ GivesSetting k d set text
no_value_follows k d text e set g =
    longer (word_of text) (value_text set.value) 32 (e ∙ g.spelled)

-- a value that the setting may not have
pub not_a_value : (k : PatternKind) (d : Defaults) (index : ℕ) (old : Value)
    (text rest : List ℕ) → IsSetting (setting_names k) index (word_of text)
    → slice_get (setting_values k d) index ≡ Some old → text ≡ word_of text ++ 32 ∷ rest
    → ((value : Value) → MayBecome old value → ¬ (rest ≡ value_text value)) → (set : Assignment)
    → ¬ GivesSetting k d set text
not_a_value k d index old text rest named there e bad set g =
    let number : set.index ≡ index =
    one_setting (setting_names k) set.index index (word_of text) g.setting named in
    let same : Some g.old ≡ Some old =
    sym g.stands ∙ ap (slice_get (setting_values k d)) number ∙ there in
    let kind : g.old ≡ old = cc in
    let spelled : 32 ∷ rest ≡ 32 ∷ value_text set.value =
    append_cancel_left (word_of text) (32 ∷ rest) (32 ∷ value_text set.value) (sym e ∙ g.spelled) in
    bad set.value (subst (λ old. MayBecome old set.value) kind g.legal) cc

-- what was read so far: each number is marked that was set
pub record Setting (base : Config) (k : PatternKind) (c : Config) (given : List Bool)
    (at bytes : List ℕ) : Type 0 where
  pub read : ReadMany (codes "set ") (GivesSetting k base.defaults) (AreSettings base k) c at bytes
  pub marks : (i : ℕ) (mark : Bool) → slice_get given i ≡ Some mark
      → mark ≡ list_any (nat_eq i) (numbers read.each)

set_other : {A : Type 0} (xs : List A) (i j : ℕ) (v : A) → i ≢ j
    → slice_get (slice_set xs j v) i ≡ slice_get xs i
set_other [] i j v differ = refl
set_other (x ∷ xs) zero zero v differ = absurd (differ refl)
set_other (x ∷ xs) zero (suc j) v differ = refl
set_other (x ∷ xs) (suc i) zero v differ = refl
set_other (x ∷ xs) (suc i) (suc j) v differ = set_other xs i j v (λ e. differ (ap suc e))

set_here : {A : Type 0} (xs : List A) (i : ℕ) (v w : A) → slice_get (slice_set xs i v) i ≡ Some w
    → w ≡ v
set_here [] i v w e = cc
set_here (x ∷ xs) zero v w e = cc
set_here (x ∷ xs) (suc i) v w e = set_here xs i v w e

-- a setting that was not set has its default
kept : (defaults : List Value) (sets : List Assignment) (i : ℕ)
    → list_any (nat_eq i) (numbers sets) ≡ false
    → slice_get (assigned defaults sets) i ≡ slice_get defaults i
kept defaults [] i e = refl
kept defaults (set ∷ sets) i e =
    let more = kept (slice_set defaults set.index set.value) sets i in
    grind (arith, set_other, eqb-false)

-- one more setting was set
assigned_more : (defaults : List Value) (sets : List Assignment) (set : Assignment)
    → assigned defaults (sets ++ set ∷ []) ≡ slice_set (assigned defaults sets) set.index set.value
assigned_more defaults [] set = refl
assigned_more defaults (s ∷ sets) set =
    assigned_more (slice_set defaults s.index s.value) sets set

all_here : (P : ℕ → Type 0) (xs ys : List ℕ) (y : ℕ) → AllByRecursion P (xs ++ y ∷ ys) → P y
all_here P [] ys y h = h.0
all_here P (x ∷ xs) ys y h = all_here P xs ys y h.1

-- one that stands before another differs from it
earlier_differ : (xs ys : List ℕ) (y : ℕ) → IsDistinct nat_eq (xs ++ y ∷ ys)
    → list_any (nat_eq y) xs ≡ false
unfolding IsDistinct
earlier_differ [] ys y d = refl
earlier_differ (x ∷ xs) ys y d =
    let apart : nat_eq y x ≡ false =
    ne_eqb y x (λ e. eqb-false x y (all_here (λ z. nat_eq x z ≡ false) xs ys y d.0) (sym e)) in
    rw apart (earlier_differ xs ys y d.1)

-- a text that gives a setting gives it too where other settings differ
gives_at : (k : PatternKind) (one other : Defaults) (set : Assignment) (text : List ℕ)
    → slice_get (setting_values k one) set.index ≡ slice_get (setting_values k other) set.index
    → GivesSetting k one set text → GivesSetting k other set text
gives_at k one other set text e g = grind arith

-- nothing is marked
pub none_marked : (n i : ℕ) (mark : Bool) → slice_get (replicate n false) i ≡ Some mark
    → mark ≡ false
none_marked zero i mark e = cc
none_marked (suc n) zero mark e = cc
none_marked (suc n) (suc i) mark e = none_marked n i mark e

mark_more : (given : List Bool) (xs : List ℕ) (y : ℕ)
    → ((i : ℕ) (mark : Bool) → slice_get given i ≡ Some mark → mark ≡ list_any (nat_eq i) xs)
    → (i : ℕ) (mark : Bool) → slice_get (slice_set given y true) i ≡ Some mark
    → mark ≡ list_any (nat_eq i) (xs ++ y ∷ [])
mark_more given xs y marks i mark e =
    rw (list_any-append (nat_eq i) xs (y ∷ []))
    (grind (arith, set_here, set_other, eqb-true, eqb-false, or-true, or-false))

-- other settings are as they were where one more of this pattern is set
still_restored : (k : PatternKind) (base c : Config) (d : Defaults)
    → record c { defaults = restored k base.defaults c.defaults } ≡ base
    → restored k c.defaults d ≡ c.defaults
    → record c { defaults = restored k base.defaults d } ≡ base
still_restored k base c d h e = grind arith

-- where nothing is set, settings are as they were
pub restored_same : (k : PatternKind) (d : Defaults) → restored k d d ≡ d
restored_same k d = grind arith

-- one more was read
pub one_more_setting : (base : Config) (k : PatternKind) (c : Config) (d : Defaults)
    (given marked : List Bool) (at next bytes text : List ℕ)
    → Setting base k c given at bytes → IsLine (codes "set " ++ text) next at
    → Sets k c.defaults given text d marked → restored k c.defaults d ≡ c.defaults
    → Setting base k (record c { defaults = d }) marked next bytes
one_more_setting base k c d given marked at next bytes text r l s others =
    let sets = r.read.each in
    let defaults = setting_values k base.defaults in
    let made = r.read.make.1 in
    let fresh = sym (r.marks s.set.index false s.first) in
    let kept_there = kept defaults sets s.set.index fresh in
    let same : slice_get (setting_values k c.defaults) s.set.index
    ≡ slice_get defaults s.set.index = cc in
    let long = map-append (λ (set : Assignment). set.index) sets (s.set ∷ []) in
    let more = assigned_more defaults sets s.set in
    record {
      read = one_read (codes "set ") (GivesSetting k base.defaults) (AreSettings base k) c
          (record c { defaults = d }) at next bytes text s.set r.read l
          (gives_at k c.defaults base.defaults s.set text same s.gives) (
            rw long (IsDistinct-push nat_eq_equiv (numbers sets) s.set.index r.read.make.0 fresh),
            cc s.changed,
            still_restored k base c d r.read.make.2 others,
          );
      marks = rw (long, s.noted) (mark_more given (numbers sets) s.set.index r.marks);
    }

-- a service that is read has no internal name
from_outside : (k : PatternKind) (name rest bytes : List ℕ) → HasService k name rest bytes
    → ¬ BeginsInternal bytes
from_outside k name rest bytes h i = grind (arith, line_one, same_pattern)

-- the settings are those of the pattern of the first line
of_the_pattern : (Holds : PatternKind → List ℕ → List ℕ → Type 0) (k : PatternKind)
    (name left rest bytes : List ℕ) → HasService k name rest bytes
    → AmongSettings Holds left bytes → Holds k left rest
of_the_pattern Holds k name left rest bytes h a =
    let same = service_same a.kind k a.name name a.at_settings rest bytes a.service h in
    rw (same.0, same.1) at a.holds

-- where no other reason holds, it is the form
other_form : (base : Config) (k : PatternKind) (name left rest bytes : List ℕ)
    → HasService k name rest bytes → ¬ IsUnknown base k left rest → ¬ WasSet base k left rest
    → IsReason base OtherForm left bytes
other_form base k name left rest bytes h unknown set = (
  from_outside k name rest bytes h,
  λ a. unknown (of_the_pattern (IsUnknown base) k name left rest bytes h a),
  λ a. set (of_the_pattern (WasSet base) k name left rest bytes h a),
)

-- where the next line sets nothing, reading stops there, and for this reason
pub setting_refused : (base : Config) (k : PatternKind) (c : Config) (given : List Bool)
    (reason : Reason) (at bytes text tail : List ℕ) → Setting base k c given at bytes
    → IsLine (codes "set " ++ text) tail at → IsNotSet k c.defaults given text reason
    → StopsAt (HasConfiguration base k) at bytes
    × ((name before : List ℕ) → HasService k name bytes before → IsReason base reason at before)
setting_refused base k c given reason at bytes text tail r l bad = (
  many_stops (codes "set ") (GivesSetting k base.defaults) (AreSettings base k) (λ set. set.index)
      (same_setting k base.defaults) c at bytes text tail r.read l (not_set reason bad),
  because reason bad,
)
  where
    sets : List Assignment
    sets = r.read.each

    -- the mark of a setting says whether it was set
    mark_of : (mark : Bool) → NamesMarked k given text mark → (i : ℕ)
        → IsSetting (setting_names k) i (word_of text) → mark ≡ list_any (nat_eq i) (numbers sets)
    mark_of mark m i named =
        rw (one_setting (setting_names k) m.index i (word_of text) m.setting named)
        at (r.marks m.index mark m.marked)

    not_set : (why : Reason) → IsNotSet k c.defaults given text why → (all : List Assignment)
        (other : Config) → AreSettings base k all other
        → GoesOn (GivesSetting k base.defaults) (λ set. set.index) sets all text → ⊥
    not_set InternalName b all other made next = b
    not_set UnknownSetting b all other made next =
        b.1 next.one.index next.spelled.setting.named
    not_set SetTwice b all other made next =
        let split = map-append (λ (set : Assignment). set.index) sets (next.one ∷ next.more) in
        let once : IsDistinct nat_eq (numbers sets ++ next.one.index ∷ numbers next.more) =
        subst (IsDistinct nat_eq) (next.keys ∙ split) made.0 in
        let fresh = earlier_differ (numbers sets) (numbers next.more) next.one.index once in
        let marked = mark_of true b.1 next.one.index next.spelled.setting in
        cc
    not_set OtherForm b all other made next =
        elim b.0 [
          | inl none ↦ no_value_follows k base.defaults text none next.one next.spelled
          | inr m ↦
              let i = next.one.index in
              let fresh = sym (mark_of false m i next.spelled.setting) in
              let defaults = setting_values k base.defaults in
              let same : slice_get defaults i ≡ slice_get (setting_values k c.defaults) i =
              rw (r.read.make.1, kept defaults sets i fresh) refl in
              b.1 next.one (gives_at k base.defaults c.defaults next.one text same next.spelled)
        ]

    here : word_of text ≢ text → AtSetting base k at bytes
    here spaced = grind arith

    one : (a : AtSetting base k at bytes) → a.text ≡ text
    one a = same_text (codes "set ") a.text a.rest at a.line text tail l

    without_space : (a : AtSetting base k at bytes) → ¬ (word_of text ≡ text)
    without_space a none = a.spaced (rw (one a) none)

    was_set : NamesMarked k given text false → ¬ WasSet base k at bytes
    was_set m w =
        let fresh = mark_of false m w.index (rw (one w.at) at w.setting) in
        let more =
        more_follow (codes "set ") (GivesSetting k base.defaults) (λ set. set.index)
        (same_setting k base.defaults) w.at.sets sets at at bytes w.at.before r.read.lines
        (omega arith) in
        let any = rw w.before at
        (list_any-append (nat_eq w.index) (numbers w.at.sets) (numbers more.0)) in
        let split = map-append (λ (set : Assignment). set.index) w.at.sets more.0 in
        let same = more.2 in
        cc

    among : {Holds : PatternKind → List ℕ → List ℕ → Type 0} (name before : List ℕ)
        → HasService k name bytes before → Holds k at bytes → AmongSettings Holds at before
    among name before h b =
        record { kind = k; name = name; at_settings = bytes; service = h; holds = b }

    because : (why : Reason) → IsNotSet k c.defaults given text why → (name before : List ℕ)
        → HasService k name bytes before → IsReason base why at before
    because InternalName b name before h = absurd b
    because UnknownSetting b name before h =
        among name before h (record { at = here b.0; none = b.1 })
    because SetTwice b name before h = among name before h (record {
      at = here b.0;
      index = b.1.index;
      setting = b.1.setting;
      before = sym (r.marks b.1.index true b.1.marked);
    })
    because OtherForm b name before h =
        other_form base k name at bytes before h
        (λ u. elim b.0 [
          | inl none ↦ without_space u.at none
          | inr m ↦ u.none m.index (rw (one u.at) m.setting.named)
        ])
        (λ w. elim b.0 [ inl none ↦ without_space w.at none | inr m ↦ was_set m w ])

-- bytes without a line do not begin with that of a service
pub no_line_reason : (bytes : List ℕ) → ((text rest : List ℕ) → ¬ IsLine text rest bytes)
    → IsServiceReason OtherForm bytes
no_line_reason bytes none i = none i.text i.rest i.line

-- the reason why the first line spells no service
pub service_reason : (reason : Reason) (line rest bytes : List ℕ) → IsLine line rest bytes
    → IsNoService line reason → IsServiceReason reason bytes
service_reason InternalName line rest bytes l b = record {
  text = line;
  rest = rest;
  line = l;
  internal = b;
}
service_reason UnknownSetting line rest bytes l b = b
service_reason SetTwice line rest bytes l b = b
service_reason OtherForm line rest bytes l b =
    λ i. b (subst IsInternal (line_one i.text line i.rest rest bytes i.line l).0 i.internal)

pub no_service_reason : (base : Config) (reason : Reason) (left bytes : List ℕ)
    → ((k : PatternKind) (name rest : List ℕ) → ¬ HasService k name rest bytes)
    → IsServiceReason reason bytes → IsReason base reason left bytes
no_service_reason base reason left bytes none b = grind arith

-- behind the settings a line is bad for its form
pub stops_behind_settings : (base : Config) (reason : Reason) (k : PatternKind) (name : List ℕ)
    (c : Config) (left rest mid bytes : List ℕ) → reason ≡ OtherForm → HasService k name mid bytes
    → HasConfiguration base k c rest mid → Breaks (after_settings k) left rest
    → StopsReading base left bytes × IsReason base reason left bytes
stops_behind_settings base reason k name c left rest mid bytes e h g bad =
    let s = broken (after_settings_lawful k) left rest bad in
    let late : AtSetting base k left mid → ⊥ = λ a.
    let more = more_follow (codes "set ") (GivesSetting k base.defaults) no_key (λ x y t p q. refl)
    g.read.each a.sets rest left mid g.read.lines a.before
    (omega (arith, ap length s.all, length-append s.read left)) in
    let end = none_follow (codes "set ") (GivesSetting k base.defaults) more.0 left rest more.1
    g.ends in
    g.ends a.text a.rest (rw (← end) at a.line) in
    let form = other_form base k name left mid bytes h (λ u. late u.at) (λ w. late w.at) in (
      stops_behind_service base k name left mid bytes h (elim bad [
        | inl fails ↦ inl (inr (c, rest, g, fails))
        | inr more ↦ inr ((c, more.0), (rest, g, more.1), more.2)
      ]),
      subst (λ r. IsReason base r left bytes) (sym e) form,
    )

-- a setting that was set has a name
unknown_or_set : (base : Config) (left bytes : List ℕ) → AmongSettings (IsUnknown base) left bytes
    → ¬ AmongSettings (WasSet base) left bytes
unknown_or_set base left bytes u other =
    let w = of_the_pattern (WasSet base) u.kind u.name left u.at_settings bytes u.service other in
    let at = u.holds.at in
    let texts =
    same_text (codes "set ") w.at.text w.at.rest left w.at.line at.text at.rest at.line in
    u.holds.none w.index (rw texts at w.setting.named)

-- where one reason holds, no other does
pub one_reason : (base : Config) (one other : Reason) (left bytes : List ℕ)
    → IsReason base one left bytes → IsReason base other left bytes → other ≡ one
one_reason base one other left bytes p q = grind (arith, from_outside, unknown_or_set)
