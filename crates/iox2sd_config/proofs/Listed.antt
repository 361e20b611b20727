-- What is said of a file that was read; that of listed faults there is a first one, and of texts
-- that are refused.
use Rattle.iox2sd_config.proofs.Prelude.{List, ListsFaults, None, Option, Some, [], ap, arith, inl, inr, length, length-map, length_permutation, slice_get, subst, sym, ℕ, ◌<◌, ◌∷◌, ◌≡◌}
use Rattle.iox2sd_config.specs.Prelude.{Config, FileContents, IsText, PlainFault, ReadsAll, Status, Unread}
use Rattle.iox2sd_config.specs.Files.{OfFile}
use Rattle.std.proofs.lemmas.Option.{same_Some}
use Rattle.iox2_config_file.specs.Answers.{IsConfigOf, ReportsFaults}
use Rattle.iox2_config_file.specs.declared.fault.SettingFault.{SettingFault}
use Rattle.toml.specs.Data.{Members}
use Rattle.iox2sd_config.specs.Writing.{IsFirstBad, Keyed}

-- what is said of the text of a file is said of its bytes
pub of_file : (bytes text : List ℕ) (file : FileContents) (Says : List ℕ → FileContents → Type 0)
    (Refuses : Unread → Type 0) → (text ≡ bytes) × IsText bytes × ReadsAll bytes file
    → Says text file → OfFile bytes (Says bytes) Refuses
of_file bytes text file Says Refuses read says =
    inl (read.1, file, read.2, subst (λ t. Says t file) read.0 says)

-- a file without settings has a fault
pub has_faults : (default : Config) (file : Members) (faults : List SettingFault)
    (found : Option Config) → found ≡ None → ReportsFaults file faults
    → IsConfigOf default file found → 0 < length faults
has_faults default file faults (Some config) is all h = absurd (grind arith)
has_faults default file [] None is all (first, is_first) =
    let none = all default in let some = is_first default in absurd (grind arith)
has_faults default file (x ∷ xs) None is all h = grind arith

-- as many faults are listed as there are
pub as_many : (bytes : List ℕ) (faults : List SettingFault) (listed : List PlainFault)
    → ListsFaults bytes faults listed → length listed ≡ length faults
as_many bytes faults listed order =
    let all = length_permutation _ listed order.same in grind (arith, all, length-map)

-- where there is a first one, it stands before the others
pub front_of : (listed : List PlainFault) (first : PlainFault)
    → Some first ≡ slice_get listed 0 → (more : List PlainFault) × (listed ≡ first ∷ more)
front_of [] first is = absurd (grind arith)
front_of (x ∷ more) first is = (more, ap (λ y. y ∷ more) (sym (same_Some first x is)))

-- it is in front
pub first_bad : (Is : List ℕ → Type 0) (said : Keyed → Status × List ℕ) (x : Keyed)
    (xs : List Keyed) (bad : Status × List ℕ) → ¬ (Is x.1) → bad ≡ said x
    → IsFirstBad Is said (x ∷ xs) bad
unfolding IsFirstBad
first_bad Is said x xs bad refused is = inl (refused, is)

-- or behind one that is not refused
pub next_bad : (Is : List ℕ → Type 0) (said : Keyed → Status × List ℕ) (x : Keyed)
    (xs : List Keyed) (bad : Status × List ℕ) → Is x.1 → IsFirstBad Is said xs bad
    → IsFirstBad Is said (x ∷ xs) bad
unfolding IsFirstBad
next_bad Is said x xs bad taken behind = inr (taken, behind)

pub ruleset refused_texts = (first_bad, next_bad)
