-- The forms of lines, as texts begin that may be the text of none.
use Rattle.std.specs.Prelude.{◌≡◌, ◌≢◌, ◌==◌, ◌⊎◌, ℕ, ◌<◌, ◌^◌, List, ◌++◌, codes}
use Rattle.std.specs.List.{before_first}
use Rattle.log_lines.specs.declared.form.LogForm.{LogForm}
use Rattle.log_lines.specs.declared.form.LogForm.TheVariants as form
use Rattle.log_lines.specs.Lines.{Comes, IsCaller, mark, number_text}

-- lines of the form begin with this word, behind a number and a caller
abbrev pub IsWord : LogForm → List ℕ → Type 0
IsWord form.Service word = word ≡ codes "service"
IsWord form.State word = word ≡ codes "state"
IsWord form.Register word = word ≡ codes "register"
IsWord form.Deregister word = word ≡ codes "deregister"
IsWord form.Nodes word = word ≡ codes "nodes"
IsWord form.Add word = word ≡ codes "add"
IsWord form.Release word = word ≡ codes "release"
IsWord form.List word = word ≡ codes "list"
IsWord form.Count word = word ≡ codes "count"
IsWord form.Dead word = word ≡ codes "dead"
IsWord form.WeakNodes word = word ≡ codes "nodes?"
IsWord form.WeakList word = word ≡ codes "list?"
IsWord _ word = ⊥

-- what stands before the first space of a text
abbrev pub first_word : List ℕ → List ℕ
first_word text = before_first (λ b. b == 32) text

-- lines of the form begin with this word; or those of none do, and it is unknown
abbrev pub IsFormOf : List ℕ → LogForm → Type 0
IsFormOf word f =
    IsWord f word ⊎ ((f ≡ form.Unknown) × ((other : LogForm) → ¬ (IsWord other word)))

-- the form of the begin of a call, where what begins has this form: no caller begins the line of a
-- service, a state, or what no line begins with
abbrev pub begun_form : LogForm → LogForm
begun_form form.Service = form.Begin
begun_form form.State = form.Begin
begun_form form.Unknown = form.Begin
begun_form f = f

-- the form of the begin of a call that begins with this word
abbrev pub IsFormBegun : List ℕ → LogForm → Type 0
IsFormBegun word f = (g : LogForm) × IsFormOf word g × (f ≡ begun_form g)

-- the mark of an event or of a number follows the letters and digits
abbrev pub IsMarked : List ℕ → Type 0
IsMarked back = (mark back ≡ 62) ⊎ ((mark back ≡ 60) ⊎ ((mark back ≡ 33) ⊎ (mark back ≡ 58)))

-- The form of a text, which begins with these letters and digits and goes on so: the end of a call,
-- the crash of a caller, a line with a number, what a caller begins, the begin of a call where none
-- stands behind a name, or else that of its first word.
abbrev pub HasFormBy : (text name back : List ℕ) → LogForm → Type 0
HasFormBy text name back f =
    ((mark back ≡ 60) × (f ≡ form.End))
    ⊎ (((mark back ≡ 33) × (f ≡ form.Crash))
    ⊎ (((mark back ≡ 58) × (f ≡ form.Numbered))
    ⊎ (((mark back ≡ 62) × ((words : List ℕ) → IsCaller name → back ≢ codes "> " ++ words)
    × (f ≡ form.Begin))
    ⊎ (((words : List ℕ) × IsCaller name × (back ≡ codes "> " ++ words)
    × IsFormBegun (first_word words) f)
    ⊎ ((¬ (IsMarked back)) × IsFormOf (first_word text) f)))))

-- the form of a text that stands alone, with no number of a service before it
abbrev pub HasFormAlone : List ℕ → LogForm → Type 0
HasFormAlone text f =
    (name : List ℕ) × (back : List ℕ) × Comes text name back × HasFormBy text name back f

-- the form behind the number of a service, where a text has this one alone: the line of a service
-- has no number before it
abbrev pub numbered_form : LogForm → LogForm
numbered_form form.Service = form.Numbered
numbered_form f = f

-- the form of a text that begins with the number of a service, or with none
abbrev pub HasForm : List ℕ → LogForm → Type 0
HasForm text f =
    ((number : ℕ) × (rest : List ℕ) × (g : LogForm) × (number < 2 ^ 64)
    × (text ≡ number_text number ++ rest) × HasFormAlone rest g × (f ≡ numbered_form g))
    ⊎ (((number : ℕ) (rest : List ℕ) → number < 2 ^ 64 → text ≢ number_text number ++ rest)
    × HasFormAlone text f)
