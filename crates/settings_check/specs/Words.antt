-- What the arguments of the program request.
use Rattle.std.specs.Prelude.{◌≡◌, ◌≢◌, ℕ, Bool, true, false, not, ◌&&◌, nat_eq, nat_lt, List, [], ◌∷◌, ◌++◌, codes, map, drop, length, is_some, if◌then◌else◌, Option, Some, None, option_and_then, unwrap_or, Result, Ok, Err, String, string_bytes}
use Rattle.std.specs.Str.{bytes_eq}
use Rattle.std.specs.IoError.{error_kind}
use Rattle.std.specs.Vec.Iter.{into_iter_items}
use Rattle.std.specs.declared.alloc.Global.{Global}
use Rattle.std.specs.declared.vec.IntoIter.{IntoIter}
use Rattle.std.specs.declared.io.Error.{Error}
use Rattle.std.specs.declared.io.ErrorKind.TheVariants.{OutOfMemory}
use Rattle.settings_check.specs.declared.arguments.Chosen.{Chosen}
use Rattle.settings_check.specs.declared.arguments.Format.{Format}
use Rattle.settings_check.specs.declared.arguments.Format.TheVariants.{Text, Json}
use Rattle.settings_check.specs.declared.arguments.Request.{Request}
use Rattle.settings_check.specs.declared.arguments.RequestError.{RequestError}
use Rattle.settings_check.specs.declared.arguments.RequestError.TheVariants.{BadArguments, NoMemory}
use Rattle.settings_check.specs.declared.arguments.Task.{Task}
use Rattle.settings_check.specs.declared.arguments.Task.TheVariants as task

-- the word is the name of a file: it begins with no dash, or is a dash alone
abbrev pub is_file_word : List ℕ → Bool
is_file_word (a ∷ b ∷ rest) = not (nat_eq a 45)
is_file_word other = true

-- no option is chosen
abbrev pub none_chosen : Chosen
none_chosen =
    record { strict = false; format = None; task = None; awaits_format = false }

-- a format is chosen, and what is to be done, at most once each
abbrev pub with_format : Chosen → Format → Option Chosen
with_format o f =
    if is_some o.format then None else Some (record o { format = Some f; awaits_format = false })

abbrev pub with_task : Chosen → Task → Option Chosen
with_task o t = if is_some o.task then None else Some (record o { task = Some t })

-- an option is chosen
abbrev pub option_with : Chosen → List ℕ → Option Chosen
option_with o w =
    if bytes_eq w (codes "--strict") then Some (record o { strict = true })
    else (if bytes_eq w (codes "--format")
    then (if is_some o.format then None else Some (record o { awaits_format = true }))
    else (if bytes_eq w (codes "--format=text") then with_format o Text
    else (if bytes_eq w (codes "--format=json") then with_format o Json
    else (if bytes_eq w (codes "--show") then with_task o task.Show
    else (if bytes_eq w (codes "--compare") then with_task o task.Compare
    else (if bytes_eq w (codes "--default") then with_task o task.DefaultFile
    else (if bytes_eq w (codes "--schema") then with_task o task.Schema
    else (if bytes_eq w (codes "-h") then with_task o task.Help
    else (if bytes_eq w (codes "--help") then with_task o task.Help
    else (if bytes_eq w (codes "--version") then with_task o task.Version
    else None))))))))))

-- what is chosen with one word more, which names no file
abbrev pub chosen_with : Chosen → List ℕ → Option Chosen
chosen_with o w =
    if not o.awaits_format then option_with o w
    else (if bytes_eq w (codes "text") then with_format o Text
    else (if bytes_eq w (codes "json") then with_format o Json else None))

-- the word names a file, where no format is awaited
abbrev pub names_file : Chosen → List ℕ → Bool
names_file o w = not o.awaits_format && is_file_word w

-- what words choose beside what was chosen before them, and the files that they name, in their
-- order, behind those before them; nothing where one of them may not stand there
unfoldable pub said : Chosen → List (List ℕ) → List (List ℕ) → Option (Chosen × List (List ℕ))
said o files [] = Some (o, files)
said o files (w ∷ ws) =
    if names_file o w then said o (files ++ w ∷ []) ws
    else option_and_then (λ next. said next files ws) (chosen_with o w)

-- how many files a task takes
abbrev pub takes_files : Task → ℕ → Bool
takes_files task.Check n = nat_lt 0 n
takes_files task.Show n = nat_eq n 1
takes_files task.Compare n = nat_eq n 2
takes_files other n = nat_eq n 0

-- a task has a use for the options that were chosen beside it: a format is of lists of findings,
-- and what is written of no file has no warning
abbrev pub takes_options : Task → Chosen → Bool
takes_options task.Show o = not (is_some o.format)
takes_options task.DefaultFile o = not o.strict && not (is_some o.format)
takes_options task.Schema o = not o.strict && not (is_some o.format)
takes_options other o = true

-- the arguments
abbrev pub words_of : IntoIter (String Global) Global → List (List ℕ)
words_of words = map string_bytes (into_iter_items words)

-- the texts of some files' names
abbrev pub texts_of : List (String Global) → List (List ℕ)
texts_of files = map string_bytes files

-- the task, which is to check where none is chosen
abbrev pub task_in : Chosen → Task
task_in o = unwrap_or o.task task.Check

-- no format is awaited, and the task takes the other options and so many files
abbrev pub fits : Chosen → ℕ → Bool
fits o n = (not o.awaits_format && takes_files (task_in o) n) && takes_options (task_in o) o

-- what was said is a request, or none
abbrev pub Requested : Option (Chosen × List (List ℕ)) → Result Request RequestError → Type 0
Requested None (Ok request) = ⊥
Requested (Some (o, files)) (Ok request) =
    (request.strict ≡ o.strict) × (request.format ≡ unwrap_or o.format Text)
    × (request.task ≡ task_in o) × (texts_of request.files.items ≡ files)
    × (fits o (length files) ≡ true)
Requested None (Err BadArguments) = Unit {0}
Requested (Some (o, files)) (Err BadArguments) = fits o (length files) ≡ false
Requested said (Err NoMemory) = Unit {0}

-- the arguments are none that the program knows
abbrev pub IsBadArguments : RequestError → Type 0
IsBadArguments BadArguments = Unit {0}
IsBadArguments NoMemory = ⊥

-- what the words after the program's name request
abbrev pub RequestsIn : List (List ℕ) → Result Request RequestError → Type 0
RequestsIn words = Requested (said none_chosen [] words)

-- what the arguments request: where they could not be had, there is no memory or they are bad
abbrev pub Requests : Result (IntoIter (String Global) Global) Error → Result Request RequestError
    → Type 0
Requests (Ok words) request = RequestsIn (drop 1 (words_of words)) request
Requests (Err why) (Err NoMemory) = error_kind why ≡ OutOfMemory
Requests (Err why) (Err BadArguments) = error_kind why ≢ OutOfMemory
Requests (Err why) (Ok request) = ⊥
