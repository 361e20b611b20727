-- Known bytes over several reads and writes, and what comes of what was read.
use Rattle.std.proofs.Common.{◌≡◌, ◌<◌, ℕ, ◌-◌, List, [], ◌++◌, codes, length, take, drop, Option, Some, None, ap, arith, inl, inr, sym, ◌∙◌, append_assoc, Result, Ok, Err, IfOk, IfSome, OnOk}
use Rattle.std.proofs.lemmas.List.{take-append-drop, take_rest}
use Rattle.std.specs.Io.KnownBytes.{Appends, Consumes, IsAtEnd}
use Rattle.std.specs.declared.alloc.AllocError.{AllocError}
use Rattle.std.specs.declared.alloc.Global.{Global}
use Rattle.std.specs.declared.io.Error.{Error}
use Rattle.std.specs.declared.vec.Vec.{Vec}
use Rattle.line_streams.specs.Filters.{Ends, Ran, either, status_number}
use Rattle.line_streams.specs.declared.streams.Status.{Status}
use Rattle.line_streams.specs.declared.streams.Status.TheVariants.{Good, Faulty, Unusable}

-- what was read, and then some more
pub consumes_more : (a b c : Option (List ℕ)) (xs ys : List ℕ) → Consumes a b xs → Consumes b c ys
    → Consumes a c (xs ++ ys)
consumes_more None b c xs ys p q = tt
consumes_more (Some xa) None c xs ys p q = absurd p
consumes_more (Some xa) (Some xb) None xs ys p q = absurd q
consumes_more (Some xa) (Some xb) (Some xc) xs ys p q =
    p ∙ ap (λ (r : List ℕ). xs ++ r) q ∙ sym (append_assoc xs ys xc)

-- what was appended, and then some more
pub appends_more : (a b c : Option (List ℕ)) (xs ys : List ℕ) → Appends a b xs → Appends b c ys
    → Appends a c (xs ++ ys)
appends_more None b c xs ys p q = tt
appends_more (Some xa) None c xs ys p q = absurd p
appends_more (Some xa) (Some xb) None xs ys p q = absurd q
appends_more (Some xa) (Some xb) (Some xc) xs ys p q = q ∙ ap (λ (r : List ℕ). r ++ ys) p
    ∙ append_assoc xa xs ys

-- n bytes more were written, and the slice after them is left
pub written_more : (bytes done rest : List ℕ) (n : ℕ) → bytes ≡ done ++ rest
    → bytes ≡ (done ++ take n rest) ++ take (length rest - n) (drop n rest)
written_more bytes done rest n e =
    e ∙ ap (λ (xs : List ℕ). done ++ xs)
    (sym (take-append-drop n rest)
    ∙ ap (λ (xs : List ℕ). take n rest ++ xs) (sym (take_rest rest n)))
    ∙ sym (append_assoc done (take n rest) (take (length rest - n) (drop n rest)))

-- what was read was worked on where the outcome was written
pub ran_where_written : {T : Type 0} (Works : Result (Vec ℕ Global) AllocError → T → Type 0)
    (status_of : T → ℕ) (on_output on_errors : T → List ℕ)
    (given left out_old out_new err_old err_new : Option (List ℕ))
    (read : Result (Vec ℕ Global) AllocError) (outcome : T) (wrote : Result ℕ Error)
    → Works read outcome
    → IfOk read (λ bytes. IfSome given (λ input. bytes.items ≡ input))
    → OnOk read (IsAtEnd left)
    → IfOk wrote (λ status. status ≡ status_of outcome)
    → OnOk wrote (Appends out_old out_new (on_output outcome))
    → OnOk wrote (Appends err_old err_new (on_errors outcome))
    → IfOk wrote (λ status. Ran Works status_of on_output on_errors status given left out_old
    out_new err_old err_new)
ran_where_written Works status_of on_output on_errors given left out_old out_new err_old err_new
    read outcome (Ok status) worked all end is_status output errors = record {
      read = read;
      outcome = outcome;
      worked = worked;
      all = all;
      end = end;
      is_status = is_status;
      output = output;
      errors = errors;
    }
ran_where_written Works status_of on_output on_errors given left out_old out_new err_old err_new
    read outcome (Err why) worked all end is_status output errors = tt

pub status_small : (status : Status) → status_number status < 3
status_small Good = omega arith
status_small Faulty = omega arith
status_small Unusable = omega arith

-- what was done is reported where it was written, or memory was refused
pub ends_where_written : {T : Type 0} (status_of : T → ℕ) (on_output on_errors : T → List ℕ)
    (Does : T → Type 0) (Reported : ℕ → Type 0) (out_old out_new err_old err_new : Option (List ℕ))
    (end : Result T AllocError) (wrote : Result ℕ Error)
    → ((done : T) → status_of done < 3)
    → ((done : T) → Does done → Appends out_old out_new (on_output done)
    → Appends err_old err_new (on_errors done) → Reported (status_of done))
    → IfOk end Does
    → IfOk wrote (λ status. status ≡ either status_of (λ why. 3) end)
    → OnOk wrote (Appends out_old out_new (either on_output (λ why. []) end))
    → OnOk wrote (Appends err_old err_new (either on_errors (λ why. codes "no memory\n") end))
    → IfOk wrote (λ status. Ends Reported status out_old out_new err_old err_new)
ends_where_written status_of on_output on_errors Does Reported a b e f (Ok done) (Ok status) small
    reports does is output errors =
    inl (
      rw is (small done),
      rw is (reports done does output errors),
    )
ends_where_written status_of on_output on_errors Does Reported a b e f (Err why) (Ok status) small
    reports does is output errors =
    inr (is, (output, errors))
ends_where_written status_of on_output on_errors Does Reported a b e f end (Err why) small reports
    does is output errors = tt
