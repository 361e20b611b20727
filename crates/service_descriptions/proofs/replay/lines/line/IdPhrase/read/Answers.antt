use Rattle.std.proofs.Common.{◌≡◌, ℕ, List, Some, arith, refl, sym, ◌∙◌, ap}
use Rattle.service_descriptions.specs.Phrases.{id_phrase, parts_fit, parts_of, parts_phrase, id_then}
use Rattle.service_descriptions.specs.Prelude.{Reads, counter_of, nanoseconds_of, packed, process_of, seconds_of}
use Rattle.service_descriptions.proofs.replay.lines.line.IdPhrase.read.Goals as goal

-- parts that were read are those of an id
id_found : (p s n c : ℕ) (rest bytes : List ℕ)
    → Reads parts_phrase.Fits parts_phrase.text (Some ((p, (s, (n, c))), rest)) bytes
    → Reads id_phrase.Fits id_phrase.text (Some (packed p s n c, rest)) bytes
id_found p s n c rest bytes read =
    let id = packed p s n c in
    let a = read.0.0.0 in
    let b = read.0.1.0.0 in
    let d = read.0.1.1.0.0 in
    let e = read.0.1.1.1.0 in
    let process : process_of id ≡ p = omega (arith, a, b, d, e) in
    let seconds : seconds_of id ≡ s = omega (arith, a, b, d, e) in
    let nanoseconds : nanoseconds_of id ≡ n = omega (arith, a, b, d, e) in
    let counter : counter_of id ≡ c = omega (arith, a, b, d, e) in
    let same : parts_of id ≡ (p, (s, (n, c))) =
    rw (process, seconds, nanoseconds, counter) refl in (
      (omega (arith, a, b, d, e), read.0.1.1.1.2),
      read.1 ∙ sym (id_then id rest ∙ ap (λ v. parts_phrase.text (v, rest)) same),
    )

pub returns-in_default-clause-read : goal.returns-in_default-clause-read
returns-in_default-clause-read c a fits e =
    c.in_default.ensures.read (parts_of a.0, a.1) (parts_fit a.0 a.1 fits.0 fits.1)
    (e ∙ id_then a.0 a.1)

pub returns-clause-read : goal.returns-clause-read
returns-clause-read c = id_found _ _ _ _ c.in-Some.rest.now c.args.bytes.now c.in-Some.ensures.read
