use Rattle.std.proofs.Common.{◌≡◌, ◌∷◌, ◌++◌, [], ℕ, map, length, sym, ◌∙◌, ap, subst, arith, rules, length-append}
use Rattle.std.proofs.lemmas.List.{map-append}
use Rattle.line_streams.specs.Spelling.{OneWay}
use Rattle.line_streams.proofs.Phrases.{GoesOn, goes_on, goes_on_more, goes_nowhere}
use Rattle.line_streams.proofs.phrase.list_before.Goals as goal

pub items-init : goal.items-init
items-init g c =
    let word = c.args.word.now in
    let text = c.in-Some.ensures.some in
    let sum = length-append word c.in-Some.tail.now in
    let tail = c.in-Some.tail.now in
    let P = g.P.Phrase.spelling c.args.phrase.now in (
      subst (λ l. GoesOn word c.args.byte P (map g.P.Phrase.view l) tail c.args.bytes.now)
          (sym c.new-items.ensures.items)
          (goes_on word c.args.byte P tail c.args.bytes.now text),
      omega (arith, sum, ap (length {A = ℕ}) text),
    )

pub returns-in_default-read : goal.returns-in_default-read
returns-in_default-read g c a =
    goes_nowhere c.args.word.now c.args.byte (g.P.Phrase.spelling c.args.phrase.now) _
    c.items.tail.now c.args.bytes.now c.items.invariant.0 c.in_default-read.ensures.read a.0 a.1

pub items-preserved : goal.items-preserved
items-preserved g c =
    let word = c.args.word.now in
    let P = g.P.Phrase.spelling c.args.phrase.now in
    let read = c.in-Some-read.ensures.read in
    let shorter = c.in-Some-read.ensures.shorter in
    let after = c.in-Some-split_first.next.now in
    let next : c.in-Some-read.rest.now ≡ c.args.byte ∷ after = search rules in
    let one : OneWay P = search rules in
    let pushed : c.push.new.self.items ≡ c.items.items.items ++ c.in-Some-read.item ∷ [] =
    search rules in
    let grown = ap (map g.P.Phrase.view) pushed
    ∙ map-append g.P.Phrase.view c.items.items.items (c.in-Some-read.item ∷ []) in (
      subst (λ l. GoesOn word c.args.byte P l after c.args.bytes.now) (sym grown)
          (goes_on_more word c.args.byte P one _ (g.P.Phrase.view c.in-Some-read.item)
          c.items.tail.now c.in-Some-read.rest.now after c.args.bytes.now c.items.invariant.0
          read.0 read.1 next),
      omega (arith, shorter, c.items.invariant.1, ap (length {A = ℕ}) next),
    )
