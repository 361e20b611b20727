use Rattle.std.proofs.Common.{◌≡◌, ◌∙◌, ◌++◌, ◌+◌, ◌-◌, ℕ, List, Some, codes, inr, ap, sym, subst, string_bytes, take, drop, length}
use Rattle.memchr.specs.Find.{FindsNeedle}
use Rattle.std.proofs.lemmas.List.{take_rest}
use Rattle.config_report.specs.Findings.{IsRefusal, Refusal}
use Rattle.service_drawing.specs.Descriptions.{HasBlock}
use Rattle.service_drawing.proofs.streams.base_of.Goals as goal

-- the slice from this index on
abbrev from : ℕ → List ℕ → List ℕ
from n bytes = take (length bytes - n) (drop n bytes)

block_to : (bytes more : List ℕ) (at : ℕ) → bytes ≡ codes "config\n" ++ more
    → FindsNeedle (from 6 bytes) (codes "\nend\n") 0 (Some at)
    → HasBlock (take (at + 1) (from 6 bytes)) (from (at + 5) (from 6 bytes)) bytes
block_to bytes more at opens ends =
    let same = take_rest bytes 6 in
    record {
      opens = (more, opens);
      at = at;
      ends = rw same at ends;
      file = ap (take (at + 1)) same;
      left = take_rest (from 6 bytes) (at + 5) ∙ ap (drop (at + 5)) same;
    }

pub returns-in_default-find : goal.returns-in_default-find
returns-in_default-find c = (
  (c.in-Some.field-0.now, c.in-Some.ensures.some),
  λ settings rest block.
      let ends = rw (sym (take_rest c.args.bytes.now 6)) at block.ends in
      c.in_default-find.ensures block.at ends.0.low ends.0.high ends.1,
)

pub returns-in-Ok : goal.returns-in-Ok
returns-in-Ok c =
    let block = block_to c.args.bytes.now _ c.in-Some-find.end c.in-Some.ensures.some
    c.in-Some-find.ensures in
    inr (_, block, c.in-Ok.ensures)

pub returns-in-Err-Refused : goal.returns-in-Err-Refused
returns-in-Err-Refused c =
    let settings = take (c.in-Some-find.end + 1) (from 6 c.args.bytes.now) in
    let block = block_to c.args.bytes.now _ c.in-Some-find.end c.in-Some.ensures.some
    c.in-Some-find.ensures in
    let refusal = subst (Refusal settings) c.in-Err-Refused.field-0-is c.in-Err-Refused.ensures in
    let moved = sym c.in-Err-Refused.lines-is in
    (settings, _, block, subst (λ l. IsRefusal settings (string_bytes l)) moved refusal)
