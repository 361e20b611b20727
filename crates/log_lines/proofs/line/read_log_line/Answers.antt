use Rattle.std.proofs.Common.{◌≡◌, ◌⊎◌, Some, None, inl, inr, refl, sym, ◌∙◌}
use Rattle.log_lines.specs.Lines.{mark}
use Rattle.log_lines.proofs.Found.{ends_so, reads_so}
use Rattle.log_lines.proofs.OneReading.{numbered_none}
use Rattle.log_lines.proofs.Parts.{ends_none, number_none, plain_none}
use Rattle.log_lines.proofs.line.read_log_line.Goals.{then-mark-eq60-via-then-mark-eq60, then-mark-eq60-via-else-mark-eq60+then-mark-eq33}
use Rattle.log_lines.proofs.line.read_log_line.Goals as goal

pub returns-then-mark-eq60 : goal.returns-then-mark-eq60
returns-then-mark-eq60 c =
    let name = c.split_name.result.0.now in
    let rest = c.split_name.result.1.now in
    let is : (mark rest ≡ 60) ⊎ (mark rest ≡ 33) = elim c.then-mark-eq60.branch [
      | then-mark-eq60-via-then-mark-eq60 w ↦
          inl (sym c.mark_of-mark.ensures ∙ w.if-mark-eq60.true)
      | then-mark-eq60-via-else-mark-eq60+then-mark-eq33 w ↦
          inr (sym c.mark_of-mark.ensures ∙ w.if-mark-eq33.true)
    ] in
    ends_so c.args.line.now _ c.end_of.result c.split_name.ensures.whole c.end_of.ensures.some
    (λ e. ends_none c.args.line.now name rest c.split_name.ensures is
    (rw e at c.end_of.ensures.ended) (rw e at c.end_of.ensures.died))

pub returns-in_default-number_front : goal.returns-in_default-number_front
returns-in_default-number_front c =
    number_none c.args.line.now c.split_name.result.0.now c.split_name.result.1.now
    c.split_name.ensures (sym c.mark_of-mark.ensures ∙ c.if-mark-eq58.true)
    c.in_default-number_front.ensures.none

pub returns-then-mark-eq58 : goal.returns-then-mark-eq58
returns-then-mark-eq58 c =
    let found = c.in-Some-number_front in
    reads_so c.args.line.now found.text.now (Some found.number) c.on_service.result
    found.ensures.some.1 c.on_service.ensures.some c.on_service.ensures.none
    (numbered_none c.args.line.now found.text.now found.number found.ensures.some.0
    found.ensures.some.1)

pub returns : goal.returns
returns c =
    reads_so c.args.line.now c.args.line.now None c.on_service-2.result refl
    c.on_service-2.ensures.some c.on_service-2.ensures.none
    (plain_none c.args.line.now c.split_name.result.0.now c.split_name.result.1.now
    c.split_name.ensures (λ e. c.if-mark-eq60.false (c.mark_of-mark.ensures ∙ e))
    (λ e. c.if-mark-eq33.false (c.mark_of-mark.ensures ∙ e))
    (λ e. c.if-mark-eq58.false (c.mark_of-mark.ensures ∙ e)) c.in_default.ensures.none
    (rw c.in_default-2.is at c.in_ok-service.ensures))
