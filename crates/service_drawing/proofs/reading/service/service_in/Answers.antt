use Rattle.std.proofs.Common.{sym, rules}
use Rattle.iox2_texts.proofs.TextLemmas.{utf8_of_text}
use Rattle.service_drawing.specs.Lines.{MayBeNamed}
use Rattle.service_drawing.proofs.Words.{of_the_line, not_internal, no_name, not_hashed}
use Rattle.service_drawing.proofs.reading.service.service_in.Goals as goal

pub returns-in_default-from_utf8-clause-none : goal.returns-in_default-from_utf8-clause-none
returns-in_default-from_utf8-clause-none c =
    of_the_line MayBeNamed _ _ _ c.in-Some.ensures
    (λ may. c.in_default-from_utf8.ensures.cases.0 (utf8_of_text _ may.name.0.1))

pub returns-in_default-new-clause-none : goal.returns-in_default-new-clause-none
returns-in_default-new-clause-none c =
    let same = c.in-Ok.ensures.cases.0 in
    of_the_line MayBeNamed c.args.line.now c.in-Some.kind c.in-Ok.text.now
    (rw same c.in-Some.ensures)
    (no_name c.in-Some.kind c.in-Ok.text.now c.in_default-new.field-0 c.in_default-new.ensures
    (rw same (sym c.if-is_internal.ensures)))

pub returns-in_default-new-clause-reason : goal.returns-in_default-new-clause-reason
returns-in_default-new-clause-reason c =
    not_internal _ _ _ c.in-Some.ensures c.if-is_internal.ensures

pub returns-in-Err-clause-none : goal.returns-in-Err-clause-none
returns-in-Err-clause-none c =
    of_the_line MayBeNamed c.args.line.now c.in-Some.kind c.in-Ok-new.name (search rules)
    (not_hashed c.in-Some.kind c.in-Ok-new.name c.in-Err.field-0 c.in-Err.ensures)
