use Rattle.std.proofs.Common.{◌≡◌, length, arith, rules}
use Rattle.iox2_config.specs.TypeDetails.{detail}
use Rattle.iox2_texts.proofs.TextLemmas.{utf8_of_text}
use Rattle.service_drawing.proofs.Words.{no_type, not_made}
use Rattle.service_drawing.proofs.reading.message.type_in.Goals as goal

pub returns-then-is_empty : goal.returns-then-is_empty
returns-then-is_empty c t same d is =
    let empty : length c.in_ok-size.name.now ≡ 0 = search rules in
    no_type c.args.text.now c.in_ok-size.name.now c.in_ok-size.size c.in_ok-size.alignment
    (search rules) (search rules) (search rules) (λ legal. omega (arith, legal.0, empty)) t d is

pub returns-in_default : goal.returns-in_default
returns-in_default c t same d is =
    no_type c.args.text.now c.in_ok-size.name.now c.in_ok-size.size c.in_ok-size.alignment
    (search rules) (search rules) (search rules)
    (λ legal. c.in_default.ensures.cases.0 (utf8_of_text c.in_ok-size.name.now legal.1.1)) t d is

pub returns-in-Err : goal.returns-in-Err
returns-in-Err c t same d is =
    let parts = detail c.args.variant c.in-Ok.type_name.now c.in_ok-size.size
    c.in_ok-size.alignment in
    no_type c.args.text.now c.in-Ok.type_name.now c.in_ok-size.size c.in_ok-size.alignment
    (search rules) (search rules) (rw c.in-Ok.ensures.cases.0 c.in_ok-size.ensures)
    (λ legal. not_made parts c.in-Err.field-0 c.in-Err.ensures (legal.1, legal.2)) t d is
