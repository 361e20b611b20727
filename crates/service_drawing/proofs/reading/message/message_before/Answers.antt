use Rattle.std.proofs.Common.{inl, inr}
use Rattle.service_drawing.proofs.Answered.{handed_on}
use Rattle.service_drawing.proofs.Descriptions.{same_message}
use Rattle.service_drawing.proofs.reading.message.message_before.Goals as goal

pub returns-in_err-payload : goal.returns-in_err-payload
returns-in_err-payload c =
    let bad = c.in_err-payload.ensures in
    handed_on _ _ _ _ c.from_residual-in_err-payload.ensures
    (inr (_, _, c.in_ok-header.ensures, inr (_, _, c.in_ok-user_header.ensures, inl bad.0)), bad.1)

pub returns-in_err-elements : goal.returns-in_err-elements
returns-in_err-elements c =
    let bad = rw c.variant.ensures at c.in_err-elements.ensures in
    let payload = inr (_, _, c.in_ok-payload.ensures, inl bad.0) in
    handed_on _ _ _ _ c.from_residual-in_err-elements.ensures
    (inr (_, _, c.in_ok-header.ensures, inr (_, _, c.in_ok-user_header.ensures, payload)), bad.1)

pub returns-in_err-opener : goal.returns-in_err-opener
returns-in_err-opener c =
    let bad = c.in_err-opener.ensures.spelled in
    let elements = rw c.variant.ensures at c.in_ok-elements.ensures in
    let payload = inr (_, _, c.in_ok-payload.ensures, inr (_, _, elements, bad.0)) in
    handed_on _ _ _ _ c.from_residual-in_err-opener.ensures
    (inr (_, _, c.in_ok-header.ensures, inr (_, _, c.in_ok-user_header.ensures, payload)), bad.1)

pub returns : goal.returns
returns c =
    let opener = c.in_ok-opener.ensures in
    let header = c.in_ok-header.ensures in
    let user_header = c.in_ok-user_header.ensures in
    let payload = c.in_ok-payload.ensures in
    let elements = rw c.variant.ensures at c.in_ok-elements.ensures in (
      (_, (_, (_, (_, _)))),
      same_message _ _ _ _ opener.same,
      (_, header, (_, user_header, (_, payload, (_, elements, opener.spelled)))),
    )
