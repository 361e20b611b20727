use Rattle.std.proofs.Common.{inl, inr, refl}
use Rattle.service_drawing.proofs.Answered.{handed_on}
use Rattle.service_drawing.proofs.reading.exchange_before.Goals as goal

pub returns-in_err-request-in-RequestResponse : goal.returns-in_err-request-in-RequestResponse
returns-in_err-request-in-RequestResponse c =
    let bad = c.in_err-request-in-RequestResponse.ensures in
    handed_on _ _ _ _ c.from_residual-in_err-request-in-RequestResponse.ensures
    (rw c.in-RequestResponse.is (inl bad.0), bad.1)

pub returns-in_err-response-in-RequestResponse : goal.returns-in_err-response-in-RequestResponse
returns-in_err-response-in-RequestResponse c =
    let first = c.in_ok-request-in-RequestResponse in
    let bad = c.in_err-response-in-RequestResponse.ensures in
    handed_on _ _ _ _ c.from_residual-in_err-response-in-RequestResponse.ensures
    (rw c.in-RequestResponse.is (inr (first.request, first.rest.now, first.ensures, bad.0)), bad.1)

pub returns-in_ok-response-in-RequestResponse : goal.returns-in_ok-response-in-RequestResponse
returns-in_ok-response-in-RequestResponse c =
    let request = c.in_ok-request-in-RequestResponse.ensures in
    let response = c.in_ok-response-in-RequestResponse.ensures in
    rw c.in-RequestResponse.is ((_, _), refl, (_, request, response))
