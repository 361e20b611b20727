use Rattle.config_report.proofs.Prelude.{refl, string_bytes, on_ok_weaker}
use Rattle.config_report.proofs.Lines.{then}
use Rattle.config_report.proofs.text.write_needs.Goals as goal

pub returns : goal.returns
returns c =
    let start = string_bytes c.args.out.now in
    let title = string_bytes c.write.new.self in
    let publishers = string_bytes c.write_need.new.out in
    let clients = string_bytes c.write_need-2.new.out in
    let servers = string_bytes c.write_need-3.new.out in
    let end = string_bytes c.write-2.new.self in
    let (first, wrote_first, is_first) = c.in_ok-write_need.ensures _ c.samples.ensures in
    let (second, wrote_second, is_second) = c.in_ok-write_need-2.ensures _ c.requests.ensures in
    let (third, wrote_third, is_third) = c.in_ok-write_need-3.ensures _ c.responses.ensures in
    on_ok_weaker c.write-2.result
    (λ last. (
      _,
      then start title end _ _ c.in_ok-write.ensures.bytes
          (then title publishers end _ _ wrote_first
          (then publishers clients end _ _ wrote_second
          (then clients servers end _ _ wrote_third last))),
      (first, second, third, is_first, is_second, is_third, refl),
    )) c.write-2.ensures.bytes
