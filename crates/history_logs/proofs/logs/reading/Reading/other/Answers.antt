use Rattle.history_logs.proofs.Words.{AreNumbers, IsLine, None, Some, TakesNext, arith, false, is_service, length, line_seen, line_text, log_of, nil_from_length, refl, rules, subst, sym, take, true, ◌≡◌}
use Rattle.history_logs.specs.declared.logs.reading.Reading.{Reading}
use Rattle.history_logs.proofs.Kept.{numbers_line}
use Rattle.history_logs.proofs.Refused.{taken, wrong_first}
use Rattle.history_logs.proofs.logs.reading.Reading.other.Goals.{else-is_empty-via-then-is_empty+else-not-is_service, else-is_empty-via-else-is_empty}
use Rattle.history_logs.proofs.logs.reading.Reading.other.Goals as goal

pub returns-then-not-is_service-clause-takes : goal.returns-then-not-is_service-clause-takes
returns-then-not-is_service-clause-takes c =
    let l = line_seen c.in-Some.read in
    let p : IsLine l = search rules in
    let is : c.args.text.now ≡ line_text l = search rules in
    let none : length c.args.self.now.services.items ≡ 0 = search rules in
    let empty = nil_from_length c.args.self.now.services.items none in
    let other : is_service l ≡ false = search rules in
    (wrong_first (log_of c.args.self.now) _ l p is empty other, refl)

pub returns-in_default-2-clause-takes : goal.returns-in_default-2-clause-takes
returns-in_default-2-clause-takes c =
    let l = line_seen c.in-Some.read in
    let p : IsLine l = search rules in
    let is : c.args.text.now ≡ line_text l = search rules in
    subst (λ (r : Reading). TakesNext (log_of c.args.self.now) c.args.line c.args.text.now None
    (log_of r)) (sym c.add_number.ensures.same)
    (taken (log_of c.args.self.now) (log_of c.take.new.self) c.args.line c.args.text.now l None p is
    (λ empty. elim c.else-is_empty.branch as (λ _. is_service l ≡ true) [
      | else-is_empty-via-then-is_empty+else-not-is_service w ↦ search rules
      | else-is_empty-via-else-is_empty w ↦ search rules
    ])
    (rw c.in_default-2.is at c.in_ok-expected.ensures.does))

pub add_number-requires : goal.add_number-requires
add_number-requires c =
    let l = line_seen c.in-Some.read in
    let p : IsLine l = search rules in
    let is : c.args.text.now ≡ line_text l = search rules in
    let takes =
    taken (log_of c.args.self.now) (log_of c.take.new.self) c.args.line c.args.text.now l None p is
    (λ empty. elim c.else-is_empty.branch as (λ _. is_service l ≡ true) [
      | else-is_empty-via-then-is_empty+else-not-is_service w ↦ search rules
      | else-is_empty-via-else-is_empty w ↦ search rules
    ])
    (rw c.in_default-2.is at c.in_ok-expected.ensures.does) in
    let old = c.args.self.now in
    let new = c.take.new.self.services.items in
    let more = numbers_line old.numbers (log_of old) (log_of c.take.new.self) c.args.line
    c.args.text.now takes c.requires.ready.numbers in
    let long : c.len-known.result ≡ length old.services.items = omega arith in
    record {
      known = omega (arith, more.0);
      one = omega (arith, more.1);
      numbers = subst (λ m. AreNumbers m (take c.len-known.result new)) (sym c.take.ensures.numbers)
          (subst (λ n. AreNumbers old.numbers (take n new)) (sym long) more.2);
    }

pub returns-clause-takes : goal.returns-clause-takes
returns-clause-takes c =
    let l = line_seen c.in-Some.read in
    let p : IsLine l = search rules in
    let is : c.args.text.now ≡ line_text l = search rules in
    taken (log_of c.args.self.now) (log_of c.take.new.self) c.args.line c.args.text.now l
    (Some c.in-Some-2.expected) p is
    (λ empty. elim c.else-is_empty.branch as (λ _. is_service l ≡ true) [
      | else-is_empty-via-then-is_empty+else-not-is_service w ↦ search rules
      | else-is_empty-via-else-is_empty w ↦ search rules
    ])
    (rw c.in-Some-2.is at c.in_ok-expected.ensures.does)
