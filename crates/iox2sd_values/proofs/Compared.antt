-- A comparison of services has one answer.
use Rattle.iox2sd_values.proofs.Prelude.{ComparesAlike, Err, HasOneAnswer, None, Ok, Option, Some, [], ap, arith, nat_eq, option_eq, option_map, refl, sym, true, true≢false, ℕ, ◌∙◌, ◌∷◌, ◌≡◌, ◌≤◌}
use Rattle.std.specs.Duration.{as_nanos}
use Rattle.std.specs.declared.time.Duration.{Duration}
use Rattle.iox2_config.specs.declared.config.defaults.Event.{Event as Settings}
use Rattle.iox2_static.specs.Event.{deadline_of, duration_of, event_of}
use Rattle.iox2_static.specs.Requirements.{first_unmet, is_as_long}
use Rattle.iox2_static.specs.Satisfies.{publish_subscribe_requirements, event_requirements, request_response_requirements, blackboard_requirements}
use Rattle.iox2_static.specs.declared.static_config.event.StaticConfig.{StaticConfig as Event}
use Rattle.iox2sd_common.specs.ReadSettings.{ReadsDeadline, ReadsEventAs, field_answer}
use Rattle.iox2sd_common.specs.declared.read_settings.Field.TheVariants as field
use Rattle.iox2sd_common.specs.declared.settings.OptionalDuration.{OptionalDuration}
use Rattle.iox2sd_values.specs.Prelude.{EventConfig, EventSettings, Field, FieldAnswer}
use Rattle.iox2sd_values.specs.Descriptions.{c_publish_subscribe, c_request_response, c_blackboard}
use Rattle.iox2sd_values.specs.Satisfies.{ComparesEvents, ReadsFixed, SatisfiesBy, SatisfiesEvent, fixed_publish_subscribe, fixed_request_response, fixed_blackboard, satisfied, settings_of}

pub publish_subscribes :
    ComparesAlike c_publish_subscribe fixed_publish_subscribe publish_subscribe_requirements
unfolding publish_subscribe_requirements
publish_subscribes service required = refl

pub request_responses :
    ComparesAlike c_request_response fixed_request_response request_response_requirements
unfolding request_response_requirements
request_responses service required = refl

pub blackboards : ComparesAlike c_blackboard fixed_blackboard blackboard_requirements
unfolding blackboard_requirements
blackboards service required = refl

-- where both are given, and one comparison of two has one answer
where_given : {C : Type 0} (Compares : C → C → FieldAnswer → Type 0)
    → ((s r : C) (one other : FieldAnswer) → Compares s r one → Compares s r other → one ≡ other)
    → HasOneAnswer (SatisfiesBy Compares)
where_given Compares each [] required one other is also = is ∙ sym also
where_given Compares each (s ∷ others) [] one other is also = is ∙ sym also
where_given Compares each (s ∷ others) (r ∷ more) one other is also = each s r one other is also

-- what a deadline is read as has one length
abbrev length_of : Option Duration → Option ℕ
length_of d = option_map as_nanos d

one_length : (given : OptionalDuration) (a b : Option Duration) → ReadsDeadline given (Ok a)
    → ReadsDeadline given (Ok b) → length_of a ≡ length_of b
one_length given None None is also = refl
one_length given None (Some b) is also = absurd (true≢false (sym also.0 ∙ is))
one_length given (Some a) None is also = absurd (true≢false (sym is.0 ∙ also))
one_length given (Some a) (Some b) is also = ap Some (is.1.1 ∙ sym also.1.1)

by_length : (a b : Option Duration)
    → option_eq is_as_long (duration_of (deadline_of a)) (duration_of (deadline_of b))
    ≡ option_eq nat_eq (length_of a) (length_of b)
by_length None None = refl
by_length None (Some b) = refl
by_length (Some a) None = refl
by_length (Some a) (Some b) = refl

-- settings that are read of the same plain values are required alike
alike : (s r : EventSettings) (a b c d : Settings) → ReadsEventAs s a → ReadsEventAs s b
    → ReadsEventAs r c → ReadsEventAs r d
    → event_requirements (event_of a) (event_of c) ≡ event_requirements (event_of b) (event_of d)
unfolding event_requirements
alike s r a b c d of_a of_b of_c of_d =
    let one = one_length s.deadline a.deadline b.deadline of_a.deadline of_b.deadline in
    let other = one_length r.deadline c.deadline d.deadline of_c.deadline of_d.deadline in
    let left = by_length a.deadline c.deadline in
    let right = by_length b.deadline d.deadline in
    cc

required_alike : (s r : EventConfig) (a b c d : Event) → ReadsFixed s (Ok a) → ReadsFixed s (Ok b)
    → ReadsFixed r (Ok c) → ReadsFixed r (Ok d) → event_requirements a c ≡ event_requirements b d
required_alike s r a b c d (x, is_x, at_x) (y, is_y, at_y) (z, is_z, at_z) (w, is_w, at_w) =
    rw (at_x, at_y, at_z, at_w)
    (alike (settings_of s) (settings_of r) x y z w is_x is_y is_z is_w)

-- an invalid field is the deadline, which has no length then
bad_deadline : (given : OptionalDuration) (f : Field) → ReadsDeadline given (Err f)
    → (f ≡ field.Deadline) × (given.is_some ≡ true) × (1_000_000_000 ≤ given.nanoseconds)
bad_deadline given field.Deadline bad = (refl, bad.0, bad.1)
bad_deadline given _ bad = absurd bad

one_field : (c : EventConfig) (f g : Field) → ReadsFixed c (Err f) → ReadsFixed c (Err g) → f ≡ g
one_field c f g is also =
    (bad_deadline c.deadline f is).0 ∙ sym (bad_deadline c.deadline g also).0

not_both : (given : OptionalDuration) (d : Option Duration) (f : Field)
    → ReadsDeadline given (Ok d) → ReadsDeadline given (Err f) → ⊥
not_both given None f is bad = true≢false (sym (bad_deadline given f bad).1 ∙ is)
not_both given (Some d) f is bad = omega (arith, is.1.0, (bad_deadline given f bad).2)

apart : (c : EventConfig) (a : Event) (f : Field) → ReadsFixed c (Ok a) → ReadsFixed c (Err f) → ⊥
apart c a f is bad = not_both c.deadline is.0.deadline f is.1.deadline bad

one_answer : (s r : EventConfig) (one other : FieldAnswer) → ComparesEvents s r one
    → ComparesEvents s r other → one ≡ other
one_answer s r one other (Err f, bad, is) (Err g, wrong, also) =
    is ∙ ap field_answer (one_field s f g bad wrong) ∙ sym also
one_answer s r one other (Err f, bad, is) (Ok b, on_b, also) = absurd (apart s b f on_b bad)
one_answer s r one other (Ok a, on_a, is) (Err g, wrong, also) = absurd (apart s a g on_a wrong)
one_answer s r one other (Ok a, on_a, (Err f, bad, is)) (Ok b, on_b, (Err g, wrong, also)) =
    is ∙ ap field_answer (one_field r f g bad wrong) ∙ sym also
one_answer s r one other (Ok a, on_a, (Err f, bad, is)) (Ok b, on_b, (Ok d, on_d, also)) =
    absurd (apart r d f on_d bad)
one_answer s r one other (Ok a, on_a, (Ok c, on_c, is)) (Ok b, on_b, (Err g, wrong, also)) =
    absurd (apart r c g on_c wrong)
one_answer s r one other (Ok a, on_a, (Ok c, on_c, is)) (Ok b, on_b, (Ok d, on_d, also)) =
    is ∙ ap (λ rs. satisfied (first_unmet rs)) (required_alike s r a b c d on_a on_b on_c on_d)
    ∙ sym also

pub events : HasOneAnswer SatisfiesEvent
events = where_given ComparesEvents one_answer

pub ruleset answers = (publish_subscribes, events, request_responses, blackboards)
