-- The verdicts on a log exclude each other.
use Rattle.history_logs.proofs.Words.{All, AllZip, Expected, IsExplained, IsOrderly, IsSeenRightly, Judged as Call, List, Log, None, Refusal, SeenReply, Service, Some, StepOf, Watched, [], ap, arith, calls_in, eqb, inl, inr, length, news, services_in, slice_get, slice_get_within, subst, sum-map, sym, ℕ, ◌++◌, ◌+◌, ◌<◌, ◌∙◌, ◌∷◌, ◌≡◌, ◌≢◌}
use Rattle.std.proofs.Common.{sum}
use Rattle.std.specs.Global.{Vec}
use Rattle.std.specs.Set.{distinct_count}
use Rattle.std.proofs.lemmas.List.Elements.{All-contains}
use Rattle.std.proofs.lemmas.Slice.Zip.{AllZip-long}
use Rattle.histories.proofs.Verdicts.{not_refused}
use Rattle.histories.proofs.Explaining.{explained_seen}
use Rattle.iox2_dynamic.specs.Service as dynamic
use Rattle.iox2_dynamic.specs.declared.dynamic_config.answers.DeregisterNodeState.{DeregisterNodeState}
use Rattle.iox2_dynamic.specs.declared.dynamic_config.answers.DeregisterNodeState.TheVariants as nodes
use Rattle.iox2_dynamic.specs.Steps.{DeadStep}
use Rattle.iox2_ids.specs.PortId.{port_value}
use Rattle.service_conformance.specs.Judged.{IsList, JudgedStep}
use Rattle.service_conformance.specs.Looks.{unwatched}
use Rattle.service_descriptions.specs.Steps.{CleanedUp, ServesDead, action_for}
use Rattle.service_descriptions.specs.declared.replay.machine.command.Cleanup.TheVariants.{ByPort}
use Rattle.service_descriptions.specs.declared.replay.machine.reply.Reply.{Reply}
use Rattle.service_descriptions.specs.declared.replay.machine.reply.Reply.TheVariants as reply
use Rattle.history_logs.specs.declared.logs.verdict.Expected.TheVariants as expected
use Rattle.history_logs.specs.Laws.{VerdictsExclude}
use Rattle.history_logs.specs.Logs.{HasGood, IsBad, Judged, RefusesAt, RefusesIn}
use Rattle.history_logs.specs.SameLogs.{IsSameCall, IsSameLog, IsSameReply, IsSameService}
use Rattle.history_logs.specs.SameLogs.IsSameCall.{other_dead, other_stop, own_call}
use Rattle.history_logs.specs.SameLogs.IsSameReply.{other_ids, own_reply}
use Rattle.history_logs.proofs.AtIndex.{all_get, all_of, get_within}
use Rattle.history_logs.proofs.Named.{map_same}
use Rattle.history_logs.proofs.Kept.{kept_read}
use Rattle.history_logs.proofs.Readings.{one_reading}
use Rattle.history_logs.proofs.SameSeen.{same_number, same_service_start, zip_at}
use Rattle.history_logs.proofs.SameSteps.{no_wait}

-- a cleanup with the same list
cleaned : (old : dynamic.Service) (node : ℕ) (kept other : Vec ℕ) (answer : DeregisterNodeState)
    (new : dynamic.Service) → kept.items ≡ other.items
    → CleanedUp old node (ByPort kept) answer new → CleanedUp old node (ByPort other) answer new
cleaned old node kept other answer new e c = (
  c.0,
  subst (λ (l : List ℕ). DeadStep (λ left port action left'.
      (action ≡ action_for l (port_value port)) × (left' ≡ left)) old [] node answer new c.0) e c.1,
)

-- the removal of a dead node, with the same list
dead_same : (old : dynamic.Service) (node : ℕ) (kept other : Vec ℕ) (r : Reply)
    (new : dynamic.Service) → kept.items ≡ other.items → ServesDead old node (ByPort kept) r new
    → ServesDead old node (ByPort other) r new
dead_same old node kept other reply.HasOwners new e d =
    cleaned old node kept other nodes.HasOwners new e d
dead_same old node kept other reply.NoMoreOwners new e d =
    cleaned old node kept other nodes.NoMoreOwners new e d
dead_same old node kept other _ new e d = absurd d

-- the same call leads on as the call does
judged_same : (c d : Call) → IsSameCall c d → (number : ℕ) (old new : Watched)
    → JudgedStep number c old new → JudgedStep number d old new
judged_same c d (own_call x) number old new step = step
judged_same c d (other_dead node kept other handle words e) number old new step =
    let r = step.1.2.0 in
    let mid = step.1.2.2.0 in (
      step.0,
      (
        step.1.0,
        step.1.1,
        (
          r,
          step.1.2.1,
          (
            mid,
            dead_same old.service node kept other r mid e step.1.2.2.1,
            step.1.2.2.2,
            step.1.2.2.3,
          ),
        ),
      ),
      step.2,
    )
judged_same c d (other_stop start r s q) number old new step = (
  (list_same r s q step.0.0, step.0.1),
  step.1,
)
  where
    list_same : (r s : SeenReply) → IsSameReply r s → IsList r → IsList s
    list_same r s (own_reply x) is = is
    list_same r s (other_ids ids other e) is = tt

-- what is explained of a service is explained of the same
step_of : (s t : Service) → IsSameService s t → (old : Watched) (number : ℕ) (new : Watched)
    → StepOf s old number new → StepOf t old number new
step_of s t p old number new step =
    let d =
    get_within t.calls step.1.0 (omega (
      arith,
      AllZip-long IsSameCall s.calls t.calls p.calls,
      slice_get_within s.calls step.1.0 step.0 step.1.2,
    )) in
    let same = zip_at IsSameCall s.calls t.calls step.1.0 step.0 d.0 p.calls step.1.2 d.1 in
    (d.0, (step.1.0, step.1.1, d.1), judged_same step.0 d.0 same number old new step.2)

pub right_same : (s t : Service) → IsSameService s t → IsSeenRightly s → IsSeenRightly t
right_same s t p right =
    let events : t.events ≡ s.events = ap (λ (x : Service). x.events) p.others in
    let explained =
    explained_seen (StepOf s) (StepOf t) (λ (w : Watched). w) s.events
    (λ old number new some step. step_of s t p old number new step) (news s) right in
    subst (λ es. IsExplained (StepOf t) es (news t)) (sym events)
    (subst (λ start. IsExplained (StepOf t) s.events (unwatched start ∷ []))
    (sym (same_service_start s t p)) explained)

pub all_right_same : (ss ts : List Service) → AllZip IsSameService ss ts
    → All IsSeenRightly ss → All IsSeenRightly ts
all_right_same ss ts zip right =
    all_of IsSeenRightly ts (λ at t there.
    let s =
    get_within ss at
    (omega (arith, AllZip-long IsSameService ss ts zip, slice_get_within ts at t there)) in
    right_same s.0 t (zip_at IsSameService ss ts at s.0 t zip s.1 there)
    (all_get IsSeenRightly ss at s.0 right s.1))

-- where all that was seen is explained, no reply is refused
pub none_refused : (services : List Service) (k : ℕ) (s : Service) (index : ℕ)
    → All IsOrderly services → All IsSeenRightly services → ¬ (RefusesAt services k s index)
none_refused services k s index orderly right r =
    not_refused (StepOf s) (news s) s.events
    (All-contains IsOrderly services s orderly r.is).history index
    (All-contains IsSeenRightly services s right r.is) r.stops

-- the same in each reading of a text
pub not_right : (text : List ℕ) (count : ℕ) (log : Log) (rest : List ℕ)
    → HasGood text count log rest → All IsSeenRightly log.services → (r : Refusal)
    → ¬ (RefusesIn text r)
not_right text count log rest good right r is =
    let same = one_reading text count is.0 log is.1 rest is.2 good is.3 in
    none_refused is.1.services r.reply is.4.s is.4.index
    (kept_read is.3.text is.0 is.1 is.3.read).orderly
    (all_right_same log.services is.1.services same.2.services right) is.4.stops

-- as many calls and services
same_counts : (log other : Log) → IsSameLog log other
    → (calls_in log ≡ calls_in other) × (services_in log.services ≡ services_in other.services)
same_counts log other same =
    let long = AllZip-long IsSameService log.services other.services same.services in
    let pairs : (at : ℕ) (s t : Service) → slice_get log.services at ≡ Some s
    → slice_get other.services at ≡ Some t → IsSameService s t =
    λ at s t. zip_at IsSameService log.services other.services at s t same.services in
    let calls =
    map_same (λ (s : Service). length s.commands) log.services other.services long
    (λ at s t there here. ap (λ (x : Service). length x.commands) (pairs at s t there here).others)
    in
    let numbers =
    map_same (λ (s : Service). s.line.number) log.services other.services long
    (λ at s t there here. same_number s t (pairs at s t there here)) in (
      sym (sum-map (λ (s : Service). length s.commands) log.services)
          ∙ (ap sum (sym calls) ∙ sum-map (λ (s : Service). length s.commands) other.services),
      ap (λ ns. distinct_count eqb ns) (sym numbers),
    )

no_end : (log : Log) (rest : List ℕ) (e : Expected) → rest ≡ [] → log.waits ≡ None
    → 0 < services_in log.services → ¬ (IsBad log rest e)
no_end log rest expected.Service end waits some (inl bad) =
    absurd (omega (arith, ap services_in bad.1))
no_end log rest expected.Reply end waits some (inl bad) = absurd (bad.1 waits)
no_end log rest _ end waits some (inl bad) = absurd bad.1
no_end log rest e end waits some (inr (inl bad)) = absurd (bad.0 end)
no_end log rest e end waits some (inr (inr bad)) =
    absurd (some_behind bad.0 10 bad.1 (sym bad.3 ∙ end))
  where
    some_behind : (xs : List ℕ) (x : ℕ) (ys : List ℕ) → xs ++ x ∷ ys ≢ []
    some_behind [] x ys f = absurd (cc)
    some_behind (y ∷ xs) x ys f = absurd (cc)

pub verdicts_exclude : (bytes : List ℕ) → VerdictsExclude bytes
unfolding Judged
verdicts_exclude bytes = record {
  conforms_or_refused = λ n m r a b. not_right bytes a.0 a.1 [] a.2 a.4 b.whole.0 b.whole.1;
  conforms_or_bad = λ n m k e a b.
      let same = one_reading bytes a.0 b.0 a.1 b.1 [] b.2 a.2 b.3 in
      let counts = same_counts a.1 b.1 same.2 in
      no_end b.1 b.2 e (sym same.1) (no_wait a.1.waits b.1.waits same.2.waits a.3)
      (subst (λ x. 0 < x) (a.6 ∙ counts.1) a.7) b.5;
  bad_or_refused = λ k e r a b. not_right bytes a.0 a.1 a.2 a.3 a.4 b.whole.0 b.whole.1;
  one_count = λ n m i j a b.
      let same = one_reading bytes a.0 b.0 a.1 b.1 [] [] a.2 b.2 in
      let counts = same_counts a.1 b.1 same.2 in
      (a.5 ∙ (counts.0 ∙ sym b.5), a.6 ∙ (counts.1 ∙ sym b.6));
  one_line = λ k j e f a b.
      let same = one_reading bytes a.0 b.0 a.1 b.1 a.2 b.2 a.3 b.3 in
      a.6 ∙ (ap (λ n. n + 1) same.0 ∙ sym b.6);
}
