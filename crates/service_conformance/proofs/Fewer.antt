-- Steps of calls of which fewer replies were seen.
use Rattle.service_conformance.proofs.Names.{All-filter, Bool, Call, CallLeaves, HasWords, Judged, JudgedStep, List, Look, None, Option, Part, SeenReply, Service, Some, Watched, [], answered, ap, append-nil, call, cond, false, filter, ids_in, look_after, look_of, looks_after, refl, stops, subst, sym, true, ℕ, ◌++◌, ◌∙◌, ◌∷◌, ◌≡◌, ◌≢◌}
use Rattle.std.proofs.lemmas.List.Elements.{filter-append}
use Rattle.service_conformance.specs.Judged.Judged.{starts}
use Rattle.service_conformance.proofs.Looking.{by_cases, lacking_is, seen_of}

-- the weak listings whose numbers are kept
abbrev pub looks_kept : (ℕ → Bool) → List Look → List Look
looks_kept keep looks = filter (λ (l : Look). keep l.number) looks

-- the service, at which only these look
abbrev pub hiding : (ℕ → Bool) → Watched → Watched
hiding keep w = record { service = w.service; looks = looks_kept keep w.looks }

-- of the two, which are one but for its reply, no reply to the first one was seen that was not seen
-- to the second one
pub data IsFewer : Judged → Judged → Type 0 where
  own : (c : Judged) → IsFewer c c
  no_words : (c : Call) (words : List ℕ) → c.words ≡ None
      → IsFewer (call c) (call (answered c words))
  no_ids : (p : Part) (ids : List ℕ) → IsFewer (starts p None) (starts p (Some ids))
  no_reply : (start : ℕ) (r : SeenReply) → IsFewer (stops start None) (stops start (Some r))

-- whether it is no weak listing that starts of which no reply was seen: one such does not look
abbrev pub is_shown : Judged → Bool
is_shown (starts p None) = false
is_shown _ = true

module _ (keep : ℕ → Bool) where
  after_kept : (s : Service) (looks : List Look)
      → looks_after s (looks_kept keep looks) ≡ looks_kept keep (looks_after s looks)
  after_kept s [] = refl
  after_kept s (l ∷ looks) =
      one (after_kept s looks) (look_after (ids_in s l.part) l) refl
    where
      one : looks_after s (looks_kept keep looks) ≡ looks_kept keep (looks_after s looks)
          → (o : Option Look) → look_after (ids_in s l.part) l ≡ o
          → looks_after s (looks_kept keep (l ∷ looks))
          ≡ looks_kept keep (looks_after s (l ∷ looks))
      one rest None is =
          by_cases _ (keep l.number) (λ t. rw (is, t) (rw is rest)) (λ f. rw (is, f) rest)
      one rest (Some m) is =
          let same : l.number ≡ m.number =
          ap (λ (x : Look). x.number) (lacking_is (seen_of (ids_in s l.part) l) m is) in
          by_cases _ (keep l.number)
          (λ t.
          let u : keep m.number ≡ true = ap keep (sym same) ∙ t in
          rw (is, t) (rw (is, u) (ap (λ (x : List Look). m ∷ x) rest)))
          (λ f.
          let u : keep m.number ≡ false = ap keep (sym same) ∙ f in
          rw (is, f) (rw u rest))

  -- what a weak listing that starts to look adds
  more_kept : (w : Watched) (l : Look) (b : Bool) → keep l.number ≡ b
      → looks_kept keep (w.looks ++ looks_after w.service (l ∷ []))
      ≡ looks_kept keep w.looks ++ looks_after w.service (cond b (l ∷ []) [])
  more_kept w l b is =
      filter-append (λ (x : Look). keep x.number) w.looks (looks_after w.service (l ∷ []))
      ∙ ap (λ (x : List Look). looks_kept keep w.looks ++ x)
      (sym (after_kept w.service (l ∷ []))
      ∙ ap (λ (x : Bool). looks_after w.service (cond x (l ∷ []) [])) is)

  call_kept : (c : Call) (old new : Watched) → CallLeaves c old new
      → CallLeaves c (hiding keep old) (hiding keep new)
  call_kept c old new step = (
    after_kept old.service old.looks ∙ ap (looks_kept keep) step.0,
    step.1,
    ap (hiding keep) step.2
        ∙ ap (λ (x : List Look). record new { looks = x })
        (sym (after_kept new.service old.looks)),
  )

  own_step : (number : ℕ) (c : Judged) → keep number ≡ is_shown c → (old new : Watched)
      → JudgedStep number c old new → JudgedStep number c (hiding keep old) (hiding keep new)
  own_step number (call c) is old new step = call_kept c old new step
  own_step number (starts p None) is old new step = ap (hiding keep) step
  own_step number (starts p (Some ids)) is old new step =
      ap (hiding keep) step
      ∙ ap (λ (x : List Look). record old { looks = x })
      (more_kept old (look_of number p ids old.service) true is)
  own_step number (stops start None) is old new step = (tt, ap (hiding keep) step.1)
  own_step number (stops start (Some r)) is old new step = (
    (
      step.0.0,
      All-filter (λ (l : Look). keep l.number) (λ (l : Look). l.number ≢ start) old.looks step.0.1,
    ),
    ap (hiding keep) step.1,
  )

  -- what leads on with a reply leads on without it, where no weak listing looks that has no reply
  pub fewer_step : (number : ℕ) (c d : Judged) → IsFewer c d → keep number ≡ is_shown c
      → (old new : Watched) → JudgedStep number d old new
      → JudgedStep number c (hiding keep old) (hiding keep new)
  fewer_step number c d (own x) is old new step = own_step number x is old new step
  fewer_step number c d (no_words x words none) is old new step =
      let leads = step.1.2 in
      call_kept x old new (
        step.0,
        (
          step.1.0,
          step.1.1,
          (leads.0, subst (λ (w : Option (List ℕ)). HasWords w leads.0) (sym none) tt, leads.2),
        ),
        step.2,
      )
  fewer_step number c d (no_ids p ids) is old new step =
      ap (hiding keep) step
      ∙ ap (λ (x : List Look). record old { looks = x })
      (more_kept old (look_of number p ids old.service) false is
      ∙ append-nil (looks_kept keep old.looks))
  fewer_step number c d (no_reply start r) is old new step = (tt, ap (hiding keep) step.1)
