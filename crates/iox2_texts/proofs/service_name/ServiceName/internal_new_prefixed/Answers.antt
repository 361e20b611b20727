use Rattle.std.proofs.Common.{◌∙◌}
use Rattle.iox2_texts.proofs.TextLemmas.{prefixed_error}
use Rattle.iox2_texts.proofs.service_name.ServiceName.internal_new_prefixed.Goals as goal

pub returns-in_err-try_push_bytes : goal.returns-in_err-try_push_bytes
returns-in_err-try_push_bytes c =
    let started = rw c.new-text.ensures at c.push_bytes.ensures.value in
    rw (← c.as_bytes-2.ensures.value)
    (prefixed_error _ _ _ _ _ _
    (started ∙ c.as_bytes.ensures.value) c.in_err-try_push_bytes.ensures
    c.from_residual.ensures.1)
