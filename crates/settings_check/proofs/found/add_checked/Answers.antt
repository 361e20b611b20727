use Rattle.std.proofs.Common.{refl, sym, append-nil}
use Rattle.settings_check.specs.Found.{findings_seen}
use Rattle.settings_check.proofs.Lists.{same_parts}
use Rattle.settings_check.proofs.found.add_checked.Goals as goal

pub returns : goal.returns
returns c =
    let findings = c.in_ok-findings.findings in (
      findings_seen c.args.file.now c.args.text.items findings,
      (findings, rw c.deref.ensures.value at c.in_ok-findings.ensures, refl),
      same_parts _ _ c.in_ok-add_findings.ensures (sym (append-nil _)) c.in_ok-add_valid.ensures,
    )
