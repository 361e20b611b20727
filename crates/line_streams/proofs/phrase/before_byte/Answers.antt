use Rattle.std.proofs.Common.{sym, subst}
use Rattle.line_streams.specs.Spelling.{HasNo}
use Rattle.line_streams.proofs.Indices.{front_is, all_before, has_none, parts_at, has_one}
use Rattle.line_streams.proofs.phrase.before_byte.Goals as goal

pub returns-in-Some-clause-read : goal.returns-in-Some-clause-read
returns-in-Some-clause-read c =
    parts_at c.args.byte c.args.bytes.now c.in-Some.end (sym c.in-Some.ensures)

pub returns-in-None-clause-read : goal.returns-in-None-clause-read
returns-in-None-clause-read c a fits e =
    has_one c.args.byte a.0 a.1
    (subst (HasNo c.args.byte) e (has_none c.args.byte c.args.bytes.now (sym c.in-None.ensures)))

pub returns-in-None-clause-none : goal.returns-in-None-clause-none
returns-in-None-clause-none c = has_none c.args.byte c.args.bytes.now (sym c.in-None.ensures)

pub returns-in-Some-clause-first : goal.returns-in-Some-clause-first
returns-in-Some-clause-first c = front_is _ _ _ (sym c.in-Some.ensures)

pub returns-in-None-clause-first : goal.returns-in-None-clause-first
returns-in-None-clause-first c = all_before _ _ (sym c.in-None.ensures)
