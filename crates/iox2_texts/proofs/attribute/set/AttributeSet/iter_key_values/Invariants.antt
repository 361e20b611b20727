use Rattle.std.proofs.Common.{drop}
use denote.Param.Always.{always_mut}
use Rattle.std.specs.Fn.{CalledAt, TakesAt}
use Rattle.iox2_texts.specs.Attribute.{Visits, values_of}
use Rattle.iox2_texts.specs.Callbacks.{MayVisit}
use Rattle.iox2_texts.proofs.attribute.set.AttributeSet.iter_key_values.Given as goal

abbrev pub invariant-loop-attribute : goal.invariant-loop-attribute
invariant-loop-attribute g l = record {
  -- on the values that are left the callback may be called
  callable : MayVisit (TakesAt g.F.FnMut) (CalledAt g.F.FnMut) l.callback
      (values_of (drop l.attribute-index l.attribute-items) l.key);
  -- however the calls at these end, all of them end so
  visits : (last : _)
      → Visits (CalledAt g.F.FnMut) l.callback
      (values_of (drop l.attribute-index l.attribute-items) l.key) last
      → Visits (CalledAt g.F.FnMut) l.initial.callback (values_of l.attribute-items l.key) last;
  always : always_mut g.F.FnMut l.initial.callback → always_mut g.F.FnMut l.callback;
}
