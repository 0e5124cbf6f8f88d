use Rattle.cf_form.specs.Saturated.{AreNarrowSo}
use Rattle.cf_form.proofs.saturated.all_narrow.Given as goal

abbrev pub invariant-loop-index : goal.invariant-loop-index
invariant-loop-index l = AreNarrowSo l.defs l.index
