use Rattle.cf_form.proofs.ChooseWalk.{AreFoundSo}
use Rattle.cf_form.proofs.chooses.wide_chooses.Given as goal

abbrev pub invariant-loop-index : goal.invariant-loop-index
invariant-loop-index l = AreFoundSo l.defs l.index l.all.items
