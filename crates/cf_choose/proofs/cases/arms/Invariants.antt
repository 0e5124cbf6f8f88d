use Rattle.std.proofs.Common.{take}
use Rattle.cf_linear.specs.Views.{plain_layout}
use Rattle.cf_choose.specs.Eliminations.{AreArmsFor}
use Rattle.cf_choose.proofs.cases.arms.Given as goal

abbrev pub invariant-loop-case : goal.invariant-loop-case
invariant-loop-case l = AreArmsFor (plain_layout l.layout) (take l.case-index l.cases) l.arms.items
