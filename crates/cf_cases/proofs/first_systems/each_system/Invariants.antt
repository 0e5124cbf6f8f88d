use Rattle.cf_tree.specs.RelView.{rel_tree}
use Rattle.cf_linear.specs.Views.{plain_layout}
use Rattle.cf_cases.proofs.FirstSystemLaws.{IsTaken}
use Rattle.cf_cases.proofs.first_systems.each_system.Given as goal

abbrev pub invariant-loop-index : goal.invariant-loop-index
invariant-loop-index l = IsTaken (plain_layout l.layout) (rel_tree l.counted) l.index l.all.items
