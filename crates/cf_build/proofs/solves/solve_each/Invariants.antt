use Rattle.std.proofs.Common.{map, take}
use Rattle.cf_tree.specs.ChooseView.{choose_tree}
use Rattle.cf_build.specs.Solves.{AreSolved}
use Rattle.cf_build.proofs.solves.solve_each.Given as goal

abbrev pub invariant-loop-choose : goal.invariant-loop-choose
invariant-loop-choose l = AreSolved (map choose_tree (take l.choose-index l.chooses)) l.solves.items
