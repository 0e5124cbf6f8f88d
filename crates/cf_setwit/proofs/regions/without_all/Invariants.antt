use Rattle.std.proofs.Common.{◌≡◌, take}
use Rattle.std.specs.List.{fold}
use Rattle.cf_tree.specs.CodeTree.{code_diff}
use Rattle.cf_tree.specs.CodeView.{code_tree}
use Rattle.cf_linear.specs.Arm.{vars}
use Rattle.cf_setwit.proofs.regions.without_all.Given as goal

abbrev pub invariant-loop-level : goal.invariant-loop-level
invariant-loop-level l = code_tree l.rest ≡ fold (λ c d. code_diff c d) (code_tree l.initial.rest) (vars (take l.level-index l.levels))
