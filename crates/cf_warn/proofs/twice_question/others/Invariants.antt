use Rattle.std.proofs.Common.{◌≡◌, ◌++◌, map, length}
use Rattle.cf_tree.specs.RelView.{rel_tree}
use Rattle.cf_warn.specs.Questions.{others}
use Rattle.cf_warn.proofs.twice_question.others.Given as goal

abbrev pub invariant-loop-base : goal.invariant-loop-base
invariant-loop-base l = map rel_tree l.rels.items ++ others l.rest l.x l.y ≡ others l.fn.outputs l.fn.first l.fn.second

abbrev pub decreases-loop-base : goal.decreases-loop-base
decreases-loop-base l = length l.rest
