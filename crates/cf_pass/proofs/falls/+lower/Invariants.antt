use Rattle.std.proofs.Common.{◌≡◌, ◌+◌, ◌*◌, max}
use Rattle.cf_tree.specs.CodeView.{code_trees}
use Rattle.cf_tree.proofs.code.Code.TheLaws.{the_size}
use Rattle.cf_pass.specs.LetSteps.{lowered}
use Rattle.cf_pass.proofs.LetItems.{moved_to}
use Rattle.cf_pass.proofs.falls.+lower.Given as goal

abbrev pub decreases-lower : goal.decreases-lower
decreases-lower l = 4 * the_size l.code.now

abbrev pub decreases-lower_part : goal.decreases-lower_part
decreases-lower_part l = 4 * the_size l.part.now.value + 1

abbrev pub decreases-lower_two : goal.decreases-lower_two
decreases-lower_two l = 4 * max (the_size l.a.now.value) (the_size l.b.now.value) + 1

abbrev pub decreases-lower_three : goal.decreases-lower_three
decreases-lower_three l = 4 * max (the_size l.a.now.value) (max (the_size l.b.now.value) (the_size l.c.now.value)) + 1

abbrev pub decreases-lower_all : goal.decreases-lower_all
decreases-lower_all l = 4 * goal.size-lower_all l + 1

abbrev pub invariant-lower_all-loop-code : goal.invariant-lower_all-loop-code
invariant-lower_all-loop-code l = record {
  unvisited : goal.unvisited-lower_all-loop-code l;
  done : code_trees l.code-items ≡ moved_to (lowered l.fall.first l.fall.gone.items l.fall.dropped) l.code-index (code_trees l.fn.codes.items);
}
