use Rattle.std.proofs.Common.{◌≡◌, take}
use Rattle.cf_tree.specs.Sets.{set_diff}
use Rattle.cf_set.proofs.lists.diff.Given as goal

abbrev pub invariant-loop-x : goal.invariant-loop-x
invariant-loop-x l = l.out.items ≡ set_diff (take l.x-index l.a) l.b
