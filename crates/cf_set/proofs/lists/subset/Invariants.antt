use Rattle.std.proofs.Common.{◌≡◌, drop}
use Rattle.cf_tree.specs.Sets.{is_subset}
use Rattle.cf_set.proofs.lists.subset.Given as goal

abbrev pub invariant-loop-x : goal.invariant-loop-x
invariant-loop-x l = is_subset (drop l.x-index l.a) l.b ≡ is_subset l.a l.b
