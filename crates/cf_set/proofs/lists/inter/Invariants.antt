use Rattle.std.proofs.Common.{◌≡◌, take}
use Rattle.cf_tree.specs.Sets.{set_inter}
use Rattle.cf_set.proofs.lists.inter.Given as goal

abbrev pub invariant-loop-x : goal.invariant-loop-x
invariant-loop-x l = l.out.items ≡ set_inter (take l.x-index l.a) l.b
