use Rattle.std.proofs.Common.{◌≡◌, take}
use Rattle.cf_close.proofs.node.copy_ors.Given as goal

abbrev pub invariant-loop-or : goal.invariant-loop-or
invariant-loop-or l = l.all.items ≡ take l.or-index l.ors
