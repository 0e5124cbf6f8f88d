use Rattle.std.proofs.Common.{◌≡◌, ◌++◌, take}
use Rattle.cf_close.proofs.node.joined_ors.Given as goal

abbrev pub invariant-loop-or : goal.invariant-loop-or
invariant-loop-or l = l.all.items ≡ l.ors ++ take l.or-index l.more
