use Rattle.std.proofs.Common.{◌≡◌, take}
use Rattle.cf_close.proofs.node.copy_facts.Given as goal

abbrev pub invariant-loop-fact : goal.invariant-loop-fact
invariant-loop-fact l = l.all.items ≡ take l.fact-index l.facts
