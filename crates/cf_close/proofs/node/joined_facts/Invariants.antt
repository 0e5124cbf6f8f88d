use Rattle.std.proofs.Common.{◌≡◌, ◌++◌, take}
use Rattle.cf_close.proofs.node.joined_facts.Given as goal

abbrev pub invariant-loop-fact : goal.invariant-loop-fact
invariant-loop-fact l = l.all.items ≡ l.facts ++ take l.fact-index l.more
