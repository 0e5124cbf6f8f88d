use Rattle.std.proofs.Common.{All, take}
use Rattle.cf_close.specs.Nodes.{Lacks}
use Rattle.cf_close.proofs.define.facts_lack.Given as goal

abbrev pub invariant-loop-fact : goal.invariant-loop-fact
invariant-loop-fact l = All (Lacks l.column) (take l.fact-index l.facts)
