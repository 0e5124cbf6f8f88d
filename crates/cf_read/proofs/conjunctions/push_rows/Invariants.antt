use Rattle.std.proofs.Common.{◌≡◌, ◌++◌, map, take}
use Rattle.cf_read.specs.Systems.{fact_as}
use Rattle.cf_read.proofs.conjunctions.push_rows.Given as goal

abbrev pub invariant-loop-row : goal.invariant-loop-row
invariant-loop-row l = l.facts.items ≡ l.initial.facts.items ++ map (fact_as l.kind) (take l.row-index l.rows)
