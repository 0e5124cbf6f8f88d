use Rattle.std.proofs.Common.{◌≡◌, ◌++◌, drop}
use Rattle.cf_smt.specs.Names.{search_names}
use Rattle.cf_smt.proofs.names.search_names.Given as goal

abbrev pub invariant-loop-j : goal.invariant-loop-j
invariant-loop-j l = l.all.items ++ search_names l.j (drop l.j l.bounds) ≡ search_names 0 l.bounds
