use Rattle.std.proofs.Common.{◌≡◌, ◌++◌, drop}
use Rattle.cf_smt.specs.Names.{given_names}
use Rattle.cf_smt.proofs.names.given_names.Given as goal

abbrev pub invariant-loop-name : goal.invariant-loop-name
invariant-loop-name l = l.all.items ++ given_names (drop l.name-index l.names) ≡ given_names l.names
