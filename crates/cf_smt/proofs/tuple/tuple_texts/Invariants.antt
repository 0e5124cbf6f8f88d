use Rattle.std.proofs.Common.{◌≡◌, ◌++◌, drop}
use Rattle.cf_smt.specs.Commands.{tuple_texts}
use Rattle.cf_smt.proofs.tuple.tuple_texts.Given as goal

abbrev pub invariant-loop-bound : goal.invariant-loop-bound
invariant-loop-bound l = l.all.items ++ tuple_texts (drop l.bound-index l.bounds) l.left ≡ tuple_texts l.bounds l.i
