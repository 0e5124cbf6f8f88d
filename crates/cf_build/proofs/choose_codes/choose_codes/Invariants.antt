use Rattle.cf_build.proofs.CodeOrder.{AreMadeOf}
use Rattle.std.specs.Vec.Iter.{into_iter_items}
use Rattle.cf_build.proofs.choose_codes.choose_codes.Given as goal

abbrev pub invariant-loop-solve : goal.invariant-loop-solve
invariant-loop-solve l = AreMadeOf l.fn.solves.items (into_iter_items l.solve-iterator) l.codes.items
