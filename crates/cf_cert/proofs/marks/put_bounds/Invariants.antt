use Rattle.std.proofs.Common.{◌≡◌, ◌++◌, drop}
use Rattle.cf_cert.specs.Marks.{bounds_marks}
use Rattle.cf_cert.proofs.marks.put_bounds.Given as goal

abbrev pub invariant-loop-bound : goal.invariant-loop-bound
invariant-loop-bound l = l.out.items ++ bounds_marks (drop l.bound-index l.bounds) ≡ l.fn.out.items ++ bounds_marks l.bounds
