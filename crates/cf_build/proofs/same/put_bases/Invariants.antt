use Rattle.std.proofs.Common.{◌≡◌, ◌++◌, drop}
use Rattle.cf_build.specs.Marks.{bases_marks}
use Rattle.cf_build.proofs.same.put_bases.Given as goal

abbrev pub invariant-loop-base : goal.invariant-loop-base
invariant-loop-base l = l.out.items ++ bases_marks (drop l.base-index l.bases) ≡ l.fn.out.items ++ bases_marks l.bases
