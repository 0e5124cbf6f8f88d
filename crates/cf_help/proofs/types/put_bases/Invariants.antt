use Rattle.std.proofs.Common.{◌≡◌, ◌++◌, drop}
use Rattle.cf_help.specs.Faults.{more_bases}
use Rattle.cf_help.proofs.types.put_bases.Given as goal

abbrev pub invariant-loop-base : goal.invariant-loop-base
invariant-loop-base l = l.out.items ++ more_bases (drop l.base-index l.bases) ≡ l.fn.out.items ++ more_bases l.bases
