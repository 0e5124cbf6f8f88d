use Rattle.std.proofs.Common.{◌≡◌, take}
use Rattle.cf_linear.specs.Steps.{replaced}
use Rattle.cf_equation.proofs.merge.replaced.Given as goal

abbrev pub invariant-loop-c : goal.invariant-loop-c
invariant-loop-c l = l.out.items ≡ replaced l.x l.u (take l.c-index l.columns)
