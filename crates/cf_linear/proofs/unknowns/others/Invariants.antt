use Rattle.std.proofs.Common.{◌≡◌, ◌==◌, not, take}
use Rattle.std.specs.Prelude.{filter}
use Rattle.cf_linear.proofs.unknowns.others.Given as goal

abbrev pub invariant-loop-w : goal.invariant-loop-w
invariant-loop-w l = l.out.items ≡ filter (λ w. not (w == l.unknown)) (take l.w-index l.unknowns)
