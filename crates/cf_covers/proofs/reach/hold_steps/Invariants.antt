use Rattle.std.proofs.Common.{ℕ, ◌<◌, ◌+ℤ◌, ◌*ℤ◌, pos}
use Rattle.cf_match.specs.declared.class.Class.TheVariants.{Residue}
use Rattle.cf_covers.specs.Covers.{AreHeld}
use Rattle.cf_covers.proofs.reach.hold_steps.Given as goal

abbrev pub invariant-loop-i : goal.invariant-loop-i
invariant-loop-i l = (k : ℕ) → k < l.i → AreHeld l.earlier (Residue (l.g *ℤ pos l.steps) (l.r +ℤ l.g *ℤ pos k))
