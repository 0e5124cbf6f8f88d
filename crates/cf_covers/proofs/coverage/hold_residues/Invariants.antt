use Rattle.std.proofs.Common.{ℕ, ◌<◌, pos}
use Rattle.cf_match.specs.declared.class.Class.TheVariants.{Residue}
use Rattle.cf_match.specs.Classes.{IsIn}
use Rattle.cf_covers.specs.Covers.{AreHeld}
use Rattle.cf_covers.proofs.coverage.hold_residues.Given as goal

abbrev pub invariant-loop-n : goal.invariant-loop-n
invariant-loop-n l = (k : ℕ) → k < l.n → IsIn l.class (pos k) → AreHeld l.classes (Residue (pos l.period) (pos k))
