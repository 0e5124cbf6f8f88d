use Rattle.std.proofs.Common.{ℕ, ◌<◌, pos, get_or}
use Rattle.cf_match.specs.declared.class.Class.TheVariants.{Point}
use Rattle.cf_match.specs.Classes.{IsIn}
use Rattle.cf_covers.proofs.inside.is_missed.Given as goal

abbrev pub invariant-loop-class : goal.invariant-loop-class
invariant-loop-class l = (k : ℕ) → k < l.class-index → IsIn (get_or l.classes k (Point (pos 0))) l.z → ⊥
