-- Steps of the values of expressions.
use Rattle.std.proofs.Common.{◌≡◌, ℤ, List, ◌∷◌, refl}
use Rattle.cf_tree.specs.declared.base.Sense.{Sense}
use Rattle.cf_tree.specs.declared.base.Sense.TheVariants.{Least, Greatest}
use Rattle.cf_type.specs.Valued.{nearer, extreme}

pub extreme_next : (sense : Sense) (a b : ℤ) (vs : List ℤ) → extreme sense (a ∷ b ∷ vs) ≡ extreme sense (nearer sense a b ∷ vs)
extreme_next Least a b vs = refl
extreme_next Greatest a b vs = refl
