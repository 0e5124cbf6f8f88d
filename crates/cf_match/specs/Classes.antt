-- The classes of numbers that patterns stand for.
use Rattle.std.specs.Prelude.{ℕ, zero, suc, ℤ, pos, ◌≡◌, ◌↔◌, List}
use Rattle.cf_tree.specs.Allowed.{Fits}
use Rattle.cf_tree.specs.Numbers.{remainder}
use Rattle.cf_program.specs.Lowered.{divisor}
use Rattle.cf_match.specs.declared.class.Class.{Class}
use Rattle.cf_match.specs.declared.class.Class.TheVariants.{Point, Residue}

-- the constant alone where the divisor of the factors is 0, and else what the constant leaves behind multiples of it
abbrev pub class_by : ℕ → ℤ → Class
class_by zero k = Point k
class_by (suc d) k = Residue (pos (suc d)) (remainder k (pos (suc d)))

abbrev pub class_of : List ℤ → ℤ → Class
class_of factors k = class_by (divisor factors) k

abbrev pub IsIn : Class → ℤ → Type 0
IsIn (Point c) z = z ≡ c
IsIn (Residue g r) z = remainder z g ≡ r

-- the class of a pattern holds the numbers that some values of the variables make it, and no others
abbrev pub ClassesAreExact : Type 0
ClassesAreExact = (factors : List ℤ) (k z : ℤ) → IsIn (class_of factors k) z ↔ ((is : List ℤ) × Fits factors k z is)
