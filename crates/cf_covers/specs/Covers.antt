-- Whether each number is in one of some classes.
use Rattle.std.specs.Prelude.{ℕ, ℤ, pos, ◌<◌, ◌+ℤ◌, ◌*ℤ◌, List, Any}
use Rattle.cf_match.specs.declared.class.Class.{Class}
use Rattle.cf_match.specs.declared.class.Class.TheVariants.{Residue}
use Rattle.cf_match.specs.Classes.{IsIn}
use Rattle.cf_covers.specs.declared.coverage.Cover.{Cover}
use Rattle.cf_covers.specs.declared.coverage.Cover.TheVariants as cover

-- one of the classes holds the number
abbrev pub IsHeld : List Class → ℤ → Type 0
IsHeld classes z = Any (λ c. IsIn c z) classes

-- none of them does
abbrev pub IsMissed : List Class → ℤ → Type 0
IsMissed classes z = IsHeld classes z → ⊥

-- every number is in a class; none holds this number; or nothing is known
abbrev pub IsCover : List Class → Cover → Type 0
IsCover classes cover.All = (z : ℤ) → IsHeld classes z
IsCover classes (cover.Misses z) = IsMissed classes z
IsCover classes cover.Undecided = Unit {0}

-- each number of a class is in another one
pub record IsInside (class other : Class) : Type 0 where
  pub within : (z : ℤ) → IsIn class z → IsIn other z

-- each number of a class is in one of others
pub record AreHeld (classes : List Class) (class : Class) : Type 0 where
  pub held : (z : ℤ) → IsIn class z → IsHeld classes z

-- every number is in the class
pub record HasAll (class : Class) : Type 0 where
  pub all : (z : ℤ) → IsIn class z

-- of the numbers below the period, those that are in the class have all numbers of their residue in one of the classes
pub record HoldResidues (classes : List Class) (class : Class) (period : ℕ) : Type 0 where
  pub held : (n : ℕ) → n < period → IsIn class (pos n) → AreHeld classes (Residue (pos period) (pos n))

-- the residues r, r + g and so on, so many of them modulo that many times g, have all their numbers in one of the classes
pub record HoldSteps (classes : List Class) (g r : ℤ) (steps : ℕ) : Type 0 where
  pub held : (i : ℕ) → i < steps → AreHeld classes (Residue (g *ℤ pos steps) (r +ℤ g *ℤ pos i))
