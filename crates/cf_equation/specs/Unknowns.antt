-- The first unknowns as a loop finds them.
use Rattle.std.specs.Prelude.{◌≡◌, ℕ, List, ◌∷◌}
use Rattle.cf_equation.specs.declared.unknowns.Present.{Present}
use Rattle.cf_equation.specs.declared.unknowns.Present.TheVariants.{Nothing, One, Several}

-- what was found, then the rest, is all
abbrev pub IsSoFar : Present → List ℕ → List ℕ → Type 0
IsSoFar Nothing rest all = all ≡ rest
IsSoFar (One u) rest all = all ≡ u ∷ rest
IsSoFar (Several u w) rest all = ⊥
