-- The plain formulas that formulas of the program stand for.
use Rattle.std.specs.Prelude.{◌≡◌, ℕ, suc, ◌+◌, ◌<◌, List, [], ◌∷◌, ◌++◌, map, take, drop, reverse, Bool, if◌then◌else◌}
use Rattle.std.specs.List.{flat_map}
use Rattle.cf_formula.specs.Formulas.{Formula, always, never, at_least, equal, both, either}
use Rattle.cf_formula.specs.declared.formula.Formula.{Formula as DeclaredFormula}
use Rattle.cf_formula.specs.declared.formula.Formula.TheOpen.{Formula-F}
use Rattle.cf_formula.specs.declared.formula.Formula.TheFolds.{fold-Formula}

-- one level, with the plain formulas of the parts in their places
abbrev pub formula_step : Formula-F Formula → Formula
formula_step Formula-F.Always = always
formula_step Formula-F.Never = never
formula_step (Formula-F.AtLeast r) = at_least r
formula_step (Formula-F.Equal r) = equal r
formula_step (Formula-F.Both a b) = both a.value b.value
formula_step (Formula-F.Either a b) = either a.value b.value

abbrev pub formula_tree : DeclaredFormula → Formula
formula_tree = fold-Formula Formula formula_step

abbrev pub formula_trees : List DeclaredFormula → List Formula
formula_trees fs = map formula_tree fs

-- the last one of those that are left, if any, went to the end of the others, or was dropped
pub record IsMoved (wanted : Bool) (before left out next : List DeclaredFormula) : Type 0 where
  pub rest : formula_trees (reverse left) ≡ drop 1 (formula_trees (reverse before))
  pub moved : formula_trees next ≡ formula_trees out ++ (if wanted then take 1 (formula_trees (reverse before)) else [])

-- of how many formulas it is made, itself among them
abbrev pub size : Formula → ℕ
size always = 1
size never = 1
size (at_least r) = 1
size (equal r) = 1
size (both f g) = suc (size f + size g)
size (either f g) = suc (size f + size g)

abbrev pub size_of_all : List Formula → ℕ
size_of_all [] = 0
size_of_all (f ∷ fs) = size f + size_of_all fs

-- the formula went to the end of the others, or its parts to those that are left, the next one last: the members are the same
pub record IsSplit (members : Formula → List Formula) (f : Formula) (before left out next : List DeclaredFormula) : Type 0 where
  pub same : formula_trees next ++ flat_map members (formula_trees (reverse left)) ≡
      formula_trees out ++ (members f ++ flat_map members (formula_trees (reverse before)))
  pub fewer : size_of_all (formula_trees (reverse left)) < size f + size_of_all (formula_trees (reverse before))
