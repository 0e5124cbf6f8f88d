-- The numbers of a formed program: one number may stand at several chooses, which are branches of one choose of the source.
use Rattle.std.specs.Prelude.{ℕ, suc, ℤ, ◌≡◌, Bool, true, false, not, Option, Some, None, List, [], ◌∷◌, ◌++◌}
use Rattle.cf_tree.specs.declared.base.Base.{Base}
use Rattle.cf_tree.specs.declared.raw.Param.{Param}
use Rattle.cf_tree.specs.DefView.{DefTree}
use Rattle.cf_tree.specs.ExprTree.{ExprTree, expr_lit, expr_truth, expr_var, expr_set_of, expr_tuple, expr_neg, expr_not, expr_abs, expr_binary, expr_divides, expr_div, expr_mod, expr_card, expr_if, expr_call, expr_let, expr_choose, expr_match, expr_chain, expr_min, expr_max, expr_choose_where, ExprTrees, no_exprs, expr_more, match_arm, MatchArmTrees, no_match_arms, match_arm_more}
use Rattle.cf_form.specs.Branches.{Branch, values_in}

-- a number in function number `function`, with the variables that are tested around it, the innermost first, and the value that each has there; of a choose
-- its scope and its outputs, and none of a match or an arm
pub record PlacedNumber : Type 0 where
  pub function : ℕ
  pub number : ℕ
  pub branch : Branch
  pub choose : Option (List Param × List Base)

abbrev pub other_number : ℕ → Branch → ℕ → PlacedNumber
other_number f branch n = record { function = f; number = n; branch = branch; choose = None }

abbrev pub choose_number : ℕ → Branch → ℕ → List Param → List Base → PlacedNumber
choose_number f branch n scope outputs = record { function = f; number = n; branch = branch; choose = Some (scope, outputs) }

-- an arm has a number where it has variables
abbrev pub arm_number : ℕ → Branch → ℕ → List ℤ → List PlacedNumber
arm_number f branch m [] = []
arm_number f branch m (k ∷ factors) = other_number f branch m ∷ []

-- a branch within, where this is tested
abbrev pub within : Branch → ExprTree → Bool → Branch
within branch (expr_var x) value = (x, value) ∷ branch
within branch _ value = branch

-- the numbers in an expression of function number f, in this branch
abbrev mutual
  pub placed : ℕ → Branch → ExprTree → List PlacedNumber
  placed f branch (expr_lit k) = []
  placed f branch (expr_truth t) = []
  placed f branch (expr_var x) = []
  placed f branch (expr_set_of es) = all_placed f branch es
  placed f branch (expr_tuple es) = all_placed f branch es
  placed f branch (expr_neg a) = placed f branch a
  placed f branch (expr_not a) = placed f branch a
  placed f branch (expr_abs a) = placed f branch a
  placed f branch (expr_binary op a b) = placed f branch a ++ placed f branch b
  placed f branch (expr_divides k a) = placed f branch a
  placed f branch (expr_div a k) = placed f branch a
  placed f branch (expr_mod a k) = placed f branch a
  placed f branch (expr_card a) = placed f branch a
  placed f branch (expr_if t a b) = placed f branch t ++ placed f (within branch t true) a ++ placed f (within branch t false) b
  placed f branch (expr_call g es) = all_placed f branch es
  placed f branch (expr_let n a b) = placed f branch a ++ placed f branch b
  placed f branch (expr_choose n scope outputs rel) = choose_number f branch n scope outputs ∷ []
  placed f branch (expr_match n scope a arms) = other_number f branch n ∷ placed f branch a ++ arms_placed f branch arms
  placed f branch (expr_chain orders es) = all_placed f branch es
  placed f branch (expr_min es) = all_placed f branch es
  placed f branch (expr_max es) = all_placed f branch es
  placed f branch (expr_choose_where n scope outputs hidden given rel aim) = choose_number f branch n scope (outputs ++ hidden) ∷ []

  pub all_placed : ℕ → Branch → ExprTrees → List PlacedNumber
  all_placed f branch no_exprs = []
  all_placed f branch (expr_more e es) = placed f branch e ++ all_placed f branch es

  pub arms_placed : ℕ → Branch → MatchArmTrees → List PlacedNumber
  arms_placed f branch no_match_arms = []
  arms_placed f branch (match_arm_more (match_arm m factors k body) arms) =
      arm_number f branch m factors ++ placed f branch body ++ arms_placed f branch arms

-- those of functions, of which the first has number f
abbrev pub placed_from : ℕ → List DefTree → List PlacedNumber
placed_from f [] = []
placed_from f (d ∷ ds) = placed f [] d.body ++ placed_from (suc f) ds

-- some variable has one value in the first and the other in the second
abbrev pub AreApart : Branch → Branch → Type 0
AreApart a b = (x : ℕ) × (value : Bool) × (values_in a x ≡ Some value) × (values_in b x ≡ Some (not value))

-- both are of chooses in one function, with one scope and the same outputs, of which a call of the function enters at most one
pub record AreBranches (a b : PlacedNumber) : Type 0 where
  pub function : a.function ≡ b.function
  pub choose : (c : List Param × List Base) × (a.choose ≡ Some c) × (b.choose ≡ Some c)
  pub apart : AreApart a.branch b.branch

abbrev pub SharesByBranch : PlacedNumber → List PlacedNumber → Type 0
SharesByBranch a [] = Unit {0}
SharesByBranch a (b ∷ rest) = (a.number ≡ b.number → AreBranches a b) × SharesByBranch a rest

-- numbers are the same only of branches
abbrev pub ShareByBranch : List PlacedNumber → Type 0
ShareByBranch [] = Unit {0}
ShareByBranch (a ∷ rest) = SharesByBranch a rest × ShareByBranch rest
