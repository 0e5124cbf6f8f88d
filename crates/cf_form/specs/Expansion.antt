-- Expansion: the parts of an expression's value as wide forms, without lets and calls. A variable of a let stands for the part of its value, a parameter of a
-- called function for its argument, and a call for the body. What is used twice stands twice, and what is not used is gone.
use Rattle.std.specs.Prelude.{ℕ, suc, pos, ◌==◌, Bool, true, false, if◌then◌else◌, List, [], ◌∷◌, ◌++◌, length, reverse, slice_index_or}
use Rattle.cf_tree.specs.declared.base.Base.{Base}
use Rattle.cf_tree.specs.declared.base.Base.TheVariants.{Int, Bool as Truth, Set}
use Rattle.cf_tree.specs.declared.base.Order.{Order}
use Rattle.cf_tree.specs.declared.base.Order.TheVariants.{Ne}
use Rattle.cf_tree.specs.declared.raw.BinOp.{BinOp}
use Rattle.cf_tree.specs.declared.raw.BinOp.TheVariants.{Add, Sub, Mul, And, Or, Implies, Union, Inter, Diff, Subset, Compare}
use Rattle.cf_tree.specs.ExprTree.{ExprTree, expr_lit, expr_truth, expr_var, expr_set_of, expr_tuple, expr_neg, expr_not, expr_abs, expr_binary, expr_divides, expr_div, expr_mod, expr_card, expr_if, expr_call, expr_let, expr_choose, expr_match, expr_chain, expr_min, expr_max, expr_choose_where, ExprTrees, no_exprs, expr_more}
use Rattle.cf_form.specs.Wide.{WideTerm, wide_lit, wide_var, wide_card, wide_neg, wide_add, wide_sub, wide_mul, wide_div, wide_mod, wide_abs, wide_if, wide_min, wide_max, WideTerms, no_wides, wide_more, WideSet, wide_empty, wide_set, wide_union, wide_inter, wide_diff, wide_if_set, WideRel, wide_true, wide_false, wide_truth, wide_compare, wide_same_set, wide_other_set, wide_subset, wide_divides, wide_not, wide_and, wide_or, wide_implies, wide_same, wide_other, wide_if_truth, wide_chain}

pub data Part : Type 0 where
  of_number : WideTerm → Part
  of_set : WideSet → Part
  of_truth : WideRel → Part

abbrev pub number_in : Part → WideTerm
number_in (of_number t) = t
number_in (of_set s) = wide_lit (pos 0)
number_in (of_truth r) = wide_lit (pos 0)

abbrev pub set_in : Part → WideSet
set_in (of_number t) = wide_empty
set_in (of_set s) = s
set_in (of_truth r) = wide_empty

abbrev pub truth_in : Part → WideRel
truth_in (of_number t) = wide_false
truth_in (of_set s) = wide_false
truth_in (of_truth r) = r

abbrev pub first_part : List Part → Part
first_part [] = of_number (wide_lit (pos 0))
first_part (p ∷ ps) = p

abbrev pub numbers_in : List Part → WideTerms
numbers_in [] = no_wides
numbers_in (p ∷ ps) = wide_more (number_in p) (numbers_in ps)

abbrev pub truth_part : Bool → Part
truth_part true = of_truth wide_true
truth_part false = of_truth wide_false

abbrev pub variable_part : Base → ℕ → Part
variable_part Int x = of_number (wide_var x)
variable_part Truth x = of_truth (wide_truth x)
variable_part Set x = of_set (wide_set x)

-- the variables of these bases, each as itself, where the first has level x
abbrev pub variables_from : ℕ → List Base → List Part
variables_from x [] = []
variables_from x (b ∷ bs) = variable_part b x ∷ variables_from (suc x) bs

abbrev pub sets_compared : Order → WideSet → WideSet → WideRel
sets_compared Ne a b = wide_other_set a b
sets_compared _ a b = wide_same_set a b

abbrev pub truths_compared : Order → WideRel → WideRel → WideRel
truths_compared Ne p q = wide_other p q
truths_compared _ p q = wide_same p q

abbrev pub compared_part : Order → Part → Part → Part
compared_part order (of_number a) q = of_truth (wide_compare order a (number_in q))
compared_part order (of_set a) q = of_truth (sets_compared order a (set_in q))
compared_part order (of_truth a) q = of_truth (truths_compared order a (truth_in q))

abbrev pub binary_part : BinOp → Part → Part → Part
binary_part Add p q = of_number (wide_add (number_in p) (number_in q))
binary_part Sub p q = of_number (wide_sub (number_in p) (number_in q))
binary_part Mul p q = of_number (wide_mul (number_in p) (number_in q))
binary_part And p q = of_truth (wide_and (truth_in p) (truth_in q))
binary_part Or p q = of_truth (wide_or (truth_in p) (truth_in q))
binary_part Implies p q = of_truth (wide_implies (truth_in p) (truth_in q))
binary_part Union p q = of_set (wide_union (set_in p) (set_in q))
binary_part Inter p q = of_set (wide_inter (set_in p) (set_in q))
binary_part Diff p q = of_set (wide_diff (set_in p) (set_in q))
binary_part Subset p q = of_truth (wide_subset (set_in p) (set_in q))
binary_part (Compare order) p q = compared_part order p q

-- the parts of an `if`, each with the same test
abbrev pub if_part : WideRel → Part → Part → Part
if_part c (of_number a) q = of_number (wide_if c a (number_in q))
if_part c (of_set a) q = of_set (wide_if_set c a (set_in q))
if_part c (of_truth a) q = of_truth (wide_if_truth c a (truth_in q))

abbrev pub if_parts : WideRel → List Part → List Part → List Part
if_parts c [] qs = []
if_parts c (p ∷ ps) [] = []
if_parts c (p ∷ ps) (q ∷ qs) = if_part c p q ∷ if_parts c ps qs

-- the parts of a call, by the number of the function and the parts of its arguments
abbrev pub Calls : Type 0
Calls = ℕ → List Part → List Part

abbrev mutual
  -- the parts of an expression, where the variable of each level stands for the part of that place
  pub expanded : Calls → List Part → ExprTree → List Part
  expanded calls env (expr_lit k) = of_number (wide_lit k) ∷ []
  expanded calls env (expr_truth t) = truth_part t ∷ []
  expanded calls env (expr_var x) = slice_index_or env x (of_number (wide_lit (pos 0))) ∷ []
  expanded calls env (expr_set_of es) = of_set wide_empty ∷ []
  expanded calls env (expr_tuple es) = all_expanded calls env es
  expanded calls env (expr_neg a) = of_number (wide_neg (number_in (first_part (expanded calls env a)))) ∷ []
  expanded calls env (expr_not a) = of_truth (wide_not (truth_in (first_part (expanded calls env a)))) ∷ []
  expanded calls env (expr_abs a) = of_number (wide_abs (number_in (first_part (expanded calls env a)))) ∷ []
  expanded calls env (expr_binary op a b) = binary_part op (first_part (expanded calls env a)) (first_part (expanded calls env b)) ∷ []
  expanded calls env (expr_divides k a) = of_truth (wide_divides k (number_in (first_part (expanded calls env a)))) ∷ []
  expanded calls env (expr_div a k) = of_number (wide_div (number_in (first_part (expanded calls env a))) k) ∷ []
  expanded calls env (expr_mod a k) = of_number (wide_mod (number_in (first_part (expanded calls env a))) k) ∷ []
  expanded calls env (expr_card a) = of_number (wide_card (set_in (first_part (expanded calls env a)))) ∷ []
  expanded calls env (expr_if t a b) = if_parts (truth_in (first_part (expanded calls env t))) (expanded calls env a) (expanded calls env b)
  expanded calls env (expr_call f es) = calls f (all_expanded calls env es)
  expanded calls env (expr_let n a b) = expanded calls (env ++ expanded calls env a) b
  expanded calls env (expr_chain orders es) = of_truth (wide_chain orders (numbers_in (all_expanded calls env es))) ∷ []
  expanded calls env (expr_min es) = of_number (wide_min (numbers_in (all_expanded calls env es))) ∷ []
  expanded calls env (expr_max es) = of_number (wide_max (numbers_in (all_expanded calls env es))) ∷ []
  expanded calls env (expr_choose n scope outputs rel) = []
  expanded calls env (expr_match n scope a arms) = []
  expanded calls env (expr_choose_where n scope outputs hidden given rel aim) = []

  -- one part of each
  pub all_expanded : Calls → List Part → ExprTrees → List Part
  all_expanded calls env no_exprs = []
  all_expanded calls env (expr_more e es) = first_part (expanded calls env e) ∷ all_expanded calls env es

-- the parts of a call of function number f, where the functions stand last first: each calls only those after it in the list
abbrev pub call_expanded : List ExprTree → Calls
call_expanded [] f args = []
call_expanded (body ∷ earlier) f args =
    if f == length earlier then expanded (call_expanded earlier) args body else call_expanded earlier f args

-- a relation over variables of these bases, by level, behind these functions
abbrev pub wide_of : List ExprTree → List Base → ExprTree → WideRel
wide_of before bases e = truth_in (first_part (expanded (call_expanded (reverse before)) (variables_from 0 bases) e))
