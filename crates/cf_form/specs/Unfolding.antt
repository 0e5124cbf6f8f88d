-- The forms of an expansion over parts that are expanded.
use Rattle.std.specs.Prelude.{pos, List, map, reverse, slice_index_or}
use Rattle.cf_tree.specs.declared.raw.BinOp.{BinOp}
use Rattle.cf_tree.specs.declared.raw.BinOp.TheVariants.{Add, Sub, Mul, And, Or, Implies, Union, Inter, Diff, Subset}
use Rattle.cf_tree.specs.DefView.{DefTree}
use Rattle.cf_tree.specs.ExprTree.{ExprTree, expr_lit, expr_truth, expr_var, expr_neg, expr_not, expr_abs, expr_divides, expr_div, expr_mod, expr_card, expr_max}
use Rattle.cf_form.specs.Expansion.{Part, of_number, of_set, of_truth, truth_part, number_in, set_in, truth_in, numbers_in, Calls, call_expanded}
use Rattle.cf_form.specs.Wide.{wide_lit, wide_empty, wide_neg, wide_not, wide_abs, wide_divides, wide_div, wide_mod, wide_card, wide_min, wide_max}

-- calls of the functions before
abbrev pub calls_of : List DefTree → Calls
calls_of before = call_expanded (reverse (map (λ f. f.body) before))

-- a form without parts; a set literal is as the empty one
abbrev pub leaf_part : List Part → ExprTree → Part
leaf_part env (expr_lit k) = of_number (wide_lit k)
leaf_part env (expr_truth t) = truth_part t
leaf_part env (expr_var x) = slice_index_or env x (of_number (wide_lit (pos 0)))
leaf_part env _ = of_set wide_empty

abbrev pub over_one : ExprTree → Part → Part
over_one (expr_neg a) p = of_number (wide_neg (number_in p))
over_one (expr_not a) p = of_truth (wide_not (truth_in p))
over_one (expr_abs a) p = of_number (wide_abs (number_in p))
over_one (expr_divides k a) p = of_truth (wide_divides k (number_in p))
over_one (expr_div a k) p = of_number (wide_div (number_in p) k)
over_one (expr_mod a k) p = of_number (wide_mod (number_in p) k)
over_one (expr_card a) p = of_number (wide_card (set_in p))
over_one _ p = p

-- the least or the greatest
abbrev pub best_part : ExprTree → List Part → Part
best_part (expr_max es) ps = of_number (wide_max (numbers_in ps))
best_part _ ps = of_number (wide_min (numbers_in ps))

abbrev pub IsOfNumbers : BinOp → Type 0
IsOfNumbers Add = Unit {0}
IsOfNumbers Sub = Unit {0}
IsOfNumbers Mul = Unit {0}
IsOfNumbers _ = ⊥

abbrev pub IsOfTruths : BinOp → Type 0
IsOfTruths And = Unit {0}
IsOfTruths Or = Unit {0}
IsOfTruths Implies = Unit {0}
IsOfTruths _ = ⊥

abbrev pub IsOfSets : BinOp → Type 0
IsOfSets Union = Unit {0}
IsOfSets Inter = Unit {0}
IsOfSets Diff = Unit {0}
IsOfSets Subset = Unit {0}
IsOfSets _ = ⊥
