-- The code of a source expression.
use Rattle.std.specs.Prelude.{ℕ, ◌+◌, true, List, [], ◌∷◌, ◌++◌, length, slice_get, Option, Some, None}
use Rattle.cf_tree.specs.declared.raw.BinOp.{BinOp}
use Rattle.cf_tree.specs.declared.raw.BinOp.TheVariants.{Add, Sub, Mul, And, Or, Union, Inter, Diff, Subset, Implies, Compare}
use Rattle.cf_tree.specs.CodeTree.{CodeTree, code_lit, code_truth, code_var, code_set_of, code_tuple, code_sum, code_sub, code_mul, code_neg, code_div, code_mod, code_max, code_compare, code_divides, code_and, code_or, code_not, code_union, code_inter, code_diff, code_subset, code_card, code_if, code_let, CodeTrees, no_codes, code_more, count}
use Rattle.cf_tree.specs.DefView.{DefTree}
use Rattle.cf_tree.specs.ExprTree.{ExprTree, expr_lit, expr_truth, expr_var, expr_set_of, expr_tuple, expr_neg, expr_not, expr_abs, expr_binary, expr_chain, expr_min, expr_max, expr_divides, expr_div, expr_mod, expr_card, expr_if, expr_call, expr_let, expr_choose, expr_choose_where, expr_match, ExprTrees, no_exprs, expr_more}
use Rattle.cf_tree.specs.Params.{bases_of, names_of}
use Rattle.cf_tree.specs.ChooseTree.{ChooseTree}
use Rattle.cf_build.specs.Chooses.{solve_of}
use Rattle.cf_shift.specs.Shifted.{shifted, all_shifted}

abbrev pub two : CodeTree → CodeTree → CodeTrees
two a b = code_more a (code_more b no_codes)

abbrev pub binary_code : BinOp → CodeTree → CodeTree → CodeTree
binary_code Add a b = code_sum (two a b)
binary_code Sub a b = code_sub a b
binary_code Mul a b = code_mul a b
binary_code And a b = code_and a b
binary_code Or a b = code_or a b
binary_code Union a b = code_union (two a b)
binary_code Inter a b = code_inter (two a b)
binary_code Diff a b = code_diff a b
binary_code Subset a b = code_subset a b
binary_code Implies a b = code_if a b (code_truth true)
binary_code (Compare order) a b = code_compare order a b

-- a set of these codes, or a tuple
abbrev pub over_list : ExprTree → CodeTrees → CodeTree
over_list (expr_set_of es) cs = code_set_of cs
over_list _ cs = code_tuple cs

-- a form with one part, which has this code
abbrev pub over_one : ExprTree → CodeTree → CodeTree
over_one (expr_neg a) c = code_neg c
over_one (expr_not a) c = code_not c
over_one (expr_card a) c = code_card c
over_one (expr_divides k a) c = code_divides k c
over_one (expr_div a k) c = code_div c k
over_one (expr_mod a k) c = code_mod c k
over_one _ c = c

-- the greater of a number, which takes level n, and its negative
abbrev pub absolute_code : ℕ → CodeTree → CodeTree
absolute_code n a = code_let n 1 a (code_max (two (code_var n) (code_neg (code_var n))))

-- one code, or several as a tuple
abbrev pub joined_code : CodeTrees → CodeTree
joined_code no_codes = code_tuple no_codes
joined_code (code_more c no_codes) = c
joined_code (code_more c (code_more d cs)) = code_tuple (code_more c (code_more d cs))

-- a called body, whose arguments take the levels from n on
abbrev pub call_code : ℕ → CodeTrees → CodeTree → CodeTree
call_code n no_codes body = body
call_code n (code_more c cs) body = code_let n (count (code_more c cs)) (joined_code (code_more c cs)) body

abbrev mutual
  -- the code of an expression without matches and without the forms of `HasNoForm` behind n variables, where `calls` holds the codes of the functions before,
  -- and `solves` that of each choose
  pub code_of : (ℕ → CodeTree) → (ChooseTree → CodeTree) → ℕ → ExprTree → CodeTree
  code_of calls solves n (expr_lit k) = code_lit k
  code_of calls solves n (expr_truth t) = code_truth t
  code_of calls solves n (expr_var x) = code_var x
  code_of calls solves n (expr_set_of es) = code_set_of (codes_of_all calls solves n es)
  code_of calls solves n (expr_tuple es) = code_tuple (codes_of_all calls solves n es)
  code_of calls solves n (expr_neg a) = code_neg (code_of calls solves n a)
  code_of calls solves n (expr_not a) = code_not (code_of calls solves n a)
  code_of calls solves n (expr_abs a) = absolute_code n (code_of calls solves n a)
  code_of calls solves n (expr_binary op a b) = binary_code op (code_of calls solves n a) (code_of calls solves n b)
  code_of calls solves n (expr_chain orders es) = code_tuple no_codes
  code_of calls solves n (expr_min es) = code_tuple no_codes
  code_of calls solves n (expr_max es) = code_tuple no_codes
  code_of calls solves n (expr_divides k a) = code_divides k (code_of calls solves n a)
  code_of calls solves n (expr_div a k) = code_div (code_of calls solves n a) k
  code_of calls solves n (expr_mod a k) = code_mod (code_of calls solves n a) k
  code_of calls solves n (expr_card a) = code_card (code_of calls solves n a)
  code_of calls solves n (expr_if t a b) = code_if (code_of calls solves n t) (code_of calls solves n a) (code_of calls solves n b)
  code_of calls solves n (expr_call f es) = call_code n (codes_of_all calls solves n es) (shifted n (calls f))
  code_of calls solves n (expr_let m a b) = code_let n m (code_of calls solves n a) (code_of calls solves (n + m) b)
  code_of calls solves n (expr_choose m scope outputs rel) =
      solves (record { number = m; names = names_of scope; scope = bases_of scope; outputs = outputs; relation = rel })
  code_of calls solves n (expr_choose_where m scope outputs hidden given rel aim) = code_tuple no_codes
  code_of calls solves n (expr_match m scope a arms) = code_tuple no_codes

  pub codes_of_all : (ℕ → CodeTree) → (ChooseTree → CodeTree) → ℕ → ExprTrees → CodeTrees
  codes_of_all calls solves n no_exprs = no_codes
  codes_of_all calls solves n (expr_more e es) = code_more (code_of calls solves n e) (codes_of_all calls solves n es)

-- the code, or where there is none, that of no values
abbrev pub or_nothing : Option CodeTree → CodeTree
or_nothing None = code_tuple no_codes
or_nothing (Some c) = c

-- the code of function number f
abbrev pub called : List CodeTree → ℕ → CodeTree
called codes f = or_nothing (slice_get codes f)

-- the codes of functions in the order of the text, where `known` holds those of the functions before
abbrev pub codes_behind : (ChooseTree → CodeTree) → List CodeTree → List DefTree → List CodeTree
codes_behind solves known [] = known
codes_behind solves known (d ∷ ds) = codes_behind solves (known ++ code_of (called known) solves (length d.params) d.body ∷ []) ds

-- the code of an expression behind n variables of its function and `by` of the callers, where these functions stand before its own
abbrev pub code_among : List DefTree → ℕ → ℕ → ExprTree → CodeTree
code_among before by n e = shifted by (code_of (called (codes_behind solve_of [] before)) solve_of n e)

abbrev pub codes_among : List DefTree → ℕ → ℕ → ExprTrees → CodeTrees
codes_among before by n es = all_shifted by (codes_of_all (called (codes_behind solve_of [] before)) solve_of n es)
