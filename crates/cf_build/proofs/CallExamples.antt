-- Worked examples: the code of a call.
use Rattle.std.proofs.Common.{◌≡◌, true, List, [], ◌∷◌, refl}
use Rattle.cf_tree.specs.declared.raw.BinOp.TheVariants.{Add}
use Rattle.cf_tree.specs.declared.raw.Param.{Param}
use Rattle.cf_tree.specs.CodeTree.{code_truth, code_var, code_tuple, code_sum, code_let, no_codes}
use Rattle.cf_tree.specs.DefView.{DefTree}
use Rattle.cf_tree.specs.ExprTree.{ExprTree, expr_truth, expr_var, expr_binary, expr_call, no_exprs, expr_more}
use Rattle.cf_build.specs.Chooses.{solve_of}
use Rattle.cf_build.specs.Codes.{two, called, code_among, codes_behind}

abbrev def : List Param → ExprTree → DefTree
def ps e = record { name = []; params = ps; results = []; body = e }

module _ (x : Param) where
  -- number 0: a number twice
  abbrev twice : DefTree
  twice = def (x ∷ []) (expr_binary Add (expr_var 0) (expr_var 0))

  -- number 1: the first of two numbers twice, and the second
  abbrev more : DefTree
  more = def (x ∷ x ∷ []) (expr_binary Add (expr_call 0 (expr_more (expr_var 0) no_exprs)) (expr_var 1))

  -- a function without parameters
  abbrev holds : DefTree
  holds = def [] (expr_truth true)

  -- the parameter of number 0 takes the level behind the two of number 1
  in_a_body : called (codes_behind solve_of [] (twice ∷ more ∷ [])) 1 ≡
      code_sum (two (code_let 2 1 (code_var 0) (code_sum (two (code_var 2) (code_var 2)))) (code_var 1))
  in_a_body = refl

  -- the same body behind five variables of callers
  behind_callers : code_among (twice ∷ []) 5 2 (expr_binary Add (expr_call 0 (expr_more (expr_var 0) no_exprs)) (expr_var 1)) ≡
      code_sum (two (code_let 7 1 (code_var 5) (code_sum (two (code_var 7) (code_var 7)))) (code_var 6))
  behind_callers = refl

  -- a call in an argument
  in_an_argument : code_among (twice ∷ []) 0 1 (expr_call 0 (expr_more (expr_call 0 (expr_more (expr_var 0) no_exprs)) no_exprs)) ≡
      code_let 1 1 (code_let 1 1 (code_var 0) (code_sum (two (code_var 1) (code_var 1)))) (code_sum (two (code_var 1) (code_var 1)))
  in_an_argument = refl

  -- a call without arguments binds nothing
  of_no_argument : code_among (holds ∷ []) 5 2 (expr_call 0 no_exprs) ≡ code_truth true
  of_no_argument = refl

  -- there is no function number 1
  of_no_function : code_among (holds ∷ []) 5 2 (expr_call 1 no_exprs) ≡ code_tuple no_codes
  of_no_function = refl
