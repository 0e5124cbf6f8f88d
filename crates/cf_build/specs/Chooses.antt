-- The chooses of a program, in the order of the text and in that of their numbers, and the first that is refused.
use Rattle.std.specs.Prelude.{ℕ, ◌≡◌, nat_lt, if◌then◌else◌, List, [], ◌∷◌, ◌++◌, Option, Some, None}
use Rattle.cf_tree.specs.DefView.{DefTree}
use Rattle.cf_tree.specs.CodeTree.{CodeTree, ArmTrees, code_solve, arms_of}
use Rattle.cf_tree.specs.ExprTree.{ExprTree, expr_lit, expr_truth, expr_var, expr_set_of, expr_tuple, expr_neg, expr_not, expr_abs, expr_binary, expr_chain, expr_min, expr_max, expr_divides, expr_div, expr_mod, expr_card, expr_if, expr_call, expr_let, expr_choose, expr_choose_where, expr_match, ExprTrees, no_exprs, expr_more, match_arm, MatchArmTrees, no_match_arms, match_arm_more}
use Rattle.cf_tree.specs.ChooseTree.{ChooseTree}
use Rattle.cf_program.specs.Lowered.{lowered}
use Rattle.cf_tree.specs.Params.{bases_of, names_of}
use Rattle.cf_linear.specs.declared.refusal.Refusal.{Refusal}
use Rattle.cf_linear.specs.Chooses.{arms, limit}

abbrev pub limit_of : ChooseTree → Option Refusal
limit_of q = limit q.scope q.outputs q.relation

-- the arms of a choose, one for each case of its relation
abbrev pub choose_arms : ChooseTree → ArmTrees
choose_arms q = arms_of (arms q.scope q.outputs q.relation)

-- the solve with these arms
abbrev pub solve_of : ChooseTree → CodeTree
solve_of q = code_solve q.number (choose_arms q)

-- the chooses in an expression, in the order of the text, where no choose has an expression as its relation
abbrev mutual
  pub chooses_in : ExprTree → List ChooseTree
  chooses_in (expr_lit k) = []
  chooses_in (expr_truth t) = []
  chooses_in (expr_var x) = []
  chooses_in (expr_set_of es) = chooses_in_all es
  chooses_in (expr_tuple es) = chooses_in_all es
  chooses_in (expr_neg a) = chooses_in a
  chooses_in (expr_not a) = chooses_in a
  chooses_in (expr_abs a) = chooses_in a
  chooses_in (expr_binary op a b) = chooses_in a ++ chooses_in b
  chooses_in (expr_chain orders es) = chooses_in_all es
  chooses_in (expr_min es) = chooses_in_all es
  chooses_in (expr_max es) = chooses_in_all es
  chooses_in (expr_divides k a) = chooses_in a
  chooses_in (expr_div a k) = chooses_in a
  chooses_in (expr_mod a k) = chooses_in a
  chooses_in (expr_card a) = chooses_in a
  chooses_in (expr_if t a b) = chooses_in t ++ chooses_in a ++ chooses_in b
  chooses_in (expr_call f es) = chooses_in_all es
  chooses_in (expr_let n a b) = chooses_in a ++ chooses_in b
  chooses_in (expr_choose n params outputs rel) =
      record { number = n; names = names_of params; scope = bases_of params; outputs = outputs; relation = rel } ∷ []
  chooses_in (expr_choose_where n params outputs hidden given rel aim) = []
  chooses_in (expr_match n params a arms) = chooses_in a ++ chooses_in_arms arms

  pub chooses_in_all : ExprTrees → List ChooseTree
  chooses_in_all no_exprs = []
  chooses_in_all (expr_more e es) = chooses_in e ++ chooses_in_all es

  pub chooses_in_arms : MatchArmTrees → List ChooseTree
  chooses_in_arms no_match_arms = []
  chooses_in_arms (match_arm_more (match_arm m factors k body) arms) = chooses_in body ++ chooses_in_arms arms

-- those of all functions, with matches as the chooses that they stand for
abbrev pub all_chooses : List DefTree → List ChooseTree
all_chooses [] = []
all_chooses (d ∷ ds) = chooses_in (lowered d.body) ++ all_chooses ds

-- a choose before the first whose number is not smaller
abbrev pub placed : ChooseTree → List ChooseTree → List ChooseTree
placed q [] = q ∷ []
placed q (p ∷ ps) = if nat_lt p.number q.number then p ∷ placed q ps else q ∷ p ∷ ps

-- chooses in the order of their numbers; those of one number stay in their order
abbrev pub by_number : List ChooseTree → List ChooseTree
by_number [] = []
by_number (q ∷ qs) = placed q (by_number qs)

-- this refusal of choose number n, or where it has none, what is told of the chooses behind it
abbrev pub refused_or : ℕ → Option Refusal → Option (ℕ × Refusal) → Option (ℕ × Refusal)
refused_or n (Some r) behind = Some (n, r)
refused_or n None behind = behind

-- the number of the first of these chooses that passes a limit, and the first limit that it passes
abbrev pub first_refused : List ChooseTree → Option (ℕ × Refusal)
first_refused [] = None
first_refused (q ∷ qs) = refused_or q.number (limit_of q) (first_refused qs)

-- choose number n is refused so, none with a smaller number is refused, and of those with its number none before it in the text
abbrev pub IsFirstRefused : List ChooseTree → ℕ → Refusal → Type 0
IsFirstRefused qs n r = first_refused (by_number qs) ≡ Some (n, r)
