-- The weights and the unfolded depths of functions: those of their lowered forms, where a call counts the called function too.
use Rattle.std.specs.Prelude.{ℕ, suc, ◌+◌, max, nat_le, if◌then◌else◌, List, [], ◌∷◌, ◌++◌, slice_index, Option, Some, None}
use Rattle.cf_tree.specs.DefView.{DefTree}
use Rattle.cf_tree.specs.ExprTree.{ExprTree, expr_lit, expr_truth, expr_var, expr_set_of, expr_tuple, expr_neg, expr_not, expr_abs, expr_binary, expr_chain, expr_min, expr_max, expr_divides, expr_div, expr_mod, expr_card, expr_if, expr_call, expr_let, expr_choose, expr_choose_where, expr_match, ExprTrees, no_exprs, expr_more}
use Rattle.cf_tree.specs.RelSize.{capped, rel_size, rel_depth}
use Rattle.cf_program.specs.declared.size.Passed.{Passed}
use Rattle.cf_program.specs.Lowered.{lowered}

-- how many nodes an expression without matches and without the forms of `HasNoForm` has, with those of called functions
abbrev mutual
  pub weight_in : (ℕ → ℕ) → ExprTree → ℕ
  weight_in calls (expr_lit k) = 1
  weight_in calls (expr_truth t) = 1
  weight_in calls (expr_var x) = 1
  weight_in calls (expr_set_of es) = 1 + weight_all calls es
  weight_in calls (expr_tuple es) = 1 + weight_all calls es
  weight_in calls (expr_neg a) = 1 + weight_in calls a
  weight_in calls (expr_not a) = 1 + weight_in calls a
  weight_in calls (expr_abs a) = 1 + weight_in calls a
  weight_in calls (expr_binary op a b) = 1 + weight_in calls a + weight_in calls b
  weight_in calls (expr_chain orders es) = 0
  weight_in calls (expr_min es) = 0
  weight_in calls (expr_max es) = 0
  weight_in calls (expr_divides k a) = 1 + weight_in calls a
  weight_in calls (expr_div a k) = 1 + weight_in calls a
  weight_in calls (expr_mod a k) = 1 + weight_in calls a
  weight_in calls (expr_card a) = 1 + weight_in calls a
  weight_in calls (expr_if t a b) = 1 + weight_in calls t + weight_in calls a + weight_in calls b
  weight_in calls (expr_call f es) = 1 + weight_all calls es + calls f
  weight_in calls (expr_let n a b) = 1 + weight_in calls a + weight_in calls b
  weight_in calls (expr_choose n scope outputs rel) = 1 + rel_size rel
  weight_in calls (expr_choose_where n scope outputs hidden given rel aim) = 0
  weight_in calls (expr_match n scope a arms) = 0

  pub weight_all : (ℕ → ℕ) → ExprTrees → ℕ
  weight_all calls no_exprs = 0
  weight_all calls (expr_more e es) = weight_in calls e + weight_all calls es

-- 1 for a leaf, and 1 more than the deepest of its parts, and of the called function, for any other such expression
abbrev mutual
  pub depth_in : (ℕ → ℕ) → ExprTree → ℕ
  depth_in calls (expr_lit k) = 1
  depth_in calls (expr_truth t) = 1
  depth_in calls (expr_var x) = 1
  depth_in calls (expr_set_of es) = 1 + depth_all calls es
  depth_in calls (expr_tuple es) = 1 + depth_all calls es
  depth_in calls (expr_neg a) = 1 + depth_in calls a
  depth_in calls (expr_not a) = 1 + depth_in calls a
  depth_in calls (expr_abs a) = 1 + depth_in calls a
  depth_in calls (expr_binary op a b) = 1 + max (depth_in calls a) (depth_in calls b)
  depth_in calls (expr_chain orders es) = 0
  depth_in calls (expr_min es) = 0
  depth_in calls (expr_max es) = 0
  depth_in calls (expr_divides k a) = 1 + depth_in calls a
  depth_in calls (expr_div a k) = 1 + depth_in calls a
  depth_in calls (expr_mod a k) = 1 + depth_in calls a
  depth_in calls (expr_card a) = 1 + depth_in calls a
  depth_in calls (expr_if t a b) = 1 + max (depth_in calls t) (max (depth_in calls a) (depth_in calls b))
  depth_in calls (expr_call f es) = 1 + max (depth_all calls es) (calls f)
  depth_in calls (expr_let n a b) = 1 + max (depth_in calls a) (depth_in calls b)
  depth_in calls (expr_choose n scope outputs rel) = 1 + rel_depth rel
  depth_in calls (expr_choose_where n scope outputs hidden given rel aim) = 0
  depth_in calls (expr_match n scope a arms) = 0

  pub depth_all : (ℕ → ℕ) → ExprTrees → ℕ
  depth_all calls no_exprs = 0
  depth_all calls (expr_more e es) = max (depth_in calls e) (depth_all calls es)

-- the measure of each function in turn, where `known` holds those of the functions before
abbrev pub measured : ((ℕ → ℕ) → ExprTree → ℕ) → List ℕ → List DefTree → List ℕ
measured measure known [] = []
measured measure known (d ∷ ds) =
    let n = measure (λ f. slice_index known f) (lowered d.body) in n ∷ measured measure (known ++ n ∷ []) ds

abbrev pub weights : List DefTree → List ℕ
weights defs = measured weight_in [] defs

abbrev pub depths : List DefTree → List ℕ
depths defs = measured depth_in [] defs

-- the first of these numbers that passes the limit, with its place in the list, where the first has place i; a number stands still at 2^64 - 1
abbrev pub first_above : ℕ → ℕ → List ℕ → Option (ℕ × ℕ)
first_above limit i [] = None
first_above limit i (n ∷ ns) = if nat_le n limit then first_above limit (suc i) ns else Some (i, capped n)

abbrev pub passed_at : Passed → ℕ × ℕ
passed_at p = (p.function, p.size)
