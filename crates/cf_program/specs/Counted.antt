-- Weights and unfolded depths counted on the expression itself: a match by the nodes that its lowered form has.
--
-- No public contract cites these. They are equal to the measures of `Size`, by the laws of proofs/CountedLaws.antt.
use Rattle.std.specs.Prelude.{ℕ, ℤ, pos, ◌+◌, ◌*◌, max, min, Bool, List, [], ◌∷◌, length, if◌then◌else◌}
use Rattle.std.specs.List.{list_all}
use Rattle.std.specs.Ordering.{int_eq}
use Rattle.cf_tree.specs.ExprTree.{ExprTree, expr_lit, expr_truth, expr_var, expr_set_of, expr_tuple, expr_neg, expr_not, expr_abs, expr_binary, expr_chain, expr_min, expr_max, expr_divides, expr_div, expr_mod, expr_card, expr_if, expr_call, expr_let, expr_choose, expr_choose_where, expr_match, ExprTrees, no_exprs, expr_more, MatchArmTree, match_arm, MatchArmTrees, no_match_arms, match_arm_more}
use Rattle.cf_tree.specs.RelSize.{rel_size, rel_depth}

abbrev pub are_zero : List ℤ → Bool
are_zero factors = list_all (λ f. int_eq f (pos 0)) factors

-- the test whether an arm fits: a comparison of a variable with a literal, where all factors are 0, and else of its remainder
abbrev pub test_weight : MatchArmTree → ℕ
test_weight (match_arm m factors k body) = if are_zero factors then 3 else 4

abbrev pub test_depth : MatchArmTree → ℕ
test_depth (match_arm m factors k body) = if are_zero factors then 2 else 3

-- each test, with the operation that joins it to those before
abbrev pub tests_weight : MatchArmTrees → ℕ
tests_weight no_match_arms = 0
tests_weight (match_arm_more a arms) = 1 + test_weight a + tests_weight arms

abbrev pub any_weight : MatchArmTrees → ℕ
any_weight no_match_arms = 1
any_weight (match_arm_more a arms) = test_weight a + tests_weight arms

-- a chain of tests to the left, with one of depth d before them
abbrev pub tests_depth : ℕ → MatchArmTrees → ℕ
tests_depth d no_match_arms = d
tests_depth d (match_arm_more a arms) = tests_depth (1 + max d (test_depth a)) arms

abbrev pub any_depth : MatchArmTrees → ℕ
any_depth no_match_arms = 1
any_depth (match_arm_more a arms) = tests_depth (test_depth a) arms

-- the tests that pick an arm, each with its `if`; the last arm has none, and without arms there is the empty tuple
abbrev pub picks_weight : MatchArmTrees → ℕ
picks_weight no_match_arms = 1
picks_weight (match_arm_more a no_match_arms) = 0
picks_weight (match_arm_more a (match_arm_more b arms)) = 1 + test_weight a + picks_weight (match_arm_more b arms)

-- the deepest of these tests, where the first has n tests before it
abbrev pub picks_depth : ℕ → MatchArmTrees → ℕ
picks_depth n no_match_arms = 0
picks_depth n (match_arm_more a no_match_arms) = 0
picks_depth n (match_arm_more a (match_arm_more b arms)) = max (n + 1 + test_depth a) (picks_depth (n + 1) (match_arm_more b arms))

-- how many tests stand before the last arm
abbrev pub last_level : MatchArmTrees → ℕ
last_level no_match_arms = 0
last_level (match_arm_more a no_match_arms) = 0
last_level (match_arm_more a (match_arm_more b arms)) = 1 + last_level (match_arm_more b arms)

-- the choose of the variables of a pattern, and the `let` that binds them
abbrev pub variables_weight : List ℤ → ℕ
variables_weight [] = 0
variables_weight (f ∷ factors) = 9 + 4 * length factors

-- a body of depth d with the variables of a pattern
abbrev pub variables_depth : List ℤ → ℕ → ℕ
variables_depth [] d = d
variables_depth (f ∷ factors) d = 1 + max (5 + length factors) d

abbrev mutual
  pub weight_of : (ℕ → ℕ) → ExprTree → ℕ
  weight_of calls (expr_lit k) = 1
  weight_of calls (expr_truth t) = 1
  weight_of calls (expr_var x) = 1
  weight_of calls (expr_set_of es) = 1 + weight_of_all calls es
  weight_of calls (expr_tuple es) = 1 + weight_of_all calls es
  weight_of calls (expr_neg a) = 1 + weight_of calls a
  weight_of calls (expr_not a) = 1 + weight_of calls a
  weight_of calls (expr_abs a) = 1 + weight_of calls a
  weight_of calls (expr_binary op a b) = 1 + weight_of calls a + weight_of calls b
  weight_of calls (expr_chain orders es) = 0
  weight_of calls (expr_min es) = 0
  weight_of calls (expr_max es) = 0
  weight_of calls (expr_divides k a) = 1 + weight_of calls a
  weight_of calls (expr_div a k) = 1 + weight_of calls a
  weight_of calls (expr_mod a k) = 1 + weight_of calls a
  weight_of calls (expr_card a) = 1 + weight_of calls a
  weight_of calls (expr_if t a b) = 1 + weight_of calls t + weight_of calls a + weight_of calls b
  weight_of calls (expr_call f es) = 1 + weight_of_all calls es + calls f
  weight_of calls (expr_let n a b) = 1 + weight_of calls a + weight_of calls b
  weight_of calls (expr_choose n scope outputs rel) = 1 + rel_size rel
  weight_of calls (expr_choose_where n scope outputs hidden given rel aim) = 0
  weight_of calls (expr_match n scope a arms) = 6 + weight_of calls a + any_weight arms + picks_weight arms + weight_of_arms calls arms

  pub weight_of_all : (ℕ → ℕ) → ExprTrees → ℕ
  weight_of_all calls no_exprs = 0
  weight_of_all calls (expr_more e es) = weight_of calls e + weight_of_all calls es

  pub weight_of_arm : (ℕ → ℕ) → MatchArmTree → ℕ
  weight_of_arm calls (match_arm m factors k body) = variables_weight factors + weight_of calls body

  pub weight_of_arms : (ℕ → ℕ) → MatchArmTrees → ℕ
  weight_of_arms calls no_match_arms = 0
  weight_of_arms calls (match_arm_more a arms) = weight_of_arm calls a + weight_of_arms calls arms

abbrev mutual
  pub depth_of : (ℕ → ℕ) → ExprTree → ℕ
  depth_of calls (expr_lit k) = 1
  depth_of calls (expr_truth t) = 1
  depth_of calls (expr_var x) = 1
  depth_of calls (expr_set_of es) = 1 + depth_of_all calls es
  depth_of calls (expr_tuple es) = 1 + depth_of_all calls es
  depth_of calls (expr_neg a) = 1 + depth_of calls a
  depth_of calls (expr_not a) = 1 + depth_of calls a
  depth_of calls (expr_abs a) = 1 + depth_of calls a
  depth_of calls (expr_binary op a b) = 1 + max (depth_of calls a) (depth_of calls b)
  depth_of calls (expr_chain orders es) = 0
  depth_of calls (expr_min es) = 0
  depth_of calls (expr_max es) = 0
  depth_of calls (expr_divides k a) = 1 + depth_of calls a
  depth_of calls (expr_div a k) = 1 + depth_of calls a
  depth_of calls (expr_mod a k) = 1 + depth_of calls a
  depth_of calls (expr_card a) = 1 + depth_of calls a
  depth_of calls (expr_if t a b) = 1 + max (depth_of calls t) (max (depth_of calls a) (depth_of calls b))
  depth_of calls (expr_call f es) = 1 + max (depth_of_all calls es) (calls f)
  depth_of calls (expr_let n a b) = 1 + max (depth_of calls a) (depth_of calls b)
  depth_of calls (expr_choose n scope outputs rel) = 1 + rel_depth rel
  depth_of calls (expr_choose_where n scope outputs hidden given rel aim) = 0
  depth_of calls (expr_match n scope a arms) =
      1 + max (1 + max (depth_of calls a) (1 + max (any_depth arms) 2)) (max (picks_depth 0 arms) (depth_of_arms calls 0 (last_level arms) arms))

  pub depth_of_all : (ℕ → ℕ) → ExprTrees → ℕ
  depth_of_all calls no_exprs = 0
  depth_of_all calls (expr_more e es) = max (depth_of calls e) (depth_of_all calls es)

  pub depth_of_arm : (ℕ → ℕ) → MatchArmTree → ℕ
  depth_of_arm calls (match_arm m factors k body) = variables_depth factors (depth_of calls body)

  -- the deepest body below the tests that pick it, where n tests stand before the first arm, and `last` before the last
  pub depth_of_arms : (ℕ → ℕ) → ℕ → ℕ → MatchArmTrees → ℕ
  depth_of_arms calls n last no_match_arms = 0
  depth_of_arms calls n last (match_arm_more a arms) = max (min (n + 1) last + depth_of_arm calls a) (depth_of_arms calls (n + 1) last arms)
