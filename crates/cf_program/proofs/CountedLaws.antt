-- What is counted on an expression is what its lowered form has.
use Rattle.std.proofs.Common.{◌≡◌, ℕ, zero, suc, ℤ, ◌+◌, ◌-◌, ◌*◌, ◌≤◌, ◌<◌, ◌==◌, max, min, Bool, true, false, List, [], ◌∷◌, length, get_or, drop, refl, sym, ◌∙◌, ap, cond, arith}
use Rattle.std.proofs.Math.Numerals.{add-one}
use Rattle.std.proofs.Math.Seq.{drop-cons}
use Rattle.cf_tree.specs.declared.raw.BinOp.TheVariants.{Or}
use Rattle.cf_tree.specs.declared.raw.Param.{Param}
use Rattle.cf_tree.specs.ExprTree.{ExprTree, expr_lit, expr_truth, expr_var, expr_set_of, expr_tuple, expr_neg, expr_not, expr_abs, expr_binary, expr_chain, expr_min, expr_max, expr_divides, expr_div, expr_mod, expr_card, expr_if, expr_call, expr_let, expr_choose, expr_choose_where, expr_match, ExprTrees, no_exprs, expr_more, match_arm, MatchArmTrees, no_match_arms, match_arm_more}
use Rattle.cf_tree.specs.declared.expr.MatchArm.{MatchArm}
use Rattle.cf_tree.specs.ExprView.{match_arm_tree, match_arm_trees}
use Rattle.cf_tree.specs.RelSize.{capped, term_size, term_depth}
use Rattle.cf_tree.specs.RelTree.{TermTree, term_lit, term_var, term_add, term_mul}
use Rattle.cf_program.specs.Counted.{are_zero, test_depth, tests_weight, any_weight, tests_depth, any_depth, picks_weight, picks_depth, last_level, variables_weight, variables_depth, weight_of, weight_of_all, weight_of_arms, depth_of, depth_of_all, depth_of_arms}
use Rattle.cf_program.specs.Lowered.{divisor, test_by, test, added, with_variables, any_test, any_fits, lowered, all_lowered, picked}
use Rattle.cf_program.specs.Size.{weight_in, weight_all, depth_in, depth_all}
use Rattle.cf_program.proofs.DivisorLaws.{not_zero, divisor_is}

test_by_weight : (calls : ℕ → ℕ) (x d : ℕ) (k : ℤ) → weight_in calls (test_by x d k) ≡ cond (d == 0) 3 4
test_by_weight calls x zero k = refl
test_by_weight calls x (suc d) k = sym (ap (λ b. cond b 3 4) (not_zero (suc d) (omega arith)))

test_by_depth : (calls : ℕ → ℕ) (x d : ℕ) (k : ℤ) → depth_in calls (test_by x d k) ≡ cond (d == 0) 2 3
test_by_depth calls x zero k = refl
test_by_depth calls x (suc d) k = sym (ap (λ b. cond b 2 3) (not_zero (suc d) (omega arith)))

test_weight_is : (calls : ℕ → ℕ) (x : ℕ) (factors : List ℤ) (k : ℤ) → weight_in calls (test x factors k) ≡ cond (are_zero factors) 3 4
test_weight_is calls x factors k = test_by_weight calls x (divisor factors) k ∙ ap (λ b. cond b 3 4) (divisor_is factors)

test_depth_is : (calls : ℕ → ℕ) (x : ℕ) (factors : List ℤ) (k : ℤ) → depth_in calls (test x factors k) ≡ cond (are_zero factors) 2 3
test_depth_is calls x factors k = test_by_depth calls x (divisor factors) k ∙ ap (λ b. cond b 2 3) (divisor_is factors)

some_depth : (b : Bool) → 1 ≤ cond b 2 3
some_depth true = omega arith
some_depth false = omega arith

added_size : (sum : TermTree) (y : ℕ) (factors : List ℤ) (k : ℤ) → term_size (added sum y factors k) ≡ term_size sum + 4 * length factors + 2
added_size sum y [] k = omega arith
added_size sum y (f ∷ factors) k = omega (arith, added_size (term_add sum (term_mul (term_lit f) (term_var y))) (suc y) factors k)

added_depth : (sum : TermTree) (y : ℕ) (factors : List ℤ) (k : ℤ) → 2 ≤ term_depth sum →
    term_depth (added sum y factors k) ≡ term_depth sum + length factors + 1
added_depth sum y [] k h = omega arith
added_depth sum y (f ∷ factors) k h = omega (arith, added_depth (term_add sum (term_mul (term_lit f) (term_var y))) (suc y) factors k (omega arith))

with_variables_weight : (calls : ℕ → ℕ) (m x : ℕ) (scope : List Param) (factors : List ℤ) (k : ℤ) (body : ExprTree) →
    weight_in calls (with_variables m x scope factors k body) ≡ variables_weight factors + weight_in calls body
with_variables_weight calls m x scope [] k body = omega arith
with_variables_weight calls m x scope (f ∷ factors) k body =
    omega (arith, added_size (term_mul (term_lit f) (term_var (suc x))) (suc (suc x)) factors k)

with_variables_depth : (calls : ℕ → ℕ) (m x : ℕ) (scope : List Param) (factors : List ℤ) (k : ℤ) (body : ExprTree) →
    depth_in calls (with_variables m x scope factors k body) ≡ variables_depth factors (depth_in calls body)
with_variables_depth calls m x scope [] k body = refl
with_variables_depth calls m x scope (f ∷ factors) k body =
    omega (arith, added_depth (term_mul (term_lit f) (term_var (suc x))) (suc (suc x)) factors k (omega arith))

any_test_weight : (calls : ℕ → ℕ) (x : ℕ) (before : ExprTree) (arms : MatchArmTrees) →
    weight_in calls (any_test x before arms) ≡ weight_in calls before + tests_weight arms
any_test_weight calls x before no_match_arms = omega arith
any_test_weight calls x before (match_arm_more (match_arm m factors k body) arms) =
    omega (arith, any_test_weight calls x (expr_binary Or before (test x factors k)) arms, test_weight_is calls x factors k)

any_fits_weight : (calls : ℕ → ℕ) (x : ℕ) (arms : MatchArmTrees) → weight_in calls (any_fits x arms) ≡ any_weight arms
any_fits_weight calls x no_match_arms = refl
any_fits_weight calls x (match_arm_more (match_arm m factors k body) arms) =
    omega (arith, any_test_weight calls x (test x factors k) arms, test_weight_is calls x factors k)

any_test_depth : (calls : ℕ → ℕ) (x : ℕ) (before : ExprTree) (arms : MatchArmTrees) →
    depth_in calls (any_test x before arms) ≡ tests_depth (depth_in calls before) arms
any_test_depth calls x before no_match_arms = refl
any_test_depth calls x before (match_arm_more (match_arm m factors k body) arms) =
    any_test_depth calls x (expr_binary Or before (test x factors k)) arms
    ∙ ap (λ d. tests_depth (1 + max (depth_in calls before) d) arms) (test_depth_is calls x factors k)

any_fits_depth : (calls : ℕ → ℕ) (x : ℕ) (arms : MatchArmTrees) → depth_in calls (any_fits x arms) ≡ any_depth arms
any_fits_depth calls x no_match_arms = refl
any_fits_depth calls x (match_arm_more (match_arm m factors k body) arms) =
    any_test_depth calls x (test x factors k) arms
    ∙ ap (λ d. tests_depth d arms) (test_depth_is calls x factors k)

mutual
  pub weight_lowered : (calls : ℕ → ℕ) (e : ExprTree) → weight_in calls (lowered e) ≡ weight_of calls e
  weight_lowered calls (expr_lit k) = refl
  weight_lowered calls (expr_truth t) = refl
  weight_lowered calls (expr_var x) = refl
  weight_lowered calls (expr_set_of es) = omega (arith, weight_lowered_all calls es)
  weight_lowered calls (expr_tuple es) = omega (arith, weight_lowered_all calls es)
  weight_lowered calls (expr_neg a) = omega (arith, weight_lowered calls a)
  weight_lowered calls (expr_not a) = omega (arith, weight_lowered calls a)
  weight_lowered calls (expr_abs a) = omega (arith, weight_lowered calls a)
  weight_lowered calls (expr_binary op a b) = omega (arith, weight_lowered calls a, weight_lowered calls b)
  weight_lowered calls (expr_chain orders es) = refl
  weight_lowered calls (expr_min es) = refl
  weight_lowered calls (expr_max es) = refl
  weight_lowered calls (expr_divides k a) = omega (arith, weight_lowered calls a)
  weight_lowered calls (expr_div a k) = omega (arith, weight_lowered calls a)
  weight_lowered calls (expr_mod a k) = omega (arith, weight_lowered calls a)
  weight_lowered calls (expr_card a) = omega (arith, weight_lowered calls a)
  weight_lowered calls (expr_if t a b) = omega (arith, weight_lowered calls t, weight_lowered calls a, weight_lowered calls b)
  weight_lowered calls (expr_call f es) = omega (arith, weight_lowered_all calls es)
  weight_lowered calls (expr_let n a b) = omega (arith, weight_lowered calls a, weight_lowered calls b)
  weight_lowered calls (expr_choose n scope outputs rel) = refl
  weight_lowered calls (expr_choose_where n scope outputs hidden given rel aim) = refl
  weight_lowered calls (expr_match n scope a arms) =
      omega (arith, weight_lowered calls a, any_fits_weight calls (length scope - 1) arms, weight_picked calls (length scope - 1) scope arms)

  weight_lowered_all : (calls : ℕ → ℕ) (es : ExprTrees) → weight_all calls (all_lowered es) ≡ weight_of_all calls es
  weight_lowered_all calls no_exprs = refl
  weight_lowered_all calls (expr_more e es) = omega (arith, weight_lowered calls e, weight_lowered_all calls es)

  weight_picked : (calls : ℕ → ℕ) (x : ℕ) (scope : List Param) (arms : MatchArmTrees) →
      weight_in calls (picked x scope arms) ≡ picks_weight arms + weight_of_arms calls arms
  weight_picked calls x scope no_match_arms = refl
  weight_picked calls x scope (match_arm_more (match_arm m factors k body) no_match_arms) =
      omega (arith, with_variables_weight calls m x scope factors k (lowered body), weight_lowered calls body)
  weight_picked calls x scope (match_arm_more (match_arm m factors k body) (match_arm_more b arms)) =
      omega (
        arith,
        test_weight_is calls x factors k,
        with_variables_weight calls m x scope factors k (lowered body),
        weight_lowered calls body,
        weight_picked calls x scope (match_arm_more b arms),
      )

-- one arm is picked without a test
picked_last : (n last d' d : ℕ) → d' ≡ d → last ≡ n + 0 → max (n + d') (n + 1) ≡ max (max 0 (max (min (n + 1) last + d) 0)) (n + 1)
picked_last n last d' d e h = omega arith

below_tests : (n t d p : ℕ) → max (n + (1 + max t (max d p))) (n + 1) ≡ max (n + 1 + t) (max (n + 1 + d) (n + 1 + p))
below_tests n t d p = omega arith

as_far_as : (u v w x z : ℕ) → z ≤ u → max w z ≡ max x z → max u (max v w) ≡ max u (max v x)
as_far_as u v w x z h e = omega arith

in_pairs : (u v p b : ℕ) → max u (max v (max p b)) ≡ max (max u p) (max v b)
in_pairs u v p b = omega arith

not_less : (u v p b z : ℕ) → z ≤ u → max (max u p) (max v b) ≡ max (max (max u p) (max v b)) z
not_less u v p b z h =
    let above : z ≤ max (max u p) (max v b) = omega arith in
    stays (max (max u p) (max v b)) z above
  where
    stays : (x z : ℕ) → z ≤ x → x ≡ max x z
    stays x z h = omega arith

-- an arm is picked by a test, or else one behind it
picked_more : (n last t' t d' d p picks bodies level : ℕ) → t' ≡ t → d' ≡ d → 1 ≤ t → last ≡ n + (1 + level) →
    max (n + 1 + p) (n + 1 + 1) ≡ max (max picks bodies) (n + 1 + 1) →
    max (n + (1 + max t' (max d' p))) (n + 1) ≡ max (max (max (n + 1 + t) picks) (max (min (n + 1) last + d) bodies)) (n + 1)
picked_more n last t' t d' d p picks bodies level et ed some h rest =
    let low : n + 1 ≡ min (n + 1) last = omega arith in
    ap (λ u. max (n + (1 + max u (max d' p))) (n + 1)) et
    ∙ ap (λ v. max (n + (1 + max t (max v p))) (n + 1)) ed
    ∙ below_tests n t d p
    ∙ as_far_as (n + 1 + t) (n + 1 + d) (n + 1 + p) (max picks bodies) (n + 1 + 1) (omega arith) rest
    ∙ in_pairs (n + 1 + t) (n + 1 + d) picks bodies
    ∙ not_less (n + 1 + t) (n + 1 + d) picks bodies (n + 1) (omega arith)
    ∙ ap (λ q. max (max (max (n + 1 + t) picks) (max (q + d) bodies)) (n + 1)) low

-- the depth of a match, of that of its value and of what picks an arm; without arms, the latter is less than the former
match_depth : (a any picks bodies p : ℕ) → max p 1 ≡ max (max picks bodies) 1 →
    1 + max (1 + max a (1 + max any 2)) p ≡ 1 + max (1 + max a (1 + max any 2)) (max picks bodies)
match_depth a any picks bodies p h = omega arith

mutual
  pub depth_lowered : (calls : ℕ → ℕ) (e : ExprTree) → depth_in calls (lowered e) ≡ depth_of calls e
  depth_lowered calls (expr_lit k) = refl
  depth_lowered calls (expr_truth t) = refl
  depth_lowered calls (expr_var x) = refl
  depth_lowered calls (expr_set_of es) = omega (arith, depth_lowered_all calls es)
  depth_lowered calls (expr_tuple es) = omega (arith, depth_lowered_all calls es)
  depth_lowered calls (expr_neg a) = omega (arith, depth_lowered calls a)
  depth_lowered calls (expr_not a) = omega (arith, depth_lowered calls a)
  depth_lowered calls (expr_abs a) = omega (arith, depth_lowered calls a)
  depth_lowered calls (expr_binary op a b) = omega (arith, depth_lowered calls a, depth_lowered calls b)
  depth_lowered calls (expr_chain orders es) = refl
  depth_lowered calls (expr_min es) = refl
  depth_lowered calls (expr_max es) = refl
  depth_lowered calls (expr_divides k a) = omega (arith, depth_lowered calls a)
  depth_lowered calls (expr_div a k) = omega (arith, depth_lowered calls a)
  depth_lowered calls (expr_mod a k) = omega (arith, depth_lowered calls a)
  depth_lowered calls (expr_card a) = omega (arith, depth_lowered calls a)
  depth_lowered calls (expr_if t a b) = rw (depth_lowered calls t, depth_lowered calls a, depth_lowered calls b) refl
  depth_lowered calls (expr_call f es) = omega (arith, depth_lowered_all calls es)
  depth_lowered calls (expr_let n a b) = omega (arith, depth_lowered calls a, depth_lowered calls b)
  depth_lowered calls (expr_choose n scope outputs rel) = refl
  depth_lowered calls (expr_choose_where n scope outputs hidden given rel aim) = refl
  depth_lowered calls (expr_match n scope a arms) =
      rw (depth_lowered calls a, any_fits_depth calls (length scope - 1) arms)
      (match_depth (depth_of calls a) (any_depth arms) (picks_depth 0 arms) (depth_of_arms calls 0 (last_level arms) arms)
      (depth_in calls (picked (length scope - 1) scope arms))
      (omega (arith, depth_picked calls (length scope - 1) scope 0 (last_level arms) arms (omega arith))))

  depth_lowered_all : (calls : ℕ → ℕ) (es : ExprTrees) → depth_all calls (all_lowered es) ≡ depth_of_all calls es
  depth_lowered_all calls no_exprs = refl
  depth_lowered_all calls (expr_more e es) = omega (arith, depth_lowered calls e, depth_lowered_all calls es)

  -- as far as the depth is more than n + 1, as it is where there are arms
  depth_picked : (calls : ℕ → ℕ) (x : ℕ) (scope : List Param) (n last : ℕ) (arms : MatchArmTrees) → last ≡ n + last_level arms →
      max (n + depth_in calls (picked x scope arms)) (n + 1) ≡ max (max (picks_depth n arms) (depth_of_arms calls n last arms)) (n + 1)
  depth_picked calls x scope n last no_match_arms h = omega arith
  depth_picked calls x scope n last (match_arm_more (match_arm m factors k body) no_match_arms) h =
      picked_last n last (depth_in calls (with_variables m x scope factors k (lowered body))) (variables_depth factors (depth_of calls body))
      (with_variables_depth calls m x scope factors k (lowered body) ∙ ap (variables_depth factors) (depth_lowered calls body)) h
  depth_picked calls x scope n last (match_arm_more (match_arm m factors k body) (match_arm_more b arms)) h =
      picked_more n last (depth_in calls (test x factors k)) (cond (are_zero factors) 2 3) (depth_in calls (with_variables m x scope factors k (lowered body)))
      (variables_depth factors (depth_of calls body))
      (depth_in calls (picked x scope (match_arm_more b arms))) (picks_depth (n + 1) (match_arm_more b arms))
      (depth_of_arms calls (n + 1) last (match_arm_more b arms)) (last_level (match_arm_more b arms))
      (test_depth_is calls x factors k) (with_variables_depth calls m x scope factors k (lowered body) ∙
      ap (variables_depth factors) (depth_lowered calls body)) (some_depth (are_zero factors)) h
      (depth_picked calls x scope (n + 1) last (match_arm_more b arms) (omega arith))

-- counts that stand still
pub tests_depth_capped : (d : ℕ) (arms : MatchArmTrees) → capped (tests_depth (capped d) arms) ≡ capped (tests_depth d arms)
tests_depth_capped d no_match_arms = omega arith
tests_depth_capped d (match_arm_more a arms) =
    let step : capped (1 + max (capped d) (test_depth a)) ≡ capped (1 + max d (test_depth a)) = omega arith in
    sym (tests_depth_capped (1 + max (capped d) (test_depth a)) arms)
    ∙ ap (λ n. capped (tests_depth n arms)) step
    ∙ tests_depth_capped (1 + max d (test_depth a)) arms

pub variables_depth_capped : (factors : List ℤ) (d : ℕ) → capped (variables_depth factors (capped d)) ≡ capped (variables_depth factors d)
variables_depth_capped [] d = omega arith
variables_depth_capped (f ∷ factors) d = omega arith

pub last_level_is : (arms : List MatchArm) → last_level (match_arm_trees arms) ≡ length arms - 1
last_level_is [] = refl
last_level_is (a ∷ []) = refl
last_level_is (a ∷ b ∷ arms) = omega (arith, last_level_is (b ∷ arms))

pub item_dropped : {A : Type 0} (xs : List A) (i : ℕ) (x : A) → i < length xs → x ≡ get_or xs i x → drop i xs ≡ x ∷ drop (i + 1) xs
item_dropped xs i x h e = drop-cons xs i x h ∙ ap (λ y. y ∷ drop (suc i) xs) (sym e) ∙ ap (λ j. x ∷ drop j xs) (sym (add-one i))

pub tests_depth_next : (arms : List MatchArm) (i : ℕ) (a : MatchArm) (d r m : ℕ) → i < length arms → a ≡ get_or arms i a →
    r ≡ capped (1 + max d (test_depth (match_arm_tree a))) → capped (tests_depth d (match_arm_trees (drop i arms))) ≡ m →
    capped (tests_depth r (match_arm_trees (drop (i + 1) arms))) ≡ m
tests_depth_next arms i a d r m h at e inv =
    ap (λ n. capped (tests_depth n (match_arm_trees (drop (i + 1) arms)))) e
    ∙ tests_depth_capped (1 + max d (test_depth (match_arm_tree a))) (match_arm_trees (drop (i + 1) arms))
    ∙ ap (λ rest. capped (tests_depth d (match_arm_trees rest))) (sym (item_dropped arms i a h at))
    ∙ inv
