-- Expressions over formed parts.
use Rattle.std.specs.Prelude.{ℕ, ◌+◌, true, false, ◌||◌, if◌then◌else◌, List, [], ◌∷◌, ◌++◌, length, map, filter}
use Rattle.cf_tree.specs.declared.base.Base.{Base}
use Rattle.cf_tree.specs.declared.base.Order.{Order}
use Rattle.cf_tree.specs.declared.raw.Param.{Param}
use Rattle.cf_tree.specs.ExprTree.{ExprTree, expr_set_of, expr_tuple, expr_neg, expr_not, expr_abs, expr_divides, expr_div, expr_mod, expr_card, expr_call, expr_var, expr_if, expr_choose, expr_let, ExprTrees, MatchArmTree, match_arm}
use Rattle.cf_tree.specs.Params.{bases_of}
use Rattle.cf_tree.specs.RelTree.{RelTree}
use Rattle.cf_form.specs.Alternatives.{all_of}
use Rattle.cf_form.specs.Branches.{Branch, truth_levels, truth_bounds, in_branch}
use Rattle.cf_form.specs.Expansion.{Calls, truth_in, first_part, expanded, variables_from}
use Rattle.cf_form.specs.Formed.{best_body, chain_body, how_many, formed, all_formed, as_number, are_as_chosen, one_or_tuple, all_given_out}
use Rattle.cf_form.specs.Wide.{WideRel, has_truth}

abbrev pub over_list : ExprTree → ExprTrees → ExprTree
over_list (expr_set_of own) es = expr_set_of es
over_list (expr_call f own) es = expr_call f es
over_list _ es = expr_tuple es

abbrev pub over_one : ExprTree → ExprTree → ExprTree
over_one (expr_neg own) a = expr_neg a
over_one (expr_not own) a = expr_not a
over_one (expr_abs own) a = expr_abs a
over_one (expr_divides k own) a = expr_divides k a
over_one (expr_div own k) a = expr_div a k
over_one (expr_mod own k) a = expr_mod a k
over_one _ a = expr_card a

-- the least or greatest of formed parts, behind s variables
abbrev pub best_form : Order → ℕ → ExprTrees → ExprTree
best_form o s es = expr_let (how_many es) (expr_tuple es) (best_body o s (how_many es))

-- the least or greatest of parts that are to be formed
abbrev pub best_formed : Calls → Order → ℕ → ExprTrees → ExprTree
best_formed calls o s es = expr_let (how_many es) (expr_tuple (all_formed calls s es)) (best_body o s (how_many es))

abbrev pub chain_form : List Order → ℕ → ExprTrees → ExprTree
chain_form orders s es = expr_let (how_many es) (expr_tuple es) (chain_body s orders)

-- ---- a choose without an objective, of which the relation holds the condition too
abbrev pub branched_in : List Param → WideRel → List ℕ
branched_in scope r = filter (λ x. has_truth x r || false) (truth_levels 0 (bases_of scope))

abbrev pub relation_over : List Param → List Base → WideRel → Branch → RelTree
relation_over scope outputs r branch = all_of (truth_bounds (length scope) outputs ++ in_branch branch r ∷ [])

-- where all its outputs have these bases
abbrev pub branching_over : ℕ → List Param → List Base → WideRel → List ℕ → Branch → ExprTree
branching_over n scope outputs r [] branch = expr_choose n scope (map as_number outputs) (relation_over scope outputs r branch)
branching_over n scope outputs r (x ∷ xs) branch =
    expr_if (expr_var x) (branching_over n scope outputs r xs (branch ++ (x, true) ∷ [])) (branching_over n scope outputs r xs (branch ++ (x, false) ∷ []))

abbrev pub choose_over : ℕ → List Param → List Base → List Base → WideRel → ExprTree
choose_over n scope outputs hidden r =
    let chosen = branching_over n scope (outputs ++ hidden) r (branched_in scope r) [] in
    if are_as_chosen outputs hidden then chosen
    else expr_let (length (outputs ++ hidden)) chosen (one_or_tuple (all_given_out (length scope) outputs))

-- the same arm over this body
abbrev pub arm_over : MatchArmTree → ExprTree → MatchArmTree
arm_over (match_arm m factors k own) body = match_arm m factors k body

-- an arm, whose body is formed behind s variables
abbrev pub arm_formed : Calls → ℕ → MatchArmTree → MatchArmTree
arm_formed calls s (match_arm m factors k body) = match_arm m factors k (formed calls (s + length factors) body)

-- the relation that an expression over variables of these bases is
abbrev pub wide_truth_of : Calls → List Base → ExprTree → WideRel
wide_truth_of calls bases e = truth_in (first_part (expanded calls (variables_from 0 bases) e))
