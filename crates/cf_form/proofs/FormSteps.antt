-- Steps and ends of the loops over formed parts.
use Rattle.std.proofs.Common.{◌≡◌, ℕ, suc, ◌+◌, ◌≤◌, Result, IfOk, List, [], ◌∷◌, length, map, take, refl, ap, ◌∙◌, subst}
use Rattle.std.proofs.lemmas.List.{take_all}
use Rattle.cf_tree.specs.declared.base.Order.{Order}
use Rattle.cf_tree.specs.declared.expr.Expr.{Expr}
use Rattle.cf_tree.specs.declared.expr.MatchArm.{MatchArm}
use Rattle.cf_tree.specs.declared.memory.NoMemory.{NoMemory}
use Rattle.cf_tree.specs.ExprTree.{ExprTree, expr_tuple, expr_let, expr_chain, ExprTrees, no_exprs, expr_more, exprs_of, MatchArmTree, match_arm, match_arm_more, match_arms_of}
use Rattle.cf_tree.specs.ExprView.{expr_tree, expr_trees, match_arm_tree, match_arm_trees}
use Rattle.cf_form.specs.Expansion.{Calls}
use Rattle.cf_form.specs.Formed.{chain_body, best_body, how_many, formed, all_formed, arms_formed}
use Rattle.cf_form.specs.FormShapes.{best_form, chain_form, arm_formed, best_formed}

each_formed : (calls : Calls) (s : ℕ) (es : List ExprTree) → exprs_of (map (formed calls s) es) ≡ all_formed calls s (exprs_of es)
each_formed calls s [] = refl
each_formed calls s (e ∷ es) = ap (λ ps. expr_more (formed calls s e) ps) (each_formed calls s es)

each_arm_formed : (calls : Calls) (s : ℕ) (arms : List MatchArmTree) →
    match_arms_of (map (arm_formed calls s) arms) ≡ arms_formed calls s (match_arms_of arms)
each_arm_formed calls s [] = refl
each_arm_formed calls s (match_arm m factors k body ∷ arms) =
    ap (λ rest. match_arm_more (match_arm m factors k (formed calls (s + length factors) body)) rest) (each_arm_formed calls s arms)

pub exprs_at_end : (calls : Calls) (s : ℕ) (es new : List Expr) (n : ℕ) → length es ≤ n →
    map expr_tree new ≡ map (formed calls s) (map expr_tree (take n es)) → expr_trees new ≡ all_formed calls s (expr_trees es)
exprs_at_end calls s es new n l h =
    ap exprs_of h ∙ ap (λ xs. exprs_of (map (formed calls s) (map expr_tree xs))) (take_all n es l) ∙ each_formed calls s (map expr_tree es)

pub arms_at_end : (calls : Calls) (s : ℕ) (arms new : List MatchArm) (n : ℕ) → length arms ≤ n →
    map match_arm_tree new ≡ map (arm_formed calls s) (map match_arm_tree (take n arms)) →
    match_arm_trees new ≡ arms_formed calls s (match_arm_trees arms)
arms_at_end calls s arms new n l h =
    ap match_arms_of h ∙ ap (λ xs. match_arms_of (map (arm_formed calls s) (map match_arm_tree xs))) (take_all n arms l)
    ∙ each_arm_formed calls s (map match_arm_tree arms)

pub count_is : (es : List ExprTree) → how_many (exprs_of es) ≡ length es
count_is [] = refl
count_is (e ∷ es) = ap suc (count_is es)

pub counts_are : (es : List Expr) → how_many (expr_trees es) ≡ length es
counts_are [] = refl
counts_are (e ∷ es) = ap suc (counts_are es)

-- ---- forms over formed parts
same_count : (calls : Calls) (s : ℕ) (es : ExprTrees) → how_many (all_formed calls s es) ≡ how_many es
same_count calls s no_exprs = refl
same_count calls s (expr_more e es) = ap suc (same_count calls s es)

pub chain_is : (r : Result Expr NoMemory) (calls : Calls) (s : ℕ) (orders : List Order) (es parts : ExprTrees) → parts ≡ all_formed calls s es →
    IfOk r (λ e. expr_tree e ≡ chain_form orders s parts) → IfOk r (λ e. expr_tree e ≡ formed calls s (expr_chain orders es))
chain_is r calls s orders es parts h k =
    let same = ap (λ ps. chain_form orders s ps) h
    ∙ ap (λ n. expr_let n (expr_tuple (all_formed calls s es)) (chain_body s orders)) (same_count calls s es) in
    subst (λ t. IfOk r (λ e. expr_tree e ≡ t)) same k

pub best_is : (r : Result Expr NoMemory) (calls : Calls) (s : ℕ) (o : Order) (es parts : ExprTrees) → parts ≡ all_formed calls s es →
    IfOk r (λ e. expr_tree e ≡ best_form o s parts) → IfOk r (λ e. expr_tree e ≡ best_formed calls o s es)
best_is r calls s o es parts h k =
    let same = ap (λ ps. best_form o s ps) h
    ∙ ap (λ n. expr_let n (expr_tuple (all_formed calls s es)) (best_body o s n)) (same_count calls s es) in
    subst (λ t. IfOk r (λ e. expr_tree e ≡ t)) same k
