-- Steps of the loops over parts and expressions, and their ends.
use Rattle.std.proofs.Common.{◌≡◌, ℕ, ◌≤◌, List, [], ◌∷◌, ◌++◌, length, map, take, reverse, refl, sym, ap, ◌∙◌}
use Rattle.std.proofs.lemmas.List.{append-nil, take_all}
use Rattle.cf_tree.specs.declared.expr.Expr.{Expr}
use Rattle.cf_tree.specs.ExprTree.{ExprTree, exprs_of}
use Rattle.cf_tree.specs.ExprView.{expr_tree, expr_trees}
use Rattle.cf_form.specs.Expansion.{Part, Calls, expanded, all_expanded, first_part, numbers_in, number_in}
use Rattle.cf_form.specs.Wide.{wide_more}
use Rattle.cf_form.specs.WideView.{wides_of, wide_term, wide_terms, part}
use Rattle.cf_form.specs.declared.wide.Part.{Part as DeclaredPart}
use Rattle.cf_form.specs.declared.wide.WideTerm.{WideTerm as DeclaredTerm}

pub each_expanded : (calls : Calls) (env : List Part) (es : List ExprTree) →
    map (λ e. first_part (expanded calls env e)) es ≡ all_expanded calls env (exprs_of es)
each_expanded calls env [] = refl
each_expanded calls env (e ∷ es) = ap (λ ps. first_part (expanded calls env e) ∷ ps) (each_expanded calls env es)

pub exprs_at_end : (calls : Calls) (env : List Part) (es : List Expr) (ps : List Part) (n : ℕ) → length es ≤ n →
    ps ≡ map (λ e. first_part (expanded calls env e)) (map expr_tree (take n es)) → ps ≡ all_expanded calls env (expr_trees es)
exprs_at_end calls env es ps n l h =
    h ∙ ap (λ xs. map (λ e. first_part (expanded calls env e)) (map expr_tree xs)) (take_all n es l) ∙ each_expanded calls env (map expr_tree es)

pub numbers_are : (ps : List Part) → wides_of (map number_in ps) ≡ numbers_in ps
numbers_are [] = refl
numbers_are (p ∷ ps) = ap (λ ts. wide_more (number_in p) ts) (numbers_are ps)

pub numbers_at_end : (ts : List DeclaredTerm) (left : List DeclaredPart) (ps : List Part) → left ≡ [] →
    map wide_term ts ++ map number_in (map part (reverse left)) ≡ map number_in ps → wide_terms ts ≡ numbers_in ps
numbers_at_end ts left ps empty h =
    ap wides_of (sym (append-nil (map wide_term ts)) ∙ ap (λ xs. map wide_term ts ++ map number_in (map part (reverse xs))) (sym empty) ∙ h) ∙ numbers_are ps
