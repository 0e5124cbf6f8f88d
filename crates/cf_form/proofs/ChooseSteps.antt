-- The form of a choose, by what it needs of it.
use Rattle.std.proofs.Common.{◌≡◌, ℕ, Bool, true, false, List, [], ◌∷◌, ◌++◌, length, length-append, map, refl, sym, ap, ap₂, ◌∙◌, suc, ◌+◌, arith, subst, filter, Result}
use Rattle.std.specs.Prelude.{◌||◌, if◌then◌else◌, IfOk}
use Rattle.std.proofs.lemmas.List.{length-map}
use Rattle.cf_tree.specs.declared.base.Base.{Base}
use Rattle.cf_tree.specs.declared.raw.Param.{Param}
use Rattle.cf_tree.specs.declared.expr.Expr.{Expr}
use Rattle.cf_tree.specs.declared.memory.NoMemory.{NoMemory}
use Rattle.cf_tree.specs.ExprTree.{ExprTree, expr_var, expr_if, expr_let, expr_tuple, expr_choose_where, exprs_of, GivenExpr, at_any}
use Rattle.cf_tree.specs.Params.{bases_of}
use Rattle.cf_tree.specs.ExprView.{expr_tree, expr_trees}
use Rattle.cf_form.specs.Branches.{WideChoose, Branch, branched, all_outputs, some_aim_has, truth_levels}
use Rattle.cf_form.specs.Expansion.{Calls}
use Rattle.cf_form.specs.Formed.{branching, choose_form, formed, wide_choose, are_as_chosen, one_or_tuple, all_given_out}
use Rattle.cf_form.specs.FormShapes.{branched_in, branching_over, choose_over}
use Rattle.cf_form.specs.Wide.{has_truth}

branching_is : (q : WideChoose) (xs : List ℕ) (branch : Branch) →
    branching_over q.number q.scope (all_outputs q) q.relation xs branch ≡ branching q xs branch
branching_is q [] branch = refl
branching_is q (x ∷ xs) branch =
    ap₂ (expr_if (expr_var x)) (branching_is q xs (branch ++ (x, true) ∷ [])) (branching_is q xs (branch ++ (x, false) ∷ []))

one_way : (b : Bool) (x y : ExprTree) (z : ExprTree → ExprTree) → x ≡ y → (if b then x else z x) ≡ (if b then y else z y)
one_way b x y z e = ap (λ e. if b then e else z e) e

form_is : (q : WideChoose) → q.aims ≡ [] → choose_over q.number q.scope q.outputs q.hidden q.relation ≡ choose_form q
form_is q e =
    let levels : branched_in q.scope q.relation ≡ branched q =
    ap (λ aims. filter (λ x. has_truth x q.relation || some_aim_has x aims) (truth_levels 0 (bases_of q.scope))) (sym e) in
    one_way (are_as_chosen q.outputs q.hidden) (branching_over q.number q.scope (all_outputs q) q.relation (branched_in q.scope q.relation) [])
    (branching q (branched q) [])
    (λ chosen. expr_let (length (all_outputs q)) chosen (one_or_tuple (all_given_out (length q.scope) q.outputs)))
    (branching_is q (branched_in q.scope q.relation) [] ∙ ap (λ xs. branching q xs []) levels)

pub choose_is : (calls : Calls) (n : ℕ) (scope : List Param) (outputs hidden : List Base) (given : GivenExpr) (e : ExprTree) →
    let q = wide_choose calls (record { number = n; scope = scope; outputs = outputs; hidden = hidden; given = given; relation = e; aim = at_any }) in
    choose_over n scope outputs hidden q.relation ≡ choose_form q
choose_is calls n scope outputs hidden given e =
    form_is (wide_choose calls (record { number = n; scope = scope; outputs = outputs; hidden = hidden; given = given; relation = e; aim = at_any })) refl

-- ---- one, or several as a tuple
many : (es : List ExprTree) → (length es ≡ 1 → ⊥) → expr_tuple (exprs_of es) ≡ one_or_tuple es
many [] h = refl
many (e ∷ []) h = absurd (h refl)
many (e ∷ f ∷ es) h = refl

pub as_tuple : (es : List Expr) → (length es ≡ 1 → ⊥) → expr_tuple (expr_trees es) ≡ one_or_tuple (map expr_tree es)
as_tuple es h = many (map expr_tree es) (λ e. h (sym (length-map es expr_tree) ∙ e))

pub as_one : (es rest : List Expr) (e : Expr) → length es ≡ 1 → es ≡ rest ++ e ∷ [] → expr_tree e ≡ one_or_tuple (map expr_tree es)
as_one es [] e l is = ap (λ xs. one_or_tuple (map expr_tree xs)) (sym is)
as_one es (x ∷ rest) e l is =
    let two : length es ≡ suc (length rest + 1) = ap length is ∙ ap suc (length-append rest (e ∷ [])) in
    absurd (omega (arith, l, two))

-- ---- a choose without an objective, by the lists that are lent of it
pub any_formed : (calls : Calls) (r : Result Expr NoMemory) (n : ℕ) (scope lent_scope : List Param) (outputs lent_outputs hidden lent_hidden : List Base)
    (given : GivenExpr) (e lent : ExprTree) (t : ExprTree) → lent_scope ≡ scope → lent_outputs ≡ outputs → lent_hidden ≡ hidden → lent ≡ e →
    t ≡ expr_choose_where n scope outputs hidden given e at_any →
    IfOk r (λ f. expr_tree f ≡ choose_form (wide_choose calls (record {
      number = n;
      scope = lent_scope;
      outputs = lent_outputs;
      hidden = lent_hidden;
      given = given;
      relation = lent;
      aim = at_any;
    }))) →
    IfOk r (λ f. expr_tree f ≡ formed calls 0 t)
any_formed calls r n scope lent_scope outputs lent_outputs hidden lent_hidden given e lent t s o h l is f =
    subst (λ t. IfOk r (λ f. expr_tree f ≡ formed calls 0 t)) (sym is)
    (subst (λ scope. IfOk r (λ f. expr_tree f ≡ formed calls 0 (expr_choose_where n scope outputs hidden given e at_any))) s
    (subst (λ outputs. IfOk r (λ f. expr_tree f ≡ formed calls 0 (expr_choose_where n lent_scope outputs hidden given e at_any))) o
    (subst (λ hidden. IfOk r (λ f. expr_tree f ≡ formed calls 0 (expr_choose_where n lent_scope lent_outputs hidden given e at_any))) h
    (subst (λ e. IfOk r (λ f. expr_tree f ≡ formed calls 0 (expr_choose_where n lent_scope lent_outputs lent_hidden given e at_any))) l f))))
