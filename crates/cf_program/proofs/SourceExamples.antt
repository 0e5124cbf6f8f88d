-- Worked examples that hold down what a source of edition 3 keeps: one with all facts, and for each fact one that lacks it.
use Rattle.std.proofs.Common.{ℕ, ◌≤◌, true, List, [], ◌∷◌, codes, refl, arith}
use Rattle.std.proofs.lemmas.List.Elements.{All-nil, All-cons, All-head}
use Rattle.std.specs.List.{IsDistinct}
use Rattle.cf_tree.specs.declared.base.Base.TheVariants.{Int}
use Rattle.cf_tree.specs.declared.base.Order.TheVariants.{Eq}
use Rattle.cf_tree.specs.declared.raw.BinOp.TheVariants.{Mul, Compare}
use Rattle.cf_tree.specs.declared.raw.Param.{Param}
use Rattle.cf_tree.specs.DefView.{DefTree}
use Rattle.cf_tree.specs.ExprTree.{ExprTree, expr_truth, expr_var, expr_binary, expr_tuple, expr_choose_where, exprs_of, holds_always, at_any}
use Rattle.cf_tree.specs.Params.{names_of}
use Rattle.cf_program.specs.declared.linearity.Linearity.TheVariants.{Plain, Late}
use Rattle.cf_program.specs.DistinctNames.{AreDistinct}
use Rattle.cf_program.specs.Linear.{is_unknown}
use Rattle.cf_program.specs.TypedSource.{IsSourceBy}
use Rattle.cf_program.proofs.RuleExamples.{at, param}

abbrev a : Param
a = param (at 10) (codes "a") Int

abbrev function : List ℕ → List Param → ExprTree → DefTree
function x params body = record { name = x; params = params; results = Int ∷ []; body = body }

-- def main(a: int): int = choose (x: int) where left == a, with that number
abbrev choose : ℕ → ExprTree → ExprTree
choose n left = expr_choose_where n (a ∷ []) (Int ∷ []) [] holds_always (expr_binary (Compare Eq) left (expr_var 0)) at_any

abbrev main_is : ExprTree → DefTree
main_is body = function (codes "main") (a ∷ []) body

abbrev whole : List DefTree
whole = main_is (choose 1 (expr_var 1)) ∷ []

a_source : IsSourceBy Plain whole 0
unfolding IsDistinct
a_source = record {
  typed = (
    (
      omega arith,
      (refl, omega arith, tt, ((Int, (Int, refl, refl), (Int, refl, refl)), refl), tt, refl),
    ),
    tt,
  );
  linear = (record { given_is = tt; relation = (is_unknown ∷ [], refl); objective = tt }, tt);
  functions = (tt, tt);
  params = All-cons (λ d. AreDistinct (names_of d.params)) (main_is (choose 1 (expr_var 1))) [] (tt, tt) (All-nil (λ d. AreDistinct (names_of d.params)));
  has_main = (main_is (choose 1 (expr_var 1)), refl, refl);
  distinct = (tt, tt);
  positive = All-cons (λ n. 1 ≤ n) 1 [] (omega arith) (All-nil (λ n. 1 ≤ n));
}

untyped : IsSourceBy Plain (main_is (expr_truth true) ∷ []) 0 → ⊥
untyped s = let e = s.typed.0.1 in cc

-- products with inputs are linear in late sources
abbrev product : ℕ → List DefTree
product x = main_is (choose 1 (expr_binary Mul (expr_var x) (expr_var 1))) ∷ []

not_linear : (IsSourceBy Plain (product 1) 0 → ⊥) × (IsSourceBy Plain (product 0) 0 → ⊥) × (IsSourceBy Late (product 1) 0 → ⊥)
not_linear = (
  λ s. let e = s.linear.0.relation.1 in cc,
  λ s. let e = s.linear.0.relation.1 in cc,
  λ s. let e = s.linear.0.relation.1 in cc,
)

late_linear : (s : IsSourceBy Late whole 0) → IsSourceBy Late (product 0) 0
late_linear s = record {
  typed = (
    (
      omega arith,
      (
        refl,
        omega arith,
        tt,
        ((Int, (((Int, refl, refl), (Int, refl, refl)), refl), (Int, refl, refl)), refl),
        tt,
        refl,
      ),
    ),
    tt,
  );
  linear = (record { given_is = tt; relation = (is_unknown ∷ [], refl); objective = tt }, tt);
  functions = s.functions;
  params = All-cons (λ d. AreDistinct (names_of d.params)) _ [] (All-head (λ d. AreDistinct (names_of d.params)) _ [] s.params) (All-nil (λ d. AreDistinct
      (names_of d.params)));
  has_main = (_, refl, refl);
  distinct = s.distinct;
  positive = s.positive;
}

abbrev other : DefTree
other = function (codes "f") (a ∷ []) (expr_var 0)

two_functions : IsSourceBy Plain (other ∷ other ∷ whole) 2 → ⊥
unfolding IsDistinct
two_functions s = let e = s.functions.0.0 in cc

abbrev twice : DefTree
twice = function (codes "main") (a ∷ a ∷ []) (expr_var 0)

two_params : IsSourceBy Plain (twice ∷ []) 0 → ⊥
unfolding IsDistinct
two_params s =
    let h : AreDistinct (names_of (a ∷ a ∷ [])) = All-head (λ d. AreDistinct (names_of d.params)) twice [] s.params in
    let e = h.0.0 in
    cc

no_main : (IsSourceBy Plain whole 1 → ⊥) × (IsSourceBy Plain (other ∷ []) 0 → ⊥)
no_main = (λ s. let e = s.has_main.1 in cc, λ s. let e = s.has_main.1 in let f = s.has_main.2 in cc)

abbrev pair : ExprTree
pair = expr_tuple (exprs_of (choose 1 (expr_var 1) ∷ choose 1 (expr_var 1) ∷ []))

one_number : IsSourceBy Plain (main_is pair ∷ []) 0 → ⊥
unfolding IsDistinct
one_number s = let e = s.distinct.0.0 in cc

number_of_none : IsSourceBy Plain (main_is (choose 0 (expr_var 1)) ∷ []) 0 → ⊥
number_of_none s = omega (arith, All-head (λ n. 1 ≤ n) 0 [] s.positive)
