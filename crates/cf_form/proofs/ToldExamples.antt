-- Worked examples that hold down what is told of a choose: its outputs, its parameters, and its branches with their conditions.
use Rattle.std.specs.Prelude.{ℕ, pos, true, false, List, Some, None, ◌≡◌, [], ◌∷◌, codes, refl}
use Rattle.cf_tree.specs.declared.base.Base.{Base}
use Rattle.cf_tree.specs.declared.base.Base.TheVariants.{Int, Bool as Truth, Set}
use Rattle.cf_tree.specs.ExprTree.{ExprTree, at_any, at_greatest, at_least, expr_binary, expr_choose_where, expr_if, expr_lit, expr_not, expr_truth, expr_tuple, expr_var, exprs_of, holds_always, holds_where}
use Rattle.cf_tree.specs.RelTree.{rel_and, rel_compare, rel_not, rel_or, rel_same_set, rel_true, set_var, term_lit, term_var}
use Rattle.cf_tree.specs.declared.base.Order.TheVariants.{Eq, Ge, Gt, Le}
use Rattle.cf_tree.specs.declared.raw.BinOp.TheVariants.{And, Compare, Implies, Or}
use Rattle.cf_tree.specs.declared.raw.Param.{Param}
use Rattle.cf_form.specs.Told.{ToldChoose, all_told}

abbrev v : List ℕ → Base → Param
v name base = record { place = record { line = 1; column = 1 }; name = name; base = base }

-- two numbers, two truth values and a set
abbrev scope : List Param
scope = v (codes "a") Int ∷ v (codes "b") Int ∷ v (codes "p") Truth ∷ v (codes "q") Truth ∷ v (codes "s") Set ∷ []

abbrev told_of : ExprTree → List ToldChoose
told_of e = all_told (record { name = codes "main"; params = scope; results = []; body = e } ∷ [])

-- `choose (x: int, r: bool) where r ==> x == a`
abbrev none_in_scope : ExprTree
none_in_scope =
    expr_choose_where 1 scope (Int ∷ Truth ∷ []) [] holds_always
    (expr_binary Implies (expr_var 6) (expr_binary (Compare Eq) (expr_var 5) (expr_var 0)))
    at_any

none_in_scope_told : told_of none_in_scope ≡
    record {
      number = 1;
      outputs = Int ∷ Truth ∷ [];
      hidden = 0;
      parameters = 0 ∷ [];
      branches =
          record {
            truths = [];
            relation =
                rel_and
                (rel_compare Le (term_lit (pos 0)) (term_var 6))
                (rel_and
                (rel_compare Le (term_var 6) (term_lit (pos 1)))
                (rel_or (rel_not (rel_compare Ge (term_var 6) (term_lit (pos 1)))) (rel_compare Eq (term_var 5) (term_var 0))));
            given = None;
          } ∷ [];
    } ∷ []
none_in_scope_told = refl

-- `choose (u: set; x: int) where (p || u == s) && (q ==> x == a)`
abbrev two_in_scope : ExprTree
two_in_scope =
    expr_choose_where 1 scope (Set ∷ []) (Int ∷ []) holds_always
    (expr_binary And
    (expr_binary Or (expr_var 2) (expr_binary (Compare Eq) (expr_var 5) (expr_var 4)))
    (expr_binary Implies (expr_var 3) (expr_binary (Compare Eq) (expr_var 6) (expr_var 0))))
    at_any

two_in_scope_told : told_of two_in_scope ≡
    record {
      number = 1;
      outputs = Set ∷ [];
      hidden = 1;
      parameters = 0 ∷ 2 ∷ 3 ∷ 4 ∷ [];
      branches =
          record {
            truths = (2, true) ∷ (3, true) ∷ [];
            relation = rel_compare Eq (term_var 6) (term_var 0);
            given = None;
          }
          ∷ record {
            truths = (2, true) ∷ (3, false) ∷ [];
            relation = rel_true;
            given = None;
          }
          ∷ record {
            truths = (2, false) ∷ (3, true) ∷ [];
            relation = rel_and (rel_same_set (set_var 5) (set_var 4)) (rel_compare Eq (term_var 6) (term_var 0));
            given = None;
          }
          ∷ record {
            truths = (2, false) ∷ (3, false) ∷ [];
            relation = rel_same_set (set_var 5) (set_var 4);
            given = None;
          } ∷ [];
    } ∷ []
two_in_scope_told = refl

-- `choose (x: int) given p || b > 1 where x == a || q`
abbrev given_in_scope : ExprTree
given_in_scope =
    expr_choose_where 1 scope (Int ∷ []) []
    (holds_where (expr_binary Or (expr_var 2) (expr_binary (Compare Gt) (expr_var 1) (expr_lit (pos 1)))))
    (expr_binary Or (expr_binary (Compare Eq) (expr_var 5) (expr_var 0)) (expr_var 3))
    at_any

given_in_scope_told : told_of given_in_scope ≡
    record {
      number = 1;
      outputs = Int ∷ [];
      hidden = 0;
      parameters = 0 ∷ 1 ∷ 2 ∷ 3 ∷ [];
      branches =
          record {
            truths = (2, true) ∷ (3, true) ∷ [];
            relation = rel_true;
            given = Some rel_true;
          }
          ∷ record {
            truths = (2, true) ∷ (3, false) ∷ [];
            relation = rel_compare Eq (term_var 5) (term_var 0);
            given = Some rel_true;
          }
          ∷ record {
            truths = (2, false) ∷ (3, true) ∷ [];
            relation = rel_compare Gt (term_var 1) (term_lit (pos 1));
            given = Some (rel_compare Gt (term_var 1) (term_lit (pos 1)));
          }
          ∷ record {
            truths = (2, false) ∷ (3, false) ∷ [];
            relation = rel_and (rel_compare Gt (term_var 1) (term_lit (pos 1))) (rel_compare Eq (term_var 5) (term_var 0));
            given = Some (rel_compare Gt (term_var 1) (term_lit (pos 1)));
          } ∷ [];
    } ∷ []
given_in_scope_told = refl

-- `choose (x: int) where p && x == a || !p && x == b || q && false`
abbrev folded_away : ExprTree
folded_away =
    expr_choose_where 1 scope (Int ∷ []) [] holds_always
    (expr_binary Or
    (expr_binary Or
    (expr_binary And (expr_var 2) (expr_binary (Compare Eq) (expr_var 5) (expr_var 0)))
    (expr_binary And (expr_not (expr_var 2)) (expr_binary (Compare Eq) (expr_var 5) (expr_var 1))))
    (expr_binary And (expr_var 3) (expr_truth false)))
    at_any

folded_away_told : told_of folded_away ≡
    record {
      number = 1;
      outputs = Int ∷ [];
      hidden = 0;
      parameters = 0 ∷ 1 ∷ 2 ∷ 3 ∷ [];
      branches =
          record {
            truths = (2, true) ∷ (3, true) ∷ [];
            relation = rel_compare Eq (term_var 5) (term_var 0);
            given = None;
          }
          ∷ record {
            truths = (2, true) ∷ (3, false) ∷ [];
            relation = rel_compare Eq (term_var 5) (term_var 0);
            given = None;
          }
          ∷ record {
            truths = (2, false) ∷ (3, true) ∷ [];
            relation = rel_compare Eq (term_var 5) (term_var 1);
            given = None;
          }
          ∷ record {
            truths = (2, false) ∷ (3, false) ∷ [];
            relation = rel_compare Eq (term_var 5) (term_var 1);
            given = None;
          } ∷ [];
    } ∷ []
folded_away_told = refl

-- `choose (x: int; y: int) where x >= a && y >= x minimise (x, if p then y else b)`
abbrev aimed : ExprTree
aimed =
    expr_choose_where 1 scope (Int ∷ []) (Int ∷ []) holds_always
    (expr_binary And (expr_binary (Compare Ge) (expr_var 5) (expr_var 0)) (expr_binary (Compare Ge) (expr_var 6) (expr_var 5)))
    (at_least (expr_tuple (exprs_of (expr_var 5 ∷ expr_if (expr_var 2) (expr_var 6) (expr_var 1) ∷ []))))

aimed_told : told_of aimed ≡
    record {
      number = 1;
      outputs = Int ∷ [];
      hidden = 1;
      parameters = 0 ∷ 2 ∷ [];
      branches =
          record {
            truths = (2, true) ∷ [];
            relation = rel_and (rel_compare Ge (term_var 5) (term_var 0)) (rel_compare Ge (term_var 6) (term_var 5));
            given = None;
          }
          ∷ record {
            truths = (2, false) ∷ [];
            relation = rel_and (rel_compare Ge (term_var 5) (term_var 0)) (rel_compare Ge (term_var 6) (term_var 5));
            given = None;
          } ∷ [];
    } ∷ []
aimed_told = refl

-- `choose (x: int) where x <= a || q maximise x`
abbrev aimed_greatest : ExprTree
aimed_greatest =
    expr_choose_where 1 scope (Int ∷ []) [] holds_always
    (expr_binary Or (expr_binary (Compare Le) (expr_var 5) (expr_var 0)) (expr_var 3))
    (at_greatest (expr_var 5))

aimed_greatest_told : told_of aimed_greatest ≡
    record {
      number = 1;
      outputs = Int ∷ [];
      hidden = 0;
      parameters = 0 ∷ 3 ∷ [];
      branches =
          record {
            truths = (3, true) ∷ [];
            relation = rel_true;
            given = None;
          }
          ∷ record {
            truths = (3, false) ∷ [];
            relation = rel_compare Le (term_var 5) (term_var 0);
            given = None;
          } ∷ [];
    } ∷ []
aimed_greatest_told = refl
