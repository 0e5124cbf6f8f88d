-- Bodies of language 2 as edition 3 reads them: each relation as the expression that spells it.
use Rattle.std.specs.Prelude.{true, false, [], ◌++◌, All}
use Rattle.cf_tree.specs.declared.base.Order.TheVariants.{Eq, Ne}
use Rattle.cf_tree.specs.declared.raw.BinOp.{BinOp}
use Rattle.cf_tree.specs.declared.raw.BinOp.TheVariants.{Add, Sub, Mul, And, Or, Implies, Union, Inter, Diff, Subset, Compare}
use Rattle.cf_tree.specs.ExprTree.{ExprTree, expr_lit, expr_truth, expr_var, expr_set_of, expr_tuple, expr_neg, expr_not, expr_abs, expr_binary, expr_divides, expr_div, expr_mod, expr_card, expr_if, expr_call, expr_let, expr_choose, expr_match, expr_chain, expr_min, expr_max, expr_choose_where, ExprTrees, no_exprs, expr_more, match_arm, MatchArmTrees, no_match_arms, match_arm_more, holds_always, at_any}
use Rattle.cf_tree.specs.Params.{bases_of}
use Rattle.cf_tree.specs.Relation.{IsTyped}
use Rattle.cf_tree.specs.RelTree.{SetTree, empty_set, set_var, union_of, inter_of, diff_of, TermTree, term_lit, term_var, term_card, term_neg, term_add, term_sub, term_mul, term_div, term_mod, term_abs, RelTree, rel_true, rel_false, rel_compare, rel_same_set, rel_other_set, rel_subset, rel_divides, rel_and, rel_or, rel_not}
use Rattle.cf_program.specs.TypedProgram.{IsOutput}

abbrev pub set_expr : SetTree → ExprTree
set_expr empty_set = expr_set_of no_exprs
set_expr (set_var x) = expr_var x
set_expr (union_of a b) = expr_binary Union (set_expr a) (set_expr b)
set_expr (inter_of a b) = expr_binary Inter (set_expr a) (set_expr b)
set_expr (diff_of a b) = expr_binary Diff (set_expr a) (set_expr b)

abbrev pub term_expr : TermTree → ExprTree
term_expr (term_lit k) = expr_lit k
term_expr (term_var x) = expr_var x
term_expr (term_card s) = expr_card (set_expr s)
term_expr (term_neg a) = expr_neg (term_expr a)
term_expr (term_add a b) = expr_binary Add (term_expr a) (term_expr b)
term_expr (term_sub a b) = expr_binary Sub (term_expr a) (term_expr b)
term_expr (term_mul a b) = expr_binary Mul (term_expr a) (term_expr b)
term_expr (term_div a k) = expr_div (term_expr a) k
term_expr (term_mod a k) = expr_mod (term_expr a) k
term_expr (term_abs a) = expr_abs (term_expr a)

abbrev pub rel_expr : RelTree → ExprTree
rel_expr rel_true = expr_truth true
rel_expr rel_false = expr_truth false
rel_expr (rel_compare o a b) = expr_binary (Compare o) (term_expr a) (term_expr b)
rel_expr (rel_same_set a b) = expr_binary (Compare Eq) (set_expr a) (set_expr b)
rel_expr (rel_other_set a b) = expr_binary (Compare Ne) (set_expr a) (set_expr b)
rel_expr (rel_subset a b) = expr_binary Subset (set_expr a) (set_expr b)
rel_expr (rel_divides k t) = expr_divides k (term_expr t)
rel_expr (rel_and p q) = expr_binary And (rel_expr p) (rel_expr q)
rel_expr (rel_or p q) = expr_binary Or (rel_expr p) (rel_expr q)
rel_expr (rel_not p) = expr_not (rel_expr p)

abbrev mutual
  pub widened : ExprTree → ExprTree
  widened (expr_lit k) = expr_lit k
  widened (expr_truth t) = expr_truth t
  widened (expr_var x) = expr_var x
  widened (expr_set_of es) = expr_set_of (all_widened es)
  widened (expr_tuple es) = expr_tuple (all_widened es)
  widened (expr_neg a) = expr_neg (widened a)
  widened (expr_not a) = expr_not (widened a)
  widened (expr_abs a) = expr_abs (widened a)
  widened (expr_binary op a b) = expr_binary op (widened a) (widened b)
  widened (expr_divides k a) = expr_divides k (widened a)
  widened (expr_div a k) = expr_div (widened a) k
  widened (expr_mod a k) = expr_mod (widened a) k
  widened (expr_card a) = expr_card (widened a)
  widened (expr_if t a b) = expr_if (widened t) (widened a) (widened b)
  widened (expr_call f es) = expr_call f (all_widened es)
  widened (expr_let n a b) = expr_let n (widened a) (widened b)
  widened (expr_choose n scope outputs rel) = expr_choose_where n scope outputs [] holds_always (rel_expr rel) at_any
  widened (expr_match n scope a arms) = expr_match n scope (widened a) (arms_widened arms)
  widened (expr_chain orders es) = expr_chain orders (all_widened es)
  widened (expr_min es) = expr_min (all_widened es)
  widened (expr_max es) = expr_max (all_widened es)
  widened (expr_choose_where n scope outputs hidden given rel aim) = expr_choose_where n scope outputs hidden given rel aim

  pub all_widened : ExprTrees → ExprTrees
  all_widened no_exprs = no_exprs
  all_widened (expr_more e es) = expr_more (widened e) (all_widened es)

  pub arms_widened : MatchArmTrees → MatchArmTrees
  arms_widened no_match_arms = no_match_arms
  arms_widened (match_arm_more (match_arm m factors k body) arms) = match_arm_more (match_arm m factors k (widened body)) (arms_widened arms)

abbrev pub IsOldOperation : BinOp → Type 0
IsOldOperation Implies = ⊥
IsOldOperation _ = Unit {0}

-- no new form stands there, and each relation is typed
abbrev mutual
  pub IsOfLanguageTwo : ExprTree → Type 0
  IsOfLanguageTwo (expr_lit k) = Unit {0}
  IsOfLanguageTwo (expr_truth t) = Unit {0}
  IsOfLanguageTwo (expr_var x) = Unit {0}
  IsOfLanguageTwo (expr_set_of es) = AreOfLanguageTwo es
  IsOfLanguageTwo (expr_tuple es) = AreOfLanguageTwo es
  IsOfLanguageTwo (expr_neg a) = IsOfLanguageTwo a
  IsOfLanguageTwo (expr_not a) = IsOfLanguageTwo a
  IsOfLanguageTwo (expr_abs a) = IsOfLanguageTwo a
  IsOfLanguageTwo (expr_binary op a b) = IsOldOperation op × IsOfLanguageTwo a × IsOfLanguageTwo b
  IsOfLanguageTwo (expr_divides k a) = IsOfLanguageTwo a
  IsOfLanguageTwo (expr_div a k) = IsOfLanguageTwo a
  IsOfLanguageTwo (expr_mod a k) = IsOfLanguageTwo a
  IsOfLanguageTwo (expr_card a) = IsOfLanguageTwo a
  IsOfLanguageTwo (expr_if t a b) = IsOfLanguageTwo t × IsOfLanguageTwo a × IsOfLanguageTwo b
  IsOfLanguageTwo (expr_call f es) = AreOfLanguageTwo es
  IsOfLanguageTwo (expr_let n a b) = IsOfLanguageTwo a × IsOfLanguageTwo b
  IsOfLanguageTwo (expr_choose n scope outputs rel) = All IsOutput outputs × IsTyped (bases_of scope ++ outputs) rel
  IsOfLanguageTwo (expr_match n scope a arms) = IsOfLanguageTwo a × ArmsAreOfLanguageTwo arms
  IsOfLanguageTwo (expr_chain orders es) = ⊥
  IsOfLanguageTwo (expr_min es) = ⊥
  IsOfLanguageTwo (expr_max es) = ⊥
  IsOfLanguageTwo (expr_choose_where n scope outputs hidden given rel aim) = ⊥

  pub AreOfLanguageTwo : ExprTrees → Type 0
  AreOfLanguageTwo no_exprs = Unit {0}
  AreOfLanguageTwo (expr_more e es) = IsOfLanguageTwo e × AreOfLanguageTwo es

  pub ArmsAreOfLanguageTwo : MatchArmTrees → Type 0
  ArmsAreOfLanguageTwo no_match_arms = Unit {0}
  ArmsAreOfLanguageTwo (match_arm_more (match_arm m factors k body) arms) = IsOfLanguageTwo body × ArmsAreOfLanguageTwo arms
