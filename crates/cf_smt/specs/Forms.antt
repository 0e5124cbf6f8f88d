-- What has a form in SMT-LIB: numbers and truth values alone, and each let of one variable.
use Rattle.std.specs.Prelude.{Bool, true, false, ◌&&◌, nat_eq}
use Rattle.cf_tree.specs.RelTree.{TermTree, term_lit, term_var, term_card, term_neg, term_add, term_sub, term_mul, term_div, term_mod, term_abs, RelTree, rel_true, rel_false, rel_compare, rel_same_set, rel_other_set, rel_subset, rel_divides, rel_and, rel_or, rel_not}
use Rattle.cf_tree.specs.CodeTree.{CodeTree, code_lit, code_truth, code_var, code_set_of, code_tuple, code_sum, code_sub, code_mul, code_neg, code_div, code_mod, code_min, code_max, code_compare, code_divides, code_and, code_or, code_not, code_union, code_inter, code_diff, code_subset, code_card, code_slice, code_fresh, code_if, code_let, code_solve, CodeTrees, no_codes, code_more, ItemTree, let_item, need_item, ItemTrees, no_items, item_more, ArmTree, arm_of, ArmTrees, no_arms, arm_more}

abbrev pub term_has_form : TermTree → Bool
term_has_form (term_lit k) = true
term_has_form (term_var x) = true
term_has_form (term_card s) = false
term_has_form (term_neg a) = term_has_form a
term_has_form (term_add a b) = term_has_form a && term_has_form b
term_has_form (term_sub a b) = term_has_form a && term_has_form b
term_has_form (term_mul a b) = term_has_form a && term_has_form b
term_has_form (term_div a k) = term_has_form a
term_has_form (term_mod a k) = term_has_form a
term_has_form (term_abs a) = term_has_form a

abbrev pub rel_has_form : RelTree → Bool
rel_has_form rel_true = true
rel_has_form rel_false = true
rel_has_form (rel_compare o a b) = term_has_form a && term_has_form b
rel_has_form (rel_same_set a b) = false
rel_has_form (rel_other_set a b) = false
rel_has_form (rel_subset a b) = false
rel_has_form (rel_divides k a) = term_has_form a
rel_has_form (rel_and a b) = rel_has_form a && rel_has_form b
rel_has_form (rel_or a b) = rel_has_form a && rel_has_form b
rel_has_form (rel_not a) = rel_has_form a

abbrev mutual
  pub has_form : CodeTree → Bool
  has_form (code_lit k) = true
  has_form (code_truth t) = true
  has_form (code_var x) = true
  has_form (code_set_of cs) = false
  has_form (code_tuple cs) = false
  has_form (code_sum cs) = have_forms cs
  has_form (code_sub a b) = has_form a && has_form b
  has_form (code_mul a b) = has_form a && has_form b
  has_form (code_neg a) = has_form a
  has_form (code_div a k) = has_form a
  has_form (code_mod a k) = has_form a
  has_form (code_min cs) = have_forms cs
  has_form (code_max cs) = have_forms cs
  has_form (code_compare o a b) = has_form a && has_form b
  has_form (code_divides k a) = has_form a
  has_form (code_and a b) = has_form a && has_form b
  has_form (code_or a b) = has_form a && has_form b
  has_form (code_not a) = has_form a
  has_form (code_union cs) = false
  has_form (code_inter cs) = false
  has_form (code_diff a b) = false
  has_form (code_subset a b) = false
  has_form (code_card a) = false
  has_form (code_slice a b c) = false
  has_form (code_fresh a b) = false
  has_form (code_if t a b) = has_form t && (has_form a && has_form b)
  has_form (code_let first n a b) = nat_eq n 1 && (has_form a && has_form b)
  has_form (code_solve n arms) = false

  pub have_forms : CodeTrees → Bool
  have_forms no_codes = true
  have_forms (code_more c cs) = has_form c && have_forms cs

abbrev pub item_has_form : ItemTree → Bool
item_has_form (let_item c) = has_form c
item_has_form (need_item c) = has_form c

abbrev pub items_have_forms : ItemTrees → Bool
items_have_forms no_items = true
items_have_forms (item_more i is) = item_has_form i && items_have_forms is

abbrev pub arm_has_form : ArmTree → Bool
arm_has_form (arm_of bounds is gs) = items_have_forms is && have_forms gs

abbrev pub arms_have_forms : ArmTrees → Bool
arms_have_forms no_arms = true
arms_have_forms (arm_more a arms) = arm_has_form a && arms_have_forms arms
