-- Codes as lists of marks: each form has a mark before its parts, and a list ends with a mark.
use Rattle.std.specs.Prelude.{ℕ, List, [], ◌∷◌, ◌++◌, drop}
use Rattle.cf_tree.specs.CodeTree.{CodeTree, code_lit, code_truth, code_var, code_set_of, code_tuple, code_sum, code_sub, code_mul, code_neg, code_div, code_mod, code_min, code_max, code_compare, code_divides, code_and, code_or, code_not, code_union, code_inter, code_diff, code_subset, code_card, code_slice, code_fresh, code_if, code_let, code_solve, CodeTrees, no_codes, code_more, ItemTree, let_item, need_item, ItemTrees, no_items, item_more, ArmTree, arm_of, ArmTrees, no_arms, arm_more}
use Rattle.cf_cert.specs.declared.marks.Mark.{Mark}
use Rattle.cf_cert.specs.declared.marks.Form.TheVariants.{SetOf, Tuple, Sum, Sub, Mul, Neg, Min, Max, And, Or, Not, Union, Inter, Diff, Subset, Card, Slice, Fresh, If, LetItem, NeedItem, More, End}
use Rattle.cf_cert.specs.declared.marks.Mark.TheVariants.{Form, Lit, Truth, Var, Div, Mod, Compare, Divides, Let, Solve, Bound}

abbrev pub bounds_marks : List ℕ → List Mark
bounds_marks [] = Form End ∷ []
bounds_marks (b ∷ bs) = Bound b ∷ bounds_marks bs

abbrev mutual
  pub code_marks : CodeTree → List Mark
  code_marks (code_lit k) = Lit k ∷ []
  code_marks (code_truth t) = Truth t ∷ []
  code_marks (code_var x) = Var x ∷ []
  code_marks (code_set_of cs) = Form SetOf ∷ codes_marks cs
  code_marks (code_tuple cs) = Form Tuple ∷ codes_marks cs
  code_marks (code_sum cs) = Form Sum ∷ codes_marks cs
  code_marks (code_sub a b) = Form Sub ∷ (code_marks a ++ code_marks b)
  code_marks (code_mul a b) = Form Mul ∷ (code_marks a ++ code_marks b)
  code_marks (code_neg a) = Form Neg ∷ code_marks a
  code_marks (code_div a k) = Div k ∷ code_marks a
  code_marks (code_mod a k) = Mod k ∷ code_marks a
  code_marks (code_min cs) = Form Min ∷ codes_marks cs
  code_marks (code_max cs) = Form Max ∷ codes_marks cs
  code_marks (code_compare o a b) = Compare o ∷ (code_marks a ++ code_marks b)
  code_marks (code_divides k a) = Divides k ∷ code_marks a
  code_marks (code_and a b) = Form And ∷ (code_marks a ++ code_marks b)
  code_marks (code_or a b) = Form Or ∷ (code_marks a ++ code_marks b)
  code_marks (code_not a) = Form Not ∷ code_marks a
  code_marks (code_union cs) = Form Union ∷ codes_marks cs
  code_marks (code_inter cs) = Form Inter ∷ codes_marks cs
  code_marks (code_diff a b) = Form Diff ∷ (code_marks a ++ code_marks b)
  code_marks (code_subset a b) = Form Subset ∷ (code_marks a ++ code_marks b)
  code_marks (code_card a) = Form Card ∷ code_marks a
  code_marks (code_slice a b c) = Form Slice ∷ (code_marks a ++ code_marks b ++ code_marks c)
  code_marks (code_fresh a b) = Form Fresh ∷ (code_marks a ++ code_marks b)
  code_marks (code_if a b c) = Form If ∷ (code_marks a ++ code_marks b ++ code_marks c)
  code_marks (code_let first n a b) = Let first n ∷ (code_marks a ++ code_marks b)
  code_marks (code_solve n arms) = Solve n ∷ arms_marks arms

  pub codes_marks : CodeTrees → List Mark
  codes_marks no_codes = Form End ∷ []
  codes_marks (code_more c cs) = Form More ∷ (code_marks c ++ codes_marks cs)

  pub item_marks : ItemTree → List Mark
  item_marks (let_item c) = Form LetItem ∷ code_marks c
  item_marks (need_item c) = Form NeedItem ∷ code_marks c

  pub items_marks : ItemTrees → List Mark
  items_marks no_items = Form End ∷ []
  items_marks (item_more i is) = item_marks i ++ items_marks is

  pub arm_marks : ArmTree → List Mark
  arm_marks (arm_of bounds is gives) = bounds_marks bounds ++ items_marks is ++ codes_marks gives

  pub arms_marks : ArmTrees → List Mark
  arms_marks no_arms = Form End ∷ []
  arms_marks (arm_more a arms) = Form More ∷ (arm_marks a ++ arms_marks arms)

-- the marks behind the first one of a code
abbrev pub parts_marks : CodeTree → List Mark
parts_marks c = drop 1 (code_marks c)
