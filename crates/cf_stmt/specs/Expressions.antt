-- Which codes are expressions, and blocks in which only these are evaluated.
use Rattle.std.specs.Prelude.{Bool, true, false, ◌&&◌, ◌≡◌, nat_le}
use Rattle.cf_tree.specs.CodeTree.{CodeTree, code_lit, code_truth, code_var, code_set_of, code_tuple, code_sum, code_sub, code_mul, code_neg, code_div, code_mod, code_min, code_max, code_compare, code_divides, code_and, code_or, code_not, code_union, code_inter, code_diff, code_subset, code_card, code_slice, code_fresh, code_if, code_let, code_solve, CodeTrees, no_codes, code_more, code_depth}
use Rattle.cf_stmt.specs.declared.expression.TheConstants.{DEEPEST}
use Rattle.cf_stmt.specs.Blocks.{Block, give, none, leave, bind, part, join, test, arm}

-- no let, no solve and no tuple is in it
abbrev mutual
  pub is_expression : CodeTree → Bool
  is_expression (code_lit k) = true
  is_expression (code_truth t) = true
  is_expression (code_var x) = true
  is_expression (code_set_of cs) = are_expressions cs
  is_expression (code_tuple cs) = false
  is_expression (code_sum cs) = are_expressions cs
  is_expression (code_sub a b) = is_expression a && is_expression b
  is_expression (code_mul a b) = is_expression a && is_expression b
  is_expression (code_neg a) = is_expression a
  is_expression (code_div a k) = is_expression a
  is_expression (code_mod a k) = is_expression a
  is_expression (code_min cs) = are_expressions cs
  is_expression (code_max cs) = are_expressions cs
  is_expression (code_compare o a b) = is_expression a && is_expression b
  is_expression (code_divides k a) = is_expression a
  is_expression (code_and a b) = is_expression a && is_expression b
  is_expression (code_or a b) = is_expression a && is_expression b
  is_expression (code_not a) = is_expression a
  is_expression (code_union cs) = are_expressions cs
  is_expression (code_inter cs) = are_expressions cs
  is_expression (code_diff a b) = is_expression a && is_expression b
  is_expression (code_subset a b) = is_expression a && is_expression b
  is_expression (code_card a) = is_expression a
  is_expression (code_slice a b c) = is_expression a && (is_expression b && is_expression c)
  is_expression (code_fresh a b) = is_expression a && is_expression b
  is_expression (code_if t a b) = is_expression t && (is_expression a && is_expression b)
  is_expression (code_let first n a b) = false
  is_expression (code_solve n arms) = false

  pub are_expressions : CodeTrees → Bool
  are_expressions no_codes = true
  are_expressions (code_more c cs) = is_expression c && are_expressions cs

-- an expression that is not deep; a block binds what is deeper
abbrev pub is_plain : CodeTree → Bool
is_plain c = is_expression c && nat_le (code_depth c) DEEPEST

abbrev pub are_plain : CodeTrees → Bool
are_plain no_codes = true
are_plain (code_more c cs) = is_plain c && are_plain cs

-- plain, or a tuple of plain ones
abbrev pub gives_plain : CodeTree → Bool
gives_plain (code_tuple cs) = are_plain cs
gives_plain c = is_plain c

-- each code that is evaluated in the block is plain, or a tuple of plain ones
abbrev pub EvaluatesPlain : Block → Type 0
EvaluatesPlain (give c) = gives_plain c ≡ true
EvaluatesPlain (none n) = Unit {0}
EvaluatesPlain leave = Unit {0}
EvaluatesPlain (bind a b) = EvaluatesPlain a × EvaluatesPlain b
EvaluatesPlain (part a b) = EvaluatesPlain a × EvaluatesPlain b
EvaluatesPlain (join a b) = EvaluatesPlain a × EvaluatesPlain b
EvaluatesPlain (test t a b) = EvaluatesPlain t × EvaluatesPlain a × EvaluatesPlain b
EvaluatesPlain (arm ks a b) = EvaluatesPlain a × EvaluatesPlain b
