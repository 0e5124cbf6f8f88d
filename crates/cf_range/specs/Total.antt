-- Codes that have a value wherever their variables lie in their ranges, and meet no number past the limit.
use Rattle.std.specs.Prelude.{Bool, true, false, not, ◌&&◌, List}
use Rattle.cf_tree.specs.CodeTree.{CodeTree, code_lit, code_truth, code_var, code_set_of, code_tuple, code_sum, code_sub, code_mul, code_neg, code_div, code_mod, code_min, code_max, code_compare, code_divides, code_and, code_or, code_not, code_union, code_inter, code_diff, code_subset, code_card, code_slice, code_fresh, code_if, code_let, code_solve, CodeTrees, no_codes, code_more}
use Rattle.cf_range.specs.CodeRanges.{may_pass}
use Rattle.cf_range.specs.declared.range.Range.{Range}

abbrev mutual
  -- no operation in it may pass, and it has no let and no solve
  pub is_total : List Range → CodeTree → Bool
  is_total rs (code_lit k) = not (may_pass rs (code_lit k))
  is_total rs (code_truth t) = true
  is_total rs (code_var x) = true
  is_total rs (code_set_of cs) = are_total rs cs
  is_total rs (code_tuple cs) = are_total rs cs
  is_total rs (code_sum cs) = not (may_pass rs (code_sum cs)) && are_total rs cs
  is_total rs (code_sub a b) = not (may_pass rs (code_sub a b)) && is_total rs a && is_total rs b
  is_total rs (code_mul a b) = not (may_pass rs (code_mul a b)) && is_total rs a && is_total rs b
  is_total rs (code_neg a) = is_total rs a
  is_total rs (code_div a k) = is_total rs a
  is_total rs (code_mod a k) = not (may_pass rs (code_mod a k)) && is_total rs a
  is_total rs (code_min cs) = are_total rs cs
  is_total rs (code_max cs) = are_total rs cs
  is_total rs (code_compare o a b) = is_total rs a && is_total rs b
  is_total rs (code_divides k a) = is_total rs a
  is_total rs (code_and a b) = is_total rs a && is_total rs b
  is_total rs (code_or a b) = is_total rs a && is_total rs b
  is_total rs (code_not a) = is_total rs a
  is_total rs (code_union cs) = are_total rs cs
  is_total rs (code_inter cs) = are_total rs cs
  is_total rs (code_diff a b) = is_total rs a && is_total rs b
  is_total rs (code_subset a b) = is_total rs a && is_total rs b
  is_total rs (code_card a) = false
  is_total rs (code_slice a b c) = is_total rs a && is_total rs b && is_total rs c
  is_total rs (code_fresh a n) = false
  is_total rs (code_if t a b) = is_total rs t && is_total rs a && is_total rs b
  is_total rs (code_let first count a b) = false
  is_total rs (code_solve n arms) = false

  pub are_total : List Range → CodeTrees → Bool
  are_total rs no_codes = true
  are_total rs (code_more c cs) = is_total rs c && are_total rs cs
