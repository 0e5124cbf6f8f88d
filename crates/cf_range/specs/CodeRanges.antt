-- Between which numbers a code gives, by the ranges of its variables, where no number that it meets is past the limit.
use Rattle.std.specs.Prelude.{pos, Bool, true, false, List, [], ◌∷◌}
use Rattle.std.specs.Int.{int_min, int_max}
use Rattle.cf_tree.specs.CodeTree.{CodeTree, code_lit, code_var, code_sum, code_sub, code_mul, code_neg, code_div, code_mod, code_min, code_max, code_card, code_fresh, code_if, code_solve, CodeTrees, no_codes, code_more}
use Rattle.cf_range.specs.Ranges.{between, whole, range_at, nearest, passes, plus_all, minus, times, negated, divided, left_by, best_of, either, sizes, plus_all_passes, minus_passes, times_passes}
use Rattle.cf_range.specs.declared.range.Range.{Range}

abbrev mutual
  -- what is no operation on numbers has the whole range
  pub range_of : List Range → CodeTree → Range
  range_of rs (code_lit k) = between (nearest k) (nearest k)
  range_of rs (code_var x) = range_at rs x
  range_of rs (code_sum cs) = plus_all (between (pos 0) (pos 0)) (ranges_of rs cs)
  range_of rs (code_sub a b) = minus (range_of rs a) (range_of rs b)
  range_of rs (code_mul a b) = times (range_of rs a) (range_of rs b)
  range_of rs (code_neg a) = negated (range_of rs a)
  range_of rs (code_div a k) = divided (range_of rs a) k
  range_of rs (code_mod a k) = left_by (range_of rs a) k
  range_of rs (code_min cs) = best_of int_min (ranges_of rs cs)
  range_of rs (code_max cs) = best_of int_max (ranges_of rs cs)
  range_of rs (code_card a) = sizes (range_of rs a)
  range_of rs (code_if t a b) = either (range_of rs a) (range_of rs b)
  range_of rs c = whole

  pub ranges_of : List Range → CodeTrees → List Range
  ranges_of rs no_codes = []
  ranges_of rs (code_more c cs) = range_of rs c ∷ ranges_of rs cs

-- whether the operation itself, not its parts, may meet a number past the limit; at a sum, whether one of its partial sums may be past
abbrev pub may_pass : List Range → CodeTree → Bool
may_pass rs (code_lit k) = passes k
may_pass rs (code_sum cs) = plus_all_passes (between (pos 0) (pos 0)) (ranges_of rs cs)
may_pass rs (code_sub a b) = minus_passes (range_of rs a) (range_of rs b)
may_pass rs (code_mul a b) = times_passes (range_of rs a) (range_of rs b)
may_pass rs (code_mod a k) = passes k
may_pass rs (code_card a) = true
may_pass rs (code_fresh a n) = true
may_pass rs (code_solve n arms) = true
may_pass rs c = false
