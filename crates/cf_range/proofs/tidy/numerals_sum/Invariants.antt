use Rattle.std.proofs.Common.{◌≡◌, Some, drop, pos}
use Rattle.cf_num.specs.Limit.{IsWithin}
use Rattle.cf_tree.specs.CodeView.{code_trees}
use Rattle.cf_range.specs.Tidied.{numerals_sum}
use Rattle.cf_range.proofs.tidy.numerals_sum.Given as goal

abbrev pub invariant-loop-part : goal.invariant-loop-part
invariant-loop-part l = (IsWithin l.sum) × (numerals_sum (Some l.sum) (code_trees (drop l.part-index l.parts)) ≡ numerals_sum (Some (pos 0)) (code_trees l.parts))
