use Rattle.std.proofs.Common.{◌≡◌, pos, slice_index_or, drop}
use Rattle.cf_num.specs.Limit.{IsWithin}
use Rattle.cf_linear.specs.Rows.{value_from}
use Rattle.cf_linear.proofs.row.Row.value_at.Given as goal

abbrev pub invariant-loop-i : goal.invariant-loop-i
invariant-loop-i l = record {
  total : IsWithin l.total;
  same : value_from (λ c. slice_index_or l.values c (pos 0)) l.total (drop l.i l.self) ≡ value_from (λ c. slice_index_or l.values c (pos 0)) (pos 0) l.self;
}
