use Rattle.std.proofs.Common.{◌≡◌, ◌++◌, drop}
use Rattle.std.specs.List.{list_any}
use Rattle.cf_linear.specs.Steps.{pair_passes, pairs_of}
use Rattle.cf_bounds.proofs.dropping.add_pairs.Given as goal

abbrev pub invariant-loop-l : goal.invariant-loop-l
invariant-loop-l l = record {
  value : l.out.items ++ pairs_of l.unknown (drop l.l-index l.low) l.high ≡ l.initial.out.items ++ pairs_of l.unknown l.low l.high;
  fits : list_any (λ r. list_any (pair_passes l.unknown r) l.high) l.low ≡ list_any (λ r. list_any (pair_passes l.unknown r) l.high) (drop l.l-index l.low);
}
