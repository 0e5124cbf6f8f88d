use Rattle.std.proofs.Common.{◌≡◌, ◌++◌, drop, map}
use Rattle.std.specs.List.{list_any}
use Rattle.cf_linear.specs.Steps.{pair_passes, pair_row}
use Rattle.cf_bounds.proofs.dropping.add_pairs_of.Given as goal

abbrev pub invariant-loop-h : goal.invariant-loop-h
invariant-loop-h l = record {
  value : l.out.items ++ map (pair_row l.unknown l.low) (drop l.h-index l.high) ≡ l.initial.out.items ++ map (pair_row l.unknown l.low) l.high;
  fits : list_any (pair_passes l.unknown l.low) l.high ≡ list_any (pair_passes l.unknown l.low) (drop l.h-index l.high);
}
