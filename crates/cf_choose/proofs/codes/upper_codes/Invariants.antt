use Rattle.std.proofs.Common.{◌≡◌, map, take}
use Rattle.cf_tree.specs.CodeView.{code_tree}
use Rattle.cf_linear.specs.Arm.{upper_code}
use Rattle.cf_choose.specs.Fitting.{pair_of, PairsFit}
use Rattle.cf_choose.proofs.codes.upper_codes.Given as goal

abbrev pub invariant-loop-bound : goal.invariant-loop-bound
invariant-loop-bound l = record {
  codes : map code_tree l.parts.items ≡ map (upper_code l.names) (map pair_of (take l.bound-index l.bounds));
  fit : PairsFit (map pair_of (take l.bound-index l.bounds));
}
