use Rattle.std.proofs.Common.{◌≡◌, map, take}
use Rattle.cf_tree.specs.Values.{number_of}
use Rattle.cf_eval.specs.Seen.{plains}
use Rattle.cf_late.proofs.operate.numbers_in.Given as goal

abbrev pub invariant-loop-value : goal.invariant-loop-value
invariant-loop-value l = l.numbers.items ≡ map number_of (plains (take l.value-index l.values))
