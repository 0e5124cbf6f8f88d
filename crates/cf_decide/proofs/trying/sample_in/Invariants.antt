use Rattle.std.proofs.Common.{◌≡◌, map, take}
use Rattle.cf_tree.specs.Values.{value_at}
use Rattle.cf_eval.specs.Seen.{plains}
use Rattle.cf_decide.proofs.trying.sample_in.Given as goal

abbrev pub invariant-loop-level : goal.invariant-loop-level
invariant-loop-level l = plains l.sample.items ≡ map (value_at (plains l.env)) (take l.level-index l.params)
