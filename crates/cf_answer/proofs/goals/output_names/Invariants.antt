use Rattle.std.proofs.Common.{◌≡◌, length}
use Rattle.cf_answer.proofs.goals.output_names.Given as goal

abbrev pub invariant-loop-k : goal.invariant-loop-k
invariant-loop-k l = length l.all.items ≡ l.k
