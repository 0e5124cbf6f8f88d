use Rattle.cf_answer.proofs.BranchLemmas.{IsBehind}
use Rattle.cf_answer.proofs.branches.branches_of.Given as goal

abbrev pub invariant-loop-i : goal.invariant-loop-i
invariant-loop-i l = IsBehind l.told l.number l.i
