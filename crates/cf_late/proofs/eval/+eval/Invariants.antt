use Rattle.std.proofs.Common.{◌≡◌, ◌+◌, ◌*◌, take, drop}
use Rattle.cf_tree.specs.Params.{bases_of}
use Rattle.cf_tree.specs.ExprView.{match_arm_trees}
use Rattle.cf_late.specs.Answers.{calls_in}
use Rattle.cf_late.specs.LateRun.{late_arms}
use Rattle.cf_late.specs.Runnable.{AreRunnableArms}
use Rattle.cf_late.proofs.Calls.{depths}
use Rattle.cf_late.proofs.Loops.{PartsAhead}
use Rattle.cf_late.proofs.eval.+eval.Given as goal

abbrev pub decreases-eval : goal.decreases-eval
decreases-eval l = 8 * (goal.size-eval l + depths (take l.caller.now.number l.caller.now.late.now.defs.items)) + 2

abbrev pub decreases-all : goal.decreases-all
decreases-all l = 8 * (goal.size-all l + depths (take l.caller.now.number l.caller.now.late.now.defs.items)) + 3

abbrev pub decreases-binary : goal.decreases-binary
decreases-binary l = 8 * (goal.size-binary l + depths (take l.caller.now.number l.caller.now.late.now.defs.items)) + 3

abbrev pub decreases-behind : goal.decreases-behind
decreases-behind l = 8 * (goal.size-behind l + depths (take l.caller.now.number l.caller.now.late.now.defs.items)) + 3

abbrev pub decreases-first_arm : goal.decreases-first_arm
decreases-first_arm l = 8 * (goal.size-first_arm l + depths (take l.caller.now.number l.caller.now.late.now.defs.items)) + 5

abbrev pub decreases-matched : goal.decreases-matched
decreases-matched l = 8 * (goal.size-matched l + depths (take l.caller.now.number l.caller.now.late.now.defs.items)) + 6

abbrev pub decreases-taken : goal.decreases-taken
decreases-taken l = 8 * (goal.size-taken l + depths (take l.caller.now.number l.caller.now.late.now.defs.items)) + 4

abbrev pub decreases-call : goal.decreases-call
decreases-call l = 8 * depths (take l.caller.now.number l.caller.now.late.now.defs.items) + 1

abbrev pub invariant-all-loop-i : goal.invariant-all-loop-i
invariant-all-loop-i l = PartsAhead (calls_in l.caller.number l.caller.late.now.defs.items) l.parts l.fn.env l.i l.env l.values

abbrev pub invariant-first_arm-loop-i : goal.invariant-first_arm-loop-i
invariant-first_arm-loop-i l =
    (l.env ≡ l.fn.env)
    × AreRunnableArms (bases_of l.scope) (match_arm_trees (drop l.i l.arms))
    × (late_arms (calls_in l.caller.number l.caller.late.now.defs.items) l.number (bases_of l.scope) (match_arm_trees (drop l.i l.arms)) l.z l.env
    ≡ late_arms (calls_in l.caller.number l.caller.late.now.defs.items) l.number (bases_of l.scope) (match_arm_trees l.arms) l.z l.fn.env)
