use Rattle.std.proofs.Common.{◌≡◌, ◌+◌, ◌*◌, map, take, drop}
use Rattle.cf_tree.specs.RawView.{raw_trees}
use Rattle.cf_program.specs.Linear.{found_all}
use Rattle.cf_help.specs.HeldView.{held_seen, holder_seen}
use Rattle.cf_help.specs.InsideView.{calls_in}
use Rattle.cf_help.proofs.FoundSteps.{behind}
use Rattle.cf_help.proofs.LastLemmas.{sizes}
use Rattle.cf_help.proofs.linear.+found.Given as goal

abbrev pub decreases-found : goal.decreases-found
decreases-found l = 8 * (goal.size-found l + sizes (take l.inside.now.count l.inside.now.callees.now)) + 2

abbrev pub decreases-found_no : goal.decreases-found_no
decreases-found_no l = 8 * (goal.size-found_no l + sizes (take l.inside.now.count l.inside.now.callees.now)) + 3

abbrev pub decreases-found_let : goal.decreases-found_let
decreases-found_let l = 8 * (goal.size-found_let l + sizes (take l.inside.now.count l.inside.now.callees.now)) + 3

abbrev pub decreases-found_all : goal.decreases-found_all
decreases-found_all l = 8 * (goal.size-found_all l + sizes (take l.inside.now.count l.inside.now.callees.now)) + 4

abbrev pub decreases-found_call : goal.decreases-found_call
decreases-found_call l = 8 * sizes (take l.inside.now.count l.inside.now.callees.now) + 1

abbrev pub invariant-found_all-loop-raw : goal.invariant-found_all-loop-raw
invariant-found_all-loop-raw l =
    behind (map held_seen l.all.items) (found_all l.inside.inputs (calls_in l.inside) (map holder_seen l.holders) (raw_trees (drop l.raw-index l.raws)))
    ≡ found_all l.inside.inputs (calls_in l.inside) (map holder_seen l.holders) (raw_trees l.raws)
