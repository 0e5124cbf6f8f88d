use Rattle.std.proofs.Common.{◌≡◌, ◌*◌, length}
use Rattle.cf_tree.specs.Meaning.{count_below}
use Rattle.cf_warn.specs.Writing.{bounds_in}
use Rattle.cf_warn.proofs.tuples.tuples_below.Given as goal

abbrev pub invariant-loop-search : goal.invariant-loop-search
invariant-loop-search l = l.total * count_below (bounds_in l.rest) ≡ count_below (bounds_in l.bounds)

abbrev pub decreases-loop-search : goal.decreases-loop-search
decreases-loop-search l = length l.rest
