use Rattle.std.proofs.Common.{◌≡◌, map, length}
use Rattle.cf_tree.specs.Params.{bases_of}
use Rattle.cf_program.specs.Walk.{are_asked}
use Rattle.cf_type.proofs.bases.are_asked.Given as goal

abbrev pub invariant-loop-bases : goal.invariant-loop-bases
invariant-loop-bases l =
    are_asked (map (λ bs. bs.items) l.rest) (bases_of l.asked) ≡ are_asked (map (λ bs. bs.items) l.fn.lists) (bases_of l.fn.params)

abbrev pub decreases-loop-bases : goal.decreases-loop-bases
decreases-loop-bases l = length l.rest
