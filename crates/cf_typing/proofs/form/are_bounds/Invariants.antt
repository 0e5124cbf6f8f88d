use Rattle.std.proofs.Common.{◌≡◌, ◌*◌, ◌-◌, ◌^◌, drop, min}
use Rattle.cf_tree.specs.Meaning.{count_below}
use Rattle.cf_typing.specs.Bases.{are_positive}
use Rattle.cf_typing.proofs.form.are_bounds.Given as goal

abbrev pub invariant-loop-bound : goal.invariant-loop-bound
invariant-loop-bound l =
    (are_positive (drop l.bound-index l.bounds) ≡ are_positive l.bounds)
    × (min (l.tuples * count_below (drop l.bound-index l.bounds)) (2 ^ 64 - 1) ≡ min (count_below l.bounds) (2 ^ 64 - 1))
