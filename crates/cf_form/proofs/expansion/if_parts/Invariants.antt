use Rattle.std.proofs.Common.{◌≡◌, ◌++◌, map, length}
use Rattle.cf_form.specs.Expansion.{if_parts}
use Rattle.cf_form.specs.WideView.{part, wide_rel}
use Rattle.cf_form.proofs.expansion.if_parts.Given as goal

abbrev pub decreases-loop-first : goal.decreases-loop-first
decreases-loop-first l = length l.left

abbrev pub invariant-loop-first : goal.invariant-loop-first
invariant-loop-first l =
    map part l.all.items ++ if_parts (wide_rel l.test) (map part l.left) (map part l.right)
    ≡ if_parts (wide_rel l.test) (map part l.fn.yes) (map part l.fn.no)
