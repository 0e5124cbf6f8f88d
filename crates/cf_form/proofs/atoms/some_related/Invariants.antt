use Rattle.std.proofs.Common.{◌≡◌, ◌++◌, map, length}
use Rattle.cf_tree.specs.RelView.{rel_tree}
use Rattle.cf_form.specs.Alternatives.{over_two}
use Rattle.cf_form.specs.Atoms.{rel_over_sets}
use Rattle.cf_form.specs.WideView.{wide_rel}
use Rattle.cf_form.specs.GuardedView.{guarded_set, atom_of}
use Rattle.cf_form.specs.Joined.{signed_of}
use Rattle.cf_form.proofs.atoms.some_related.Given as goal

abbrev pub decreases-loop-x : goal.decreases-loop-x
decreases-loop-x l = length l.rest

abbrev pub invariant-loop-x : goal.invariant-loop-x
invariant-loop-x l =
    map rel_tree l.all.items ++ map (atom_of (signed_of l.sign)) (over_two (rel_over_sets (wide_rel l.rel)) (map guarded_set l.rest) (map guarded_set l.ys))
    ≡ map (atom_of (signed_of l.sign)) (over_two (rel_over_sets (wide_rel l.rel)) (map guarded_set l.fn.xs) (map guarded_set l.ys))
