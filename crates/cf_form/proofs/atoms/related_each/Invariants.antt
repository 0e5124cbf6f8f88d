use Rattle.std.proofs.Common.{◌≡◌, ◌++◌, map, length}
use Rattle.cf_tree.specs.RelView.{rel_tree}
use Rattle.cf_form.specs.Atoms.{rel_over_sets}
use Rattle.cf_form.specs.WideView.{wide_rel}
use Rattle.cf_form.specs.GuardedView.{guarded_set, atom_of, pair_of}
use Rattle.cf_form.specs.Joined.{signed_of}
use Rattle.cf_form.proofs.atoms.related_each.Given as goal

abbrev pub decreases-loop-y : goal.decreases-loop-y
decreases-loop-y l = length l.rest

abbrev pub invariant-loop-y : goal.invariant-loop-y
invariant-loop-y l =
    map rel_tree l.all.items ++ map (atom_of (signed_of l.sign)) (map (pair_of (rel_over_sets (wide_rel l.rel)) (guarded_set l.x)) (map guarded_set l.rest))
    ≡ map (atom_of (signed_of l.sign)) (map (pair_of (rel_over_sets (wide_rel l.rel)) (guarded_set l.x)) (map guarded_set l.fn.ys))
