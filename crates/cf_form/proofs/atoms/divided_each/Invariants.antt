use Rattle.std.proofs.Common.{◌≡◌, ◌++◌, map, length, reverse}
use Rattle.cf_tree.specs.RelTree.{rel_divides}
use Rattle.cf_tree.specs.RelView.{rel_tree}
use Rattle.cf_form.specs.Alternatives.{over_one}
use Rattle.cf_form.specs.GuardedView.{guarded_term, atom_of}
use Rattle.cf_form.specs.Joined.{signed_of}
use Rattle.cf_form.proofs.atoms.divided_each.Given as goal

abbrev pub decreases-loop-x : goal.decreases-loop-x
decreases-loop-x l = length l.left.items

abbrev pub invariant-loop-x : goal.invariant-loop-x
invariant-loop-x l =
    map rel_tree l.all.items ++ map (atom_of (signed_of l.sign)) (over_one (rel_divides l.k) (map guarded_term (reverse l.left.items)))
    ≡ map (atom_of (signed_of l.sign)) (over_one (rel_divides l.k) (map guarded_term l.fn.xs.items))
