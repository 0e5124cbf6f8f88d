use Rattle.std.proofs.Common.{◌≡◌, ◌++◌, map, length}
use Rattle.cf_tree.specs.RelView.{rel_tree}
use Rattle.cf_form.specs.Alternatives.{links}
use Rattle.cf_form.specs.GuardedView.{guarded_terms}
use Rattle.cf_form.specs.Joined.{signed_of}
use Rattle.cf_form.proofs.atoms.links.Given as goal

abbrev pub decreases-loop-order : goal.decreases-loop-order
decreases-loop-order l = length l.orders

abbrev pub invariant-loop-order : goal.invariant-loop-order
invariant-loop-order l =
    map rel_tree l.all.items ++ links (signed_of l.sign) l.orders (map guarded_terms l.parts)
    ≡ links (signed_of l.sign) l.fn.orders (map guarded_terms l.fn.parts)
