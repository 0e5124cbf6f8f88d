use Rattle.std.proofs.Common.{◌≡◌, length}
use Rattle.std.specs.List.{fold}
use Rattle.cf_tree.specs.RelView.{rel_tree}
use Rattle.cf_warn.specs.Classes.{or_in_class}
use Rattle.cf_warn.proofs.classes.or_in_some.Given as goal

abbrev pub invariant-loop-class : goal.invariant-loop-class
invariant-loop-class l = fold or_in_class (rel_tree l.some.value) l.rest ≡ fold or_in_class (rel_tree l.fn.before.value) l.classes

abbrev pub decreases-loop-class : goal.decreases-loop-class
decreases-loop-class l = length l.rest
