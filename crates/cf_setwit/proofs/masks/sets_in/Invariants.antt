use Rattle.std.proofs.Common.{◌≡◌, take}
use Rattle.std.specs.Prelude.{filter}
use Rattle.cf_linear.specs.Layout.{bit, place}
use Rattle.cf_setwit.proofs.masks.sets_in.Given as goal

abbrev pub invariant-loop-x : goal.invariant-loop-x
invariant-loop-x l = l.sets.items ≡ filter (λ x. bit (place x l.inputs) l.mask) (take l.x-index l.inputs)
