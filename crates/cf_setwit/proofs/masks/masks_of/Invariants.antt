use Rattle.std.proofs.Common.{◌≡◌, ◌+◌, ◌-◌, length}
use Rattle.std.specs.Prelude.{filter}
use Rattle.std.specs.List.{range_with_len}
use Rattle.cf_linear.specs.Layout.{bit}
use Rattle.cf_setwit.proofs.masks.masks_of.Given as goal

abbrev pub invariant-loop-mask : goal.invariant-loop-mask
invariant-loop-mask l = l.masks.items ≡ filter (bit (length l.layout.inputs.items + l.j)) (range_with_len 1 (l.mask - 1))
