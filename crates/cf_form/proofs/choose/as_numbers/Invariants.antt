use Rattle.std.proofs.Common.{◌≡◌, map, take}
use Rattle.cf_form.specs.Formed.{as_number}
use Rattle.cf_form.proofs.choose.as_numbers.Given as goal

abbrev pub invariant-loop-output : goal.invariant-loop-output
invariant-loop-output l = l.all.items ≡ map as_number (take l.output-index l.outputs)
