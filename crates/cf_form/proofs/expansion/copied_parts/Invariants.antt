use Rattle.std.proofs.Common.{◌≡◌, map, take}
use Rattle.cf_form.specs.WideView.{part}
use Rattle.cf_form.proofs.expansion.copied_parts.Given as goal

abbrev pub invariant-loop-part : goal.invariant-loop-part
invariant-loop-part l = map part l.all.items ≡ map part (take l.part-index l.parts)
