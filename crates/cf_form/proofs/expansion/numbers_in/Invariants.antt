use Rattle.std.proofs.Common.{◌≡◌, ◌++◌, map, reverse, length}
use Rattle.cf_form.specs.Expansion.{number_in}
use Rattle.cf_form.specs.WideView.{part, wide_term}
use Rattle.cf_form.proofs.expansion.numbers_in.Given as goal

abbrev pub decreases-loop-part : goal.decreases-loop-part
decreases-loop-part l = length l.parts.items

abbrev pub invariant-loop-part : goal.invariant-loop-part
invariant-loop-part l =
    map wide_term l.all.items ++ map number_in (map part (reverse l.parts.items)) ≡ map number_in (map part l.fn.parts.items)
