use Rattle.std.proofs.Common.{◌≡◌, drop, None}
use Rattle.cf_form.specs.Counted.{sides_counted, links_behind}
use Rattle.cf_form.specs.Passed.{earlier, sides, inners}
use Rattle.cf_form.specs.WideView.{wide_terms}
use Rattle.cf_form.proofs.count.+passed.Given as goal

abbrev pub invariant-inners-loop-part : goal.invariant-inners-loop-part
invariant-inners-loop-part l = earlier l.found (inners (sides (wide_terms (drop l.part-index l.parts)))) ≡ inners (sides (wide_terms l.parts))

abbrev pub invariant-links_passed-loop-part : goal.invariant-links_passed-loop-part
invariant-links_passed-loop-part l =
    earlier l.found (links_behind l.before (sides_counted (wide_terms (drop l.part-index l.parts)))) ≡ links_behind None (sides_counted (wide_terms l.parts))
