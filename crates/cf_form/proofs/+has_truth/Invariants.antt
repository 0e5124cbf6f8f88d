use Rattle.std.proofs.Common.{◌≡◌, take}
use Rattle.cf_form.specs.Wide.{some_has_truth}
use Rattle.cf_form.specs.WideView.{wide_terms}
use Rattle.cf_form.proofs.+has_truth.Given as goal

abbrev pub invariant-truths::some_has_truth-loop-part : goal.invariant-truths::some_has_truth-loop-part
invariant-truths::some_has_truth-loop-part l = l.found ≡ some_has_truth l.level (wide_terms (take l.part-index l.parts))
