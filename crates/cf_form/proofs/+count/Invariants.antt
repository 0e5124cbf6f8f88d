use Rattle.std.proofs.Common.{◌≡◌, take}
use Rattle.cf_tree.specs.RelSize.{capped}
use Rattle.cf_form.specs.Alternatives.{product_count}
use Rattle.cf_form.specs.WideView.{wide_terms}
use Rattle.cf_form.proofs.+count.Given as goal

abbrev pub invariant-count::product-loop-part : goal.invariant-count::product-loop-part
invariant-count::product-loop-part l = l.product ≡ capped (product_count (wide_terms (take l.part-index l.parts)))
