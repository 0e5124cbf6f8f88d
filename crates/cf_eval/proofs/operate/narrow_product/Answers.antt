use Rattle.std.proofs.Common.{◌≡◌, ◌∙◌, ◌*ℤ◌, ap, sym, subst, Some, to_z, of_z}
use Rattle.std.specs.Int.{w128}
use Rattle.cf_num.specs.Limit.{IsWithin}
use Rattle.cf_eval.proofs.NarrowLemmas.{widened, product_held, product_in, product_met}
use Rattle.cf_eval.proofs.operate.narrow_product.Goals as goal

held : (c : goal.After-from-2) → to_z w128 (of_z w128 (to_z w128 (of_z w128 c.from.result) *ℤ to_z w128 (of_z w128 c.from-2.result))) ≡ c.args.x *ℤ c.args.y
held c =
    product_held _ _ c.args.x c.args.y (widened c.from.result c.args.x (record { sfits = c.from.type_inv }) c.from.ensures c.ranges.x)
    (widened c.from-2.result c.args.y (record { sfits = c.from-2.type_inv }) c.from-2.ensures c.ranges.y) c.ranges.x c.ranges.y

pub returns-clause-exact : goal.returns-clause-exact
returns-clause-exact c = held c

pub returns-clause-value : goal.returns-clause-value
returns-clause-value c = product_met c.args.x c.args.y c.ranges.x c.ranges.y ∙ ap Some (sym (held c))

pub returns-clause-fits : goal.returns-clause-fits
returns-clause-fits c = subst IsWithin (sym (held c)) (product_in c.args.x c.args.y c.ranges.x c.ranges.y)
