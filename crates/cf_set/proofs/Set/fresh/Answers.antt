use Rattle.std.proofs.Common.{◌≡◌, rules}
use Rattle.cf_tree.specs.Numbers.{count_of}
use Rattle.cf_tree.specs.Sets.{set_fresh}
use Rattle.cf_tree.proofs.SliceLemmas.{rising_fresh}
use Rattle.cf_set.proofs.FreshLemmas.{AreFresh-set_fresh}
use Rattle.cf_set.proofs.Set.fresh.Goals as goal

pub invariant_of-result : goal.invariant_of-result
invariant_of-result c =
    let e : c.in_ok-fresh.field-0.items ≡ set_fresh c.avoid.inside.items.items (count_of c.args.n) = search rules in
    (rw e (rising_fresh c.avoid.inside.items.items (count_of c.args.n)), c.in_ok-fresh.ensures.fits)

pub returns-clause-law : goal.returns-clause-law
returns-clause-law c =
    let e : c.in_ok-fresh.field-0.items ≡ set_fresh c.avoid.inside.items.items (count_of c.args.n) = search rules in
    rw (e, ← c.avoid.view_is) (AreFresh-set_fresh c.avoid.inside.items.items (count_of c.args.n) c.avoid.invariant.0)
