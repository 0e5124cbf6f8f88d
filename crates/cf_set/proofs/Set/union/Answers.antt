use Rattle.std.proofs.Common.{◌≡◌, rules}
use Rattle.cf_tree.specs.Sets.{set_union}
use Rattle.cf_tree.proofs.RisingLemmas.{rising_union}
use Rattle.cf_tree.proofs.SetLemmas.{within_union, has-union}
use Rattle.cf_set.proofs.Set.union.Goals as goal

pub invariant_of-result : goal.invariant_of-result
invariant_of-result c =
    let e : c.in_ok-union.field-0.items ≡ set_union c.self.inside.items.items c.other.inside.items.items = search rules in
    rw e (
      rising_union c.self.inside.items.items c.other.inside.items.items c.other.invariant.0,
      within_union c.self.inside.items.items c.other.inside.items.items c.self.invariant.1 c.other.invariant.1,
    )

pub returns-clause-members : goal.returns-clause-members
returns-clause-members c x =
    let e : c.in_ok-union.field-0.items ≡ set_union c.args.self.now c.args.other.now = search rules in
    rw e (has-union c.args.self.now c.args.other.now x)
