use Rattle.std.proofs.Common.{◌≡◌, rules}
use Rattle.cf_tree.specs.Sets.{has, set_inter}
use Rattle.cf_tree.proofs.RisingLemmas.{rising_filter}
use Rattle.cf_tree.proofs.SetLemmas.{within_filter, has-inter}
use Rattle.cf_set.proofs.Set.inter.Goals as goal

pub invariant_of-result : goal.invariant_of-result
invariant_of-result c =
    let e : c.in_ok-inter.field-0.items ≡ set_inter c.self.inside.items.items c.other.inside.items.items = search rules in
    rw e (
      rising_filter (has c.other.inside.items.items) c.self.inside.items.items c.self.invariant.0,
      within_filter (has c.other.inside.items.items)
          c.self.inside.items.items c.self.invariant.1,
    )

pub returns-clause-members : goal.returns-clause-members
returns-clause-members c x =
    let e : c.in_ok-inter.field-0.items ≡ set_inter c.args.self.now c.args.other.now = search rules in
    rw e (has-inter c.args.self.now c.args.other.now x)
