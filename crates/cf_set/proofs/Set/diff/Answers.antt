use Rattle.std.proofs.Common.{◌≡◌, not, rules}
use Rattle.cf_tree.specs.Sets.{has, set_diff}
use Rattle.cf_tree.proofs.RisingLemmas.{rising_filter}
use Rattle.cf_tree.proofs.SetLemmas.{within_filter, has-diff}
use Rattle.cf_set.proofs.Set.diff.Goals as goal

pub invariant_of-result : goal.invariant_of-result
invariant_of-result c =
    let e : c.in_ok-diff.field-0.items ≡ set_diff c.self.inside.items.items c.other.inside.items.items = search rules in
    rw e (
      rising_filter (λ x. not (has c.other.inside.items.items x)) c.self.inside.items.items c.self.invariant.0,
      within_filter (λ x. not (has c.other.inside.items.items x)) c.self.inside.items.items c.self.invariant.1,
    )

pub returns-clause-members : goal.returns-clause-members
returns-clause-members c x =
    let e : c.in_ok-diff.field-0.items ≡ set_diff c.args.self.now c.args.other.now = search rules in
    rw e (has-diff c.args.self.now c.args.other.now x)
