use Rattle.std.proofs.Common.{◌≡◌, rules}
use Rattle.cf_tree.specs.Sets.{set_of}
use Rattle.cf_tree.proofs.RisingLemmas.{rising_set_of}
use Rattle.cf_tree.proofs.SetLemmas.{within_set_of, has-set_of}
use Rattle.cf_set.proofs.Set.from_list.Goals as goal

pub invariant_of-result : goal.invariant_of-result
invariant_of-result c =
    let e : c.in_ok-sorted.field-0.items ≡ set_of c.args.items.now = search rules in
    rw e (rising_set_of c.args.items.now, within_set_of c.args.items.now c.requires.within)

pub returns-clause-members : goal.returns-clause-members
returns-clause-members c x =
    let e : c.in_ok-sorted.field-0.items ≡ set_of c.args.items.now = search rules in
    rw e (has-set_of c.args.items.now x)
