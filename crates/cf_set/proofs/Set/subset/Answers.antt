use Rattle.std.proofs.Common.{◌≡◌, rules}
use Rattle.cf_tree.specs.Sets.{is_subset}
use Rattle.cf_tree.proofs.SetLemmas.{is_subset-iff}
use Rattle.cf_set.proofs.Set.subset.Goals as goal

pub returns-clause-elements : goal.returns-clause-elements
returns-clause-elements c =
    let e : c.subset.result ≡ is_subset c.args.self.now c.args.other.now = search rules in
    rw e (is_subset-iff c.args.self.now c.args.other.now)
