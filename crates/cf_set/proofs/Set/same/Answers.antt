use Rattle.std.proofs.Common.{◌≡◌, rules}
use Rattle.cf_tree.specs.Values.{same_list}
use Rattle.cf_tree.proofs.SetLemmas.{same_list-iff}
use Rattle.cf_set.proofs.Set.same.Goals as goal

pub returns-clause-equal : goal.returns-clause-equal
returns-clause-equal c =
    let e : c.same.result ≡ same_list c.args.self.now c.args.other.now = search rules in
    rw e (same_list-iff c.args.self.now c.args.other.now)
