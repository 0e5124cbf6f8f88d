use Rattle.std.proofs.Common.{◌≡◌, ◌++◌, ◌∷◌, [], rules}
use Rattle.cf_eval.proofs.SetLists.{set_of_more}
use Rattle.cf_eval.proofs.operate.push_element.Goals as goal

pub returns-clause-value : goal.returns-clause-value
returns-clause-value c =
    let e : c.push.new.self.items ≡ c.args.items.now.items ++ c.args.x ∷ [] = search rules in
    rw e (set_of_more c.args.items.now.items c.args.x)
