use Rattle.cf_close.proofs.BranchLemmas.{place_ok}
use Rattle.cf_close.proofs.node.place_of.Goals as goal

pub returns-in-Some : goal.returns-in-Some
returns-in-Some c = place_ok c.branch_at.result c.args.node.now c.args.or c.args.branch c.in-Some.places.now c.in-Some.ensures.0 c.in-Some.ensures.1 c.branch_at.ensures
