use Rattle.cf_answer.proofs.ClaimedLemmas.{named_put}
use Rattle.cf_answer.proofs.goals.put_named.Goals as goal

pub returns : goal.returns
returns c = λ same. named_put c.args.choose.now c.args.branch _ _ _ _ _ _ c.requires.scope c.requires.outputs same c.put_claim.ensures
