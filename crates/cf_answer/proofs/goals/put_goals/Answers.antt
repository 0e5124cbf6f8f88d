use Rattle.cf_answer.proofs.ClaimedLemmas.{solve_put}
use Rattle.cf_answer.proofs.goals.put_goals.Goals as goal

pub returns-in-Ok : goal.returns-in-Ok
returns-in-Ok c = λ q s. solve_put q c.args.choose.now c.args.branch _ _ _ _ s c.in-Ok.ensures.code c.put_solve.ensures
