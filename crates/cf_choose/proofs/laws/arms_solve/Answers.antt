use Rattle.cf_choose.proofs.DefinedArms.{unrefused_solve, unrefused_typed, unrefused_shallow, unrefused_spelled}
use Rattle.cf_choose.proofs.laws.arms_solve.Goals as goal

pub returns-clause-solve : goal.returns-clause-solve
returns-clause-solve c = λ scope outputs rel u. unrefused_solve scope outputs rel u

pub returns-clause-typed : goal.returns-clause-typed
returns-clause-typed c = λ scope outputs rel u. unrefused_typed scope outputs rel u

pub returns-clause-spelled : goal.returns-clause-spelled
returns-clause-spelled c = λ scope outputs rel u. (unrefused_shallow scope outputs rel u, λ few some. unrefused_spelled scope outputs rel u few some)
