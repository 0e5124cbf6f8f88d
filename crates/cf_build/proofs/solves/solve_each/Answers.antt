use Rattle.std.proofs.Common.{◌≡◌, Err, rules}
use Rattle.cf_build.proofs.LoopSteps.{solves_more}
use Rattle.cf_build.proofs.SolveLists.{fault_at}
use Rattle.cf_build.proofs.solves.solve_each.Goals as goal

pub loop-choose-preserved : goal.loop-choose-preserved
loop-choose-preserved c =
    solves_more c.args.chooses.now c.loop-choose.choose-index c.choose-item.result c.loop-choose.solves.items c.push.new.self.items
    c.in_ok-solve_one.field-0 c.loop-choose-test.true c.choose-item.is c.loop-choose.invariant c.in_ok-push.ensures.items c.in_ok-solve_one.ensures.solved

pub returns-in_err-solve_one-clause-refused : goal.returns-in_err-solve_one-clause-refused
returns-in_err-solve_one-clause-refused c =
    let e : c.from_residual.result ≡ Err c.in_err-solve_one.field-0.0 = search rules in
    rw e (fault_at c.args.chooses.now c.loop-choose.choose-index c.choose-item.result c.loop-choose.solves.items c.in_err-solve_one.field-0.0
    c.loop-choose-test.true c.choose-item.is c.loop-choose.invariant c.in_err-solve_one.ensures.refused)
