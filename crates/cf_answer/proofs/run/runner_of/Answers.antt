use Rattle.std.proofs.Common.{refl}
use Rattle.cf_answer.proofs.PassLemmas.{on_err}
use Rattle.cf_answer.proofs.RunLemmas.{unpassed_verdict}
use Rattle.cf_answer.proofs.run.runner_of.Goals as goal

pub returns-then-plain-clause-verdict : goal.returns-then-plain-clause-verdict
returns-then-plain-clause-verdict g c = rw c.if-plain.true (unpassed_verdict _ _ _ _ (rw c.new.ensures.items at c.runner.ensures.verdict))

pub returns-clause-verdict : goal.returns-clause-verdict
returns-clause-verdict g c = rw c.if-plain.false c.runner-2.ensures.verdict

pub returns-then-plain-clause-kept : goal.returns-then-plain-clause-kept
returns-then-plain-clause-kept g c = on_err c.runner.result refl
