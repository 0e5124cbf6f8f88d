use Rattle.std.proofs.Common.{refl}
use Rattle.cf_answer.proofs.PassLemmas.{on_err, plain_verdict}
use Rattle.cf_answer.proofs.compile.compiled.Goals as goal

pub returns-then-plain-clause-verdict : goal.returns-then-plain-clause-verdict
returns-then-plain-clause-verdict g c = rw c.if-plain.true (plain_verdict _ _ _ _ (rw c.new.ensures.items at c.target_of_text.ensures.verdict))

pub returns-clause-verdict : goal.returns-clause-verdict
returns-clause-verdict g c = rw c.if-plain.false c.target_of_text-2.ensures.verdict

pub returns-then-plain-clause-kept : goal.returns-then-plain-clause-kept
returns-then-plain-clause-kept g c = on_err c.target_of_text.result refl
