use Rattle.std.proofs.Common.{inl, rules}
use Rattle.cf_answer.specs.Refusals.{broken}
use Rattle.cf_answer.proofs.RuleLemmas.{fails_so}
use Rattle.cf_answer.proofs.source.checked_program.Goals as goal

pub with_advice-requires : goal.with_advice-requires
with_advice-requires c = c.in-Ok.ensures

pub returns-in-Err : goal.returns-in-Err
returns-in-Err c = inl (broken c.in-Err.fault (fails_so c.in-Err.fault _ (search rules) c.in-Err.ensures))
