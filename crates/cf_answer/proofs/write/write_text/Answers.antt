use Rattle.std.proofs.Common.{refl}
use Rattle.cf_answer.proofs.CountLemmas.{one_fault}
use Rattle.cf_answer.proofs.write.write_text.Goals as goal

pub returns-in-Ok-clause-count : goal.returns-in-Ok-clause-count
returns-in-Ok-clause-count g c = record { same = λ _. c.in-Ok.ensures.same; rose = λ e. cc }

pub returns-in-Err-clause-count : goal.returns-in-Err-clause-count
returns-in-Err-clause-count g c = record { same = λ n. absurd (n refl); rose = λ _. one_fault _ _ c.in-Err.ensures.failed c.in-Err.ensures.once }
