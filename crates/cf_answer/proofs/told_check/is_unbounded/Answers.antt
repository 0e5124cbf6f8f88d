use Rattle.cf_answer.proofs.told_check.is_unbounded.Goals as goal

pub returns-then-is_number : goal.returns-then-is_number
returns-then-is_number c = λ e. (c.is_number.ensures c.if-is_number.true, c.are_unbounded.ensures e)
