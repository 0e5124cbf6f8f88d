use Rattle.cf_answer.proofs.check.check_existence.Goals as goal

pub returns : goal.returns
returns c = (c.in_ok-answer.answer, c.in_ok-answer.ensures, c.in_ok-put_existence_line.ensures, c.unmet_existence.ensures)
