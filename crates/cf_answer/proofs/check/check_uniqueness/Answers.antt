use Rattle.cf_answer.proofs.check.check_uniqueness.Goals as goal

pub returns : goal.returns
returns c =
    let unique = rw c.outputs.ensures.value at c.in_ok-answer.ensures in
    (c.in_ok-answer.answer, unique, c.in_ok-put_uniqueness_line.ensures, c.unmet_uniqueness.ensures)
