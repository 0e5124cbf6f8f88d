use Rattle.cf_answer.proofs.check.check_cover.Goals as goal

pub cover_in-requires : goal.cover_in-requires
cover_in-requires c = rw c.deref.ensures.value c.requires

pub returns : goal.returns
returns c = (c.in_ok-answer.answer, rw c.deref.ensures.value at c.in_ok-answer.ensures, c.in_ok-put_cover_line.ensures, c.unmet_cover.ensures)
