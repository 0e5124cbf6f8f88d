use Rattle.cf_answer.proofs.SampleLemmas.{two_added}
use Rattle.cf_answer.proofs.verdict.put_existence.Goals as goal

pub returns-in_ok-put_doubt-in-Undecided : goal.returns-in_ok-put_doubt-in-Undecided
returns-in_ok-put_doubt-in-Undecided c =
    rw c.in-Undecided.is (two_added _ _ _ _ _ c.in_ok-extend_from_slice-in-Undecided.ensures.items c.in_ok-put_doubt-in-Undecided.ensures)
