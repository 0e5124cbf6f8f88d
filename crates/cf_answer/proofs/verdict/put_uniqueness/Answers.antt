use Rattle.cf_answer.proofs.SampleLemmas.{six_added, two_added}
use Rattle.cf_answer.proofs.verdict.put_uniqueness.Goals as goal

pub returns-in_ok-put_values-in-Two-2 : goal.returns-in_ok-put_values-in-Two-2
returns-in_ok-put_values-in-Two-2 c =
    let sample = rw c.deref.ensures.value at c.in_ok-put_sample-in-Two.ensures in
    let first = rw c.deref-in-Two.ensures.value at c.in_ok-put_values-in-Two.ensures in
    let second = rw c.deref-in-Two-2.ensures.value at c.in_ok-put_values-in-Two-2.ensures in
    rw c.in-Two.is
    (six_added _ _ _ _ _ _ _ _ _ _ _ _ _ c.in_ok-extend_from_slice-in-Two.ensures.items sample c.in_ok-extend_from_slice-in-Two-2.ensures.items first
    c.in_ok-extend_from_slice-in-Two-3.ensures.items second)

pub returns-in_ok-put_doubt-in-Undecided : goal.returns-in_ok-put_doubt-in-Undecided
returns-in_ok-put_doubt-in-Undecided c =
    rw c.in-Undecided.is (two_added _ _ _ _ _ c.in_ok-extend_from_slice-in-Undecided.ensures.items c.in_ok-put_doubt-in-Undecided.ensures)
