use Rattle.cf_answer.proofs.BesideLemmas.{branch_words}
use Rattle.cf_answer.proofs.ors.put_words.Goals as goal

pub returns : goal.returns
returns c =
    branch_words c.args.text.now.items _ _ _ _ _ _ _ _ _ _ c.args.place c.args.index c.as_slice.ensures c.as_slice-2.ensures c.as_slice-3.ensures
    c.in_ok-extend_from_slice.ensures.items c.in_ok-put_number.ensures c.in_ok-extend_from_slice-2.ensures.items c.in_ok-put_number-2.ensures
    c.in_ok-push.ensures.items c.in_ok-put_number-3.ensures c.in_ok-extend_from_slice-3.ensures.items
