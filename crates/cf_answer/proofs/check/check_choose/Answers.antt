use Rattle.cf_answer.proofs.CheckLemmas.{choose_checked}
use Rattle.cf_answer.proofs.check.check_choose.Goals as goal

pub returns : goal.returns
returns c =
    let first = rw c.deref.ensures.value at c.in_ok-exists.ensures in
    let second = rw c.deref-2.ensures.value at c.in_ok-unique.ensures in
    λ edition matches told. choose_checked edition matches told c.args.choose.now _ c.in_ok-levels.levels.items _ _ c.in_ok-exists.exists c.in_ok-unique.unique
    c.in_ok-levels.ensures first second
