use Rattle.cf_close.proofs.fact.check_conflict.Goals as goal

pub returns : goal.returns
returns c = record {
  never = λ v one p q. c.never_holds.ensures c.if-not-never_holds.false v one
      (c.in_ok-total.ensures v (c.in_ok-first.ensures v p) (c.in_ok-second.ensures v q));
}
