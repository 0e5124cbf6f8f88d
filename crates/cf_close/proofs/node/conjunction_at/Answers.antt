use Rattle.cf_close.proofs.node.conjunction_at.Goals as goal

pub returns-in-Some : goal.returns-in-Some
returns-in-Some c = λ node o k p. record {
  place = c.args.place;
  place_is = p;
  place_in = rw c.conjunctions.ensures at c.in-Some.ensures.lookup.3.0;
  is = rw c.conjunctions.ensures at c.in-Some.ensures.lookup.1;
}
