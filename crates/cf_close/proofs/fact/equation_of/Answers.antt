use Rattle.cf_close.proofs.FactLemmas.{opposed}
use Rattle.cf_close.proofs.fact.equation_of.Goals as goal

pub returns-in-Ok : goal.returns-in-Ok
returns-in-Ok c = λ v h k. rw (c.fact_of.ensures, c.in-Ok.ensures)
    (opposed v c.args.x.now.row c.args.y.now.row c.args.x.now.kind c.args.y.now.kind c.in_ok-check_opposite.ensures h k)
