use Rattle.cf_close.proofs.NodeLemmas.{root_ok}
use Rattle.cf_close.proofs.node.root_of.Goals as goal

pub returns-in-Some : goal.returns-in-Some
returns-in-Some c =
    root_ok c.copied.result c.args.problem.now c.in-Some.root.now (rw (c.conjunctions.ensures, c.root.ensures) at c.in-Some.ensures.lookup.3.0)
    (rw (c.conjunctions.ensures, c.root.ensures) at c.in-Some.ensures.lookup.1) c.copied.ensures
