use Rattle.std.proofs.Common.{sym, subst}
use Rattle.cf_tree.specs.RelView.{rel_tree}
use Rattle.cf_cases.specs.Holding.{IsPlacedRel}
use Rattle.cf_cases.proofs.PlacedLaws.{placed-rel}
use Rattle.cf_read.proofs.WholeLaws.{read_from}
use Rattle.cf_read.proofs.whole.read_whole.Goals as goal

pub written-requires-clause-placed : goal.written-requires-clause-placed
written-requires-clause-placed c =
    subst (λ l. IsPlacedRel l (rel_tree c.args.rel.now)) (sym c.in-Ok.ensures)
    (placed-rel c.args.scope.now c.args.outputs.now (rel_tree c.args.rel.now) c.requires.typed c.requires.linear)

pub returns-in-Ok-written : goal.returns-in-Ok-written
returns-in-Ok-written c =
    read_from c.args.scope.now c.args.outputs.now (rel_tree c.args.rel.now) _ c.in-Ok-written.written c.whole_problem.result c.in-Ok.ensures
    c.in-Ok-written.ensures.gives.0 c.requires.typed c.requires.linear c.whole_problem.ensures
