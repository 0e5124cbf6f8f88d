use Rattle.std.proofs.Common.{subst, sym}
use Rattle.cf_tree.specs.RelView.{rel_tree}
use Rattle.cf_cases.specs.Holding.{IsPlacedRel}
use Rattle.cf_cases.proofs.PlacedLaws.{placed-rel}
use Rattle.cf_choose.proofs.OnWay.{tells_later, tells_count}
use Rattle.cf_choose.proofs.solving.solve.Goals as goal

pub returns-in-Err-counts : goal.returns-in-Err-counts
returns-in-Err-counts c = tells_count c.args.scope.now c.args.outputs.now (rel_tree c.args.rel.now) c.in-Ok.layout c.in-Err-counts.fault c.in-Ok.ensures
    c.in-Err-counts.ensures

pub cases-requires-clause-placed : goal.cases-requires-clause-placed
cases-requires-clause-placed c =
    subst (λ l. IsPlacedRel l (rel_tree c.args.rel.now)) (sym c.in-Ok.ensures)
    (placed-rel c.args.scope.now c.args.outputs.now (rel_tree c.args.rel.now) c.requires.typed c.requires.linear)

pub returns-in-Err-cases : goal.returns-in-Err-cases
returns-in-Err-cases c =
    tells_later c.args.scope.now c.args.outputs.now (rel_tree c.args.rel.now) c.in-Ok.layout c.in-Err-cases.fault c.in-Ok.ensures c.in_default.ensures
    c.in-Err-cases.ensures

pub with_arms-requires : goal.with_arms-requires
with_arms-requires c = record {
  typed = c.requires.typed;
  linear = c.requires.linear;
  are_outputs = c.requires.outputs;
  layout_is = c.in-Ok.ensures;
  counts = c.in_default.ensures;
  written = c.in-Ok-cases.ensures.0;
  firsts = c.in-Ok-cases.ensures.1;
}
