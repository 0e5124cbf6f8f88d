use Rattle.std.proofs.Common.{rules, ◌≡◌, true, ap}
use Rattle.cf_tree.specs.RelView.{rel_tree}
use Rattle.cf_decide.proofs.WitnessLaws.{witness_told}
use Rattle.cf_decide.proofs.witness.is_witness_over.Goals as goal

pub returns : goal.returns
returns c =
    let p = c.args.solved.now in
    let yes : c.in_ok-tells.tells ≡ true = search rules in
    witness_told p.scope.items p.outputs.items c.scope.result.now c.outputs.result.now c.args.bases.now (rel_tree p.rel) (rel_tree c.relation.result.now)
    (rel_tree c.args.witness.now) c.scope.ensures.value c.outputs.ensures.value (ap rel_tree c.relation.ensures.value) c.requires (c.in_ok-tells.ensures yes)
    c.solves.result c.solves.ensures
