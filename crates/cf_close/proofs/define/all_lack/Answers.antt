use Rattle.std.proofs.Common.{◌<◌, All, length, subst, arith}
use Rattle.std.proofs.lemmas.List.{take_all}
use Rattle.std.proofs.lemmas.List.Elements.{All-more}
use Rattle.cf_close.specs.Nodes.{NodeLacks, Lacks}
use Rattle.cf_close.proofs.define.all_lack.Goals as goal

pub loop-node-preserved : goal.loop-node-preserved
loop-node-preserved c =
    let l : c.loop-node.node-index < length c.args.nodes.now = omega (arith, c.loop-node-test.true) in
    All-more (NodeLacks c.args.column) c.args.nodes.now c.loop-node.node-index c.node-item.result l c.loop-node.invariant
    (subst (NodeLacks c.args.column) c.node-item.is (subst (λ y. All (Lacks c.args.column) y) c.facts.ensures (c.facts_lack.ensures c.if-not-facts_lack.false)))

pub returns : goal.returns
returns c = λ e. subst (λ y. All (NodeLacks c.args.column) y) (take_all c.loop-node.node-index c.args.nodes.now (omega (arith, c.loop-node-test.false))) c.loop-node.invariant
