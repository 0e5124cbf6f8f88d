use Rattle.std.proofs.Common.{◌<◌, All, length, subst, arith}
use Rattle.std.proofs.lemmas.List.{take_all}
use Rattle.std.proofs.lemmas.List.Elements.{All-more}
use Rattle.cf_close.specs.Nodes.{Lacks}
use Rattle.cf_close.proofs.define.facts_lack.Goals as goal

pub loop-fact-preserved : goal.loop-fact-preserved
loop-fact-preserved c =
    let l : c.loop-fact.fact-index < length c.args.facts.now = omega (arith, c.loop-fact-test.true) in
    All-more (Lacks c.args.column) c.args.facts.now c.loop-fact.fact-index c.fact-item.result l c.loop-fact.invariant
    (subst (Lacks c.args.column) c.fact-item.is (c.fact_lacks.ensures c.if-not-fact_lacks.false))

pub returns : goal.returns
returns c = λ e. subst (λ y. All (Lacks c.args.column) y) (take_all c.loop-fact.fact-index c.args.facts.now (omega (arith, c.loop-fact-test.false))) c.loop-fact.invariant
