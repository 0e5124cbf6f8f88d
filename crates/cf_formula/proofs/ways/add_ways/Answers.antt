use Rattle.std.proofs.Common.{◌≡◌, Err, rules, arith}
use Rattle.cf_tree.specs.RelView.{rel_tree}
use Rattle.cf_linear.specs.Cases.{negation_normal}
use Rattle.cf_linear.specs.Views.{plain_layout}
use Rattle.cf_formula.specs.WritingAnswers.{atom_in, ways_of}
use Rattle.cf_formula.proofs.WritingCode.{normal_is, is_way, no_way, one_way, way_fails, ways_end}
use Rattle.cf_formula.proofs.ways.add_ways.Goals as goal

pub returns-in_err-add_way-clause-gives : goal.returns-in_err-add_way-clause-gives
returns-in_err-add_way-clause-gives c =
    let r = rel_tree c.args.rel.now in
    let n = negation_normal c.args.holds r in
    let e : c.from_residual-in_err-add_way.result ≡ Err c.in_err-add_way.field-0.0 = search rules in
    rw e (way_fails (plain_layout c.args.layout.now) n (atom_in n) c.loop-index.index (ways_of c.args.ways.now) (ways_of c.loop-index.ways)
    c.in_err-add_way.field-0.0 (normal_is c.args.holds r c.requires.atom)
    (is_way c.args.holds r c.loop-index.index c.in_ok-count.count c.requires.atom c.in_ok-count.ensures.count (omega (arith, c.loop-index-test.true)))
    c.in_err-add_way.ensures.gives c.loop-index.invariant)

pub loop-index-preserved : goal.loop-index-preserved
loop-index-preserved c =
    let r = rel_tree c.args.rel.now in
    let n = negation_normal c.args.holds r in
    one_way (plain_layout c.args.layout.now) n (atom_in n) c.loop-index.index (ways_of c.args.ways.now) (ways_of c.loop-index.ways) (ways_of c.add_way.new.ways)
    (normal_is c.args.holds r c.requires.atom)
    (is_way c.args.holds r c.loop-index.index c.in_ok-count.count c.requires.atom c.in_ok-count.ensures.count (omega (arith, c.loop-index-test.true)))
    c.in_ok-add_way.ensures.gives.0 c.in_ok-add_way.ensures.gives.1 c.in_ok-add_way.ensures.more c.loop-index.invariant

pub returns-clause-gives : goal.returns-clause-gives
returns-clause-gives c =
    let r = rel_tree c.args.rel.now in
    let n = negation_normal c.args.holds r in
    ways_end (plain_layout c.args.layout.now) n (atom_in n) c.loop-index.index (ways_of c.args.ways.now) (ways_of c.loop-index.ways)
    (normal_is c.args.holds r c.requires.atom)
    (no_way c.args.holds r c.loop-index.index c.in_ok-count.count c.requires.atom c.in_ok-count.ensures.count (omega (arith, c.loop-index-test.false)))
    c.loop-index.invariant
