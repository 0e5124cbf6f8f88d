use Rattle.std.proofs.Common.{◌≡◌, arith, Err, rules}
use Rattle.cf_tree.specs.RelView.{rel_tree}
use Rattle.cf_linear.specs.Views.{plain_layout}
use Rattle.cf_cases.proofs.FirstSystemLaws.{one_more, systems_are, systems_begun, fault_is, index_below, index_past}
use Rattle.cf_cases.proofs.first_systems.each_system.Goals as goal

pub loop-index-preserved : goal.loop-index-preserved
loop-index-preserved c =
    one_more (plain_layout c.args.layout.now) (rel_tree c.args.counted.now) c.loop-index.index c.loop-index.all.items c.push.new.self.items
    c.in_ok-case_of.field-0
    (index_below _ _ c.loop-index.index c.cases_len-index-end.ensures c.loop-index-test.true)
    c.in_ok-push.ensures.items c.in_ok-case_of.ensures.system c.in_ok-case_of.ensures.fits c.loop-index.invariant

pub returns-clause-systems : goal.returns-clause-systems
returns-clause-systems c =
    systems_are (plain_layout c.args.layout.now) (rel_tree c.args.counted.now) c.requires.placed c.loop-index.index c.loop-index.all
    (index_past _ _ c.loop-index.index c.cases_len-index-end.ensures c.requires.few (omega (arith, c.loop-index-test.false))) c.loop-index.invariant

pub returns-clause-ready : goal.returns-clause-ready
returns-clause-ready c =
    systems_begun (plain_layout c.args.layout.now) (rel_tree c.args.counted.now) c.requires.placed c.loop-index.index c.loop-index.all
    (index_past _ _ c.loop-index.index c.cases_len-index-end.ensures c.requires.few (omega (arith, c.loop-index-test.false))) c.loop-index.invariant

pub returns-in_err-case_of-clause-systems : goal.returns-in_err-case_of-clause-systems
returns-in_err-case_of-clause-systems c =
    let e : c.from_residual.result ≡ Err c.in_err-case_of.field-0.0 = search rules in
    rw e (fault_is (plain_layout c.args.layout.now) (rel_tree c.args.counted.now) c.requires.placed c.loop-index.index c.in_err-case_of.field-0.0
    (index_below _ _ c.loop-index.index c.cases_len-index-end.ensures c.loop-index-test.true) c.in_err-case_of.ensures.past)
