use Rattle.std.proofs.Common.{map}
use Rattle.cf_linear.specs.Views.{system_of}
use Rattle.cf_choose.proofs.OnWay.{way_ready, way_more, cases_refused}
use Rattle.cf_choose.proofs.cases.each_case.Goals as goal

pub case-requires : goal.case-requires
case-requires c = way_ready (map system_of c.args.systems.items) c.loop-system.left.items c.pop.new.self.items c.in-Some.system c.loop-system.cases.items
    c.in-Some.ensures.items c.loop-system.invariant

pub loop-system-preserved : goal.loop-system-preserved
loop-system-preserved c =
    way_more (map system_of c.args.systems.items) c.loop-system.left.items c.pop.new.self.items c.in-Some.system c.loop-system.cases.items
    c.push.new.self.items c.in-Ok.case c.in-Some.ensures.items
    c.in_ok-push-in-Ok.ensures.items c.in-Ok.ensures c.loop-system.invariant

pub returns-in-Err : goal.returns-in-Err
returns-in-Err c =
    cases_refused (map system_of c.args.systems.items) c.loop-system.left.items c.pop.new.self.items c.in-Some.system c.loop-system.cases.items
    c.in-Err.fault c.in-Some.ensures.items c.in-Err.ensures c.loop-system.invariant
