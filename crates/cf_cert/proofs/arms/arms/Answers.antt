use Rattle.std.proofs.Common.{rules, ◌≤◌, length, map, Err, sym, subst}
use Rattle.cf_linear.specs.Stages.{limits}
use Rattle.cf_linear.specs.Views.{plain_layout, system_of}
use Rattle.cf_cases.specs.Holding.{EachOf}
use Rattle.cf_cert.specs.declared.follow.TheConstants.{MOST_STEPS}
use Rattle.cf_cert.specs.Applying.{IsWithinAct}
use Rattle.cf_cert.specs.Certifying.{eliminated}
use Rattle.cf_cert.specs.Verifying.{ArmIs, ArmsIs}
use Rattle.cf_cert.proofs.ArmsLaws.{arming_below, arming_more, arming_fails, arming_ends, mapped}
use Rattle.cf_cert.proofs.WayLaws.{each_there}
use Rattle.cf_cert.proofs.arms.arms.Goals as goal

pub case_arm-requires-clause-within : goal.case_arm-requires-clause-within
case_arm-requires-clause-within c =
    let l = c.loop-system in
    let cases = map (λ v. v.items) c.args.cases.now in
    subst (EachOf IsWithinAct) (sym c.deref.ensures.value)
    (each_there (λ acts. EachOf IsWithinAct acts) cases l.case c.index-cases-case.result.items
    (arming_below (plain_layout c.args.layout.now) (map system_of c.args.systems.items) cases l.left.items c.pop.new.self.items c.in-Some.system l.case
    l.arms.items c.in-Some.ensures.items l.invariant)
    (mapped (λ v. v.items) c.args.cases.now l.case c.index-cases-case.result c.index-cases-case.is) c.requires.within)

pub case_arm-requires-clause-few : goal.case_arm-requires-clause-few
case_arm-requires-clause-few c =
    let l = c.loop-system in
    let cases = map (λ v. v.items) c.args.cases.now in
    subst (λ acts. length acts ≤ MOST_STEPS) (sym c.deref.ensures.value)
    (each_there (λ acts. length acts ≤ MOST_STEPS) cases l.case c.index-cases-case.result.items
    (arming_below (plain_layout c.args.layout.now) (map system_of c.args.systems.items) cases l.left.items c.pop.new.self.items c.in-Some.system l.case
    l.arms.items c.in-Some.ensures.items l.invariant)
    (mapped (λ v. v.items) c.args.cases.now l.case c.index-cases-case.result c.index-cases-case.is) c.requires.few)

pub returns-in-Err : goal.returns-in-Err
returns-in-Err c =
    let l = c.loop-system in
    let cases = map (λ v. v.items) c.args.cases.now in
    subst (λ f. ArmsIs (plain_layout c.args.layout.now) (map system_of c.args.systems.items) cases (Err f)) (sym c.in_case.ensures)
    (arming_fails (plain_layout c.args.layout.now) (map system_of c.args.systems.items) cases l.left.items c.pop.new.self.items c.in-Some.system l.case
    c.index-cases-case.result.items l.arms.items c.in-Some.ensures.items
    (mapped (λ v. v.items) c.args.cases.now l.case c.index-cases-case.result c.index-cases-case.is) l.invariant c.in-Err.fault
    (subst (λ xs. ArmIs (plain_layout c.args.layout.now) (eliminated limits (system_of c.in-Some.system) xs) (Err c.in-Err.fault)) c.deref.ensures.value
    c.in-Err.ensures))

pub loop-system-preserved : goal.loop-system-preserved
loop-system-preserved c =
    let l = c.loop-system in
    let cases = map (λ v. v.items) c.args.cases.now in
    let t = rw c.deref.ensures.value at c.in-Ok.ensures in
    arming_more (plain_layout c.args.layout.now) (map system_of c.args.systems.items) cases l.left.items c.pop.new.self.items c.in-Some.system l.case
    c.index-cases-case.result.items l.arms.items c.in-Some.ensures.items
    (mapped (λ v. v.items) c.args.cases.now l.case c.index-cases-case.result c.index-cases-case.is) l.invariant c.push.new.self.items c.in-Ok.arm t.0
    c.in_ok-push-in-Ok.ensures.items t.1 t.2

pub returns : goal.returns
returns c =
    let l = c.loop-system in
    arming_ends (plain_layout c.args.layout.now) (map system_of c.args.systems.items) (map (λ v. v.items) c.args.cases.now) l.left.items l.case l.arms.items
    (search rules) l.invariant
