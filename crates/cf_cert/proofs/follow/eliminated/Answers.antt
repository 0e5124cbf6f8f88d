use Rattle.std.proofs.Common.{arith, sym, subst, Err, ◌∙◌, ap}
use Rattle.cf_linear.specs.Stages.{limits}
use Rattle.cf_linear.specs.Views.{system_of}
use Rattle.cf_cert.specs.Applying.{IsWithinAct}
use Rattle.cf_cert.specs.Certifying.{eliminated}
use Rattle.cf_cert.specs.Following.{CaseIs, at_step}
use Rattle.cf_cert.proofs.WayLaws.{begun_refused, begun_on, way_begins, way_more_at, way_fails_at, way_ends, each_at}
use Rattle.cf_cert.proofs.follow.eliminated.Goals as goal

pub returns-in-Err : goal.returns-in-Err
returns-in-Err c =
    subst (λ f. CaseIs (eliminated limits (system_of c.args.system) c.args.acts.now) (Err f)) (sym (c.at_step.ensures ∙ ap (at_step 0) c.refusal_of.ensures))
    (begun_refused (system_of c.args.system) c.args.acts.now c.in-Err.fault c.in-Err.ensures)

pub loop-i-init : goal.loop-i-init
loop-i-init c = way_begins c.args.system c.args.acts.now c.none.result c.requires.ready c.none.ensures.bounds c.none.ensures.steps c.none.ensures.later

pub advance-requires-clause-within : goal.advance-requires-clause-within
advance-requires-clause-within c = each_at IsWithinAct c.args.acts.now c.loop-i.i _ c.loop-i-test.true c.requires.within

pub loop-i-preserved : goal.loop-i-preserved
loop-i-preserved c =
    let l = c.loop-i in
    way_more_at (system_of c.args.system) c.args.acts.now l.i l.step _ l.way c.in-Ok-advance.next c.loop-i-test.true c.in-Ok-advance.ensures l.invariant

pub returns-in-Err-advance : goal.returns-in-Err-advance
returns-in-Err-advance c =
    let l = c.loop-i in
    subst (λ f. CaseIs (eliminated limits (system_of c.args.system) c.args.acts.now) (Err f)) (sym c.at_step-in-Err-advance.ensures)
    (subst (λ g. CaseIs g (Err (at_step l.step c.in-Err-advance.fault))) (sym (begun_on (system_of c.args.system) c.args.acts.now c.in-Ok.ensures))
    (way_fails_at (system_of c.args.system) c.args.acts.now l.i l.step _ l.way c.in-Err-advance.fault c.loop-i-test.true c.in-Err-advance.ensures l.invariant))

pub returns : goal.returns
returns c =
    let l = c.loop-i in
    subst (λ f. CaseIs f c.ended.result) (sym (begun_on (system_of c.args.system) c.args.acts.now c.in-Ok.ensures))
    (way_ends (system_of c.args.system) c.args.acts.now l.i l.step l.way c.ended.result (omega (arith, c.loop-i-test.false)) l.invariant c.ended.ensures)
