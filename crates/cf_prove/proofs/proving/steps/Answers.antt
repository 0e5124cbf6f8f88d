use Rattle.std.proofs.Common.{ap, arith, map, subst, sym}
use Rattle.std.proofs.lemmas.List.{take_all}
use Rattle.cf_choose.specs.Eliminations.{first_of}
use Rattle.cf_elim.specs.Acts.{AreStepsOf}
use Rattle.cf_prove.specs.Acting.{AreTracesOf}
use Rattle.cf_prove.proofs.ProveLaws.{none_traced, one_traced}
use Rattle.cf_prove.proofs.proving.steps.Goals as goal

pub loop-case-init : goal.loop-case-init
loop-case-init c = none_traced _ (ap (map (λ v. v.items)) c.new-steps.ensures.items)

pub loop-case-preserved : goal.loop-case-preserved
loop-case-preserved c =
    let l = c.loop-case in
    one_traced c.args.cases.now l.case-index c.case-item.result l.steps.items c.push.new.self.items c.in_ok-acts.acts (omega (arith, c.loop-case-test.true))
    c.case-item.is c.in_ok-push.ensures.items (subst (AreStepsOf (first_of c.case-item.result)) (sym c.in_ok-acts.ensures.items) c.acts.ensures.steps) l.invariant

pub returns : goal.returns
returns c =
    let l = c.loop-case in
    subst (λ cs. AreTracesOf (map first_of cs) (map (λ v. v.items) l.steps.items)) (take_all l.case-index c.args.cases.now (omega (arith, c.loop-case-test.false)))
    l.invariant
