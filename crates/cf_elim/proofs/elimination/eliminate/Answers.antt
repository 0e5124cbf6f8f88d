use Rattle.std.proofs.Common.{◌<◌, ◌^◌, ap, ◌∙◌, arith, subst, sym}
use Rattle.cf_linear.specs.Views.{system_of}
use Rattle.cf_elim.specs.Acts.{AreStepsOf}
use Rattle.cf_elim.specs.Stages.{state_of}
use Rattle.cf_elim.proofs.ActLaws.{none_taken, one_taken, all_taken}
use Rattle.cf_elim.proofs.CaseLaws.{begins, steps_on, ends_case, ends_refused}
use Rattle.cf_elim.proofs.elimination.eliminate.Goals as goal

pub loop-taken-init : goal.loop-taken-init
loop-taken-init c = (
  begins c.args.system c.none-whole.result (record { formed = c.requires.formed; differ = c.requires.differ }) c.none-whole.ensures.bounds
      c.none-whole.ensures.steps c.none-whole.ensures.later,
  none_taken (system_of c.args.system) c.new-acts.result.items c.new-acts.ensures.items,
)

pub new-requires : goal.new-requires
new-requires c =
    let l = c.loop-taken in
    let lt : l.taken < 2 ^ 64 = omega (arith, c.loop-taken-test.true) in
    let e = rw c.in-Ok-Ends.field-0-is at c.in-Ok-Ends.ensures.stage in
    let p = c.parts_of.ensures in
    ends_case (system_of c.args.system) l.current l.whole l.taken c.parts_of.result l.invariant.0 lt e (ap system_of p.first ∙ c.in-Ok.ensures) p.bounds p.steps
    p.back (subst (AreStepsOf (system_of c.args.system)) (sym p.acts)
    (all_taken (system_of c.args.system) (state_of l.current) l.acts.items c.next_stage.new.acts.items l.taken l.invariant.1 lt e c.in-Ok-Ends.ensures.acts))

pub returns-in-Err-next_stage-clause-end : goal.returns-in-Err-next_stage-clause-end
returns-in-Err-next_stage-clause-end c =
    let l = c.loop-taken in
    let lt : l.taken < 2 ^ 64 = omega (arith, c.loop-taken-test.true) in
    ends_refused (system_of c.args.system) l.current l.whole l.taken c.in-Err-next_stage.fault l.invariant.0 lt c.in-Err-next_stage.ensures.stage

pub loop-taken-preserved : goal.loop-taken-preserved
loop-taken-preserved c =
    let l = c.loop-taken in
    let g = rw c.in-Ok-Goes.field-0-is at c.in-Ok-Goes.ensures.stage in
    let a = c.in-Ok-add.ensures in (
      steps_on (system_of c.args.system) l.current c.in-Ok-Goes.next l.whole c.add.new.self c.in-Ok-Goes.made l.taken l.invariant.0 g a.bounds a.steps a.later,
      one_taken (system_of c.args.system) (state_of l.current) c.in-Ok-Goes.next c.in-Ok-Goes.made l.acts.items c.next_stage.new.acts.items l.taken
          l.invariant.1 g c.in-Ok-Goes.ensures.acts,
    )
