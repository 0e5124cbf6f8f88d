use Rattle.std.proofs.Common.{rules, sym, ◌∙◌, arith}
use Rattle.std.proofs.lemmas.Result.{err_from_is_err_and}
use Rattle.cf_steps.specs.Reading.{all_acts}
use Rattle.cf_steps.proofs.Turns.{acts_close, acts_end, acts_fail, acts_next}
use Rattle.cf_steps.proofs.step.acts.Goals as goal

pub returns-in_err-x-in-None : goal.returns-in_err-x-in-None
unfolding all_acts
returns-in_err-x-in-None c =
    let p = err_from_is_err_and c.from_residual.result c.from_residual.ensures.1 in
    rw (p.1, p.2, ← c.loop.invariant) (acts_fail _ _ _ _ c.in-None.ensures c.in_err-x-in-None.ensures (omega arith))

pub loop-preserved : goal.loop-preserved
loop-preserved c = acts_next _ _ _ _ _ _ _ _ c.in-None.ensures c.in_ok-x-in-None.ensures (omega arith) (search rules) c.loop.invariant

pub returns-in-Some : goal.returns-in-Some
unfolding all_acts
returns-in-Some c = sym c.loop.invariant ∙ acts_close _ _ _ _ _ c.in-Some.ensures (omega arith)

pub returns : goal.returns
unfolding all_acts
returns c = sym c.loop.invariant ∙ acts_end _ _ _ (omega arith)
