use Rattle.std.proofs.Common.{arith}
use Rattle.cf_typing.proofs.Lengths.{bounds_step}
use Rattle.cf_typing.proofs.form.are_bounds.Goals as goal

pub loop-bound-preserved : goal.loop-bound-preserved
loop-bound-preserved c =
    let l = c.loop-bound in
    bounds_step c.args.bounds.now l.bound-index l.tuples c.saturating_mul-tuples.result _ (omega arith) c.if-bound-eq0.false c.saturating_mul-tuples.ensures
    l.invariant.0 l.invariant.1
