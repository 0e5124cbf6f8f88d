use Rattle.std.proofs.Common.{arith, refl}
use Rattle.cf_cert.specs.Marks.{bounds_marks}
use Rattle.cf_cert.proofs.PutLaws.{at_next, put_end, put_next}
use Rattle.cf_cert.proofs.marks.put_bounds.Goals as goal

pub loop-bound-preserved : goal.loop-bound-preserved
loop-bound-preserved c =
    let l = c.loop-bound in
    put_next _ _ _ _ _ _ c.in_ok-push.ensures.items (at_next bounds_marks c.args.bounds.now l.bound-index _ _ (omega arith) refl) l.invariant

pub returns : goal.returns
returns c = put_end bounds_marks c.args.bounds.now c.loop-bound.bound-index _ _ _ (omega arith) c.in_ok-push-2.ensures.items c.loop-bound.invariant
