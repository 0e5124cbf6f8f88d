use Rattle.std.proofs.Common.{arith, refl}
use Rattle.cf_build.specs.Marks.{bases_marks}
use Rattle.cf_build.proofs.PutLaws.{at_next, put_end, put_next}
use Rattle.cf_build.proofs.same.put_bases.Goals as goal

pub loop-base-preserved : goal.loop-base-preserved
loop-base-preserved c =
    let l = c.loop-base in
    put_next _ _ _ _ _ _ c.in_ok-push.ensures.items (at_next bases_marks c.args.bases.now l.base-index _ _ (omega arith) refl) l.invariant

pub returns : goal.returns
returns c = put_end bases_marks c.args.bases.now c.loop-base.base-index _ _ _ (omega arith) c.in_ok-push-2.ensures.items c.loop-base.invariant
