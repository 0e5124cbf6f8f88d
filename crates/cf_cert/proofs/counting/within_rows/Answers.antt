use Rattle.std.proofs.Common.{◌≡◌, ◌-◌, subst, arith}
use Rattle.cf_linear.specs.declared.refusal.LimitKind.TheVariants.{Rows}
use Rattle.cf_linear.specs.Stages.{limits}
use Rattle.cf_linear.specs.Steps.{clean}
use Rattle.cf_linear.specs.Systems.{rows_of}
use Rattle.cf_linear.specs.Views.{system_of}
use Rattle.cf_cert.specs.Counting.{AreAtMost}
use Rattle.cf_cert.proofs.CountLaws.{rows_left}
use Rattle.cf_cert.proofs.counting.within_rows.Goals as goal

pub returns : goal.returns
returns c =
    let m = system_of c.args.system.now in
    let e = rows_left m c.requires.formed in
    let f = rw (c.deref.ensures.value, c.deref-2.ensures.value) at c.repeats-gone.ensures.value in
    let is : c.row_count-rows.result - c.repeats-gone.result ≡ rows_of (clean m).system =
    omega (arith, e, c.row_count-rows.ensures.value, f) in
    subst (λ n. AreAtMost Rows limits.rows n c.within.result) is c.within.ensures
