use Rattle.std.proofs.Common.{◌≡◌, ◌+◌, subst, arith}
use Rattle.cf_linear.specs.declared.refusal.LimitKind.TheVariants.{Columns}
use Rattle.cf_linear.specs.Stages.{limits}
use Rattle.cf_linear.specs.Steps.{clean}
use Rattle.cf_linear.specs.Systems.{columns_of}
use Rattle.cf_linear.specs.Views.{system_of}
use Rattle.cf_cert.specs.Counting.{AreAtMost}
use Rattle.cf_cert.proofs.CountLaws.{columns_left}
use Rattle.cf_cert.proofs.counting.within_columns.Goals as goal

pub returns : goal.returns
returns c =
    let m = system_of c.args.system.now in
    let e = columns_left m c.requires.formed in
    let f = rw (c.deref.ensures.value, c.deref-2.ensures.value) at c.made_columns-made.ensures.value in
    let is : c.column_count-columns.result + c.made_columns-made.result ≡ columns_of (clean m).system =
    omega (arith, e, c.column_count-columns.ensures.value, f) in
    subst (λ n. AreAtMost Columns limits.columns n c.within.result) is c.within.ensures
