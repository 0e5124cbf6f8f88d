use Rattle.std.proofs.Common.{ℕ, ◌+◌, arith}
use Rattle.cf_linear.specs.Views.{system_of}
use Rattle.cf_elim.proofs.NextStageLaws.{counted_is}
use Rattle.cf_elim.proofs.counts.within_counts.Goals as goal

pub returns : goal.returns
returns c =
    let rows : ℕ = c.len.result + c.len-2.result + c.args.system.now.needs + 0 in
    let columns : ℕ = c.len-3.result + c.len-4.result + 0 + 0 in
    counted_is (system_of c.args.system.now) rows columns c.sum-rows.result c.sum-columns.result c.within.result
    (record { rows_are = omega (arith, c.len.ensures, c.len-2.ensures); columns_are = omega (arith, c.len-3.ensures, c.len-4.ensures) })
    c.sum-rows.ensures c.sum-columns.ensures c.within.ensures
