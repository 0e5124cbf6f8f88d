use Rattle.std.proofs.Common.{arith}
use Rattle.cf_linear.specs.Views.{plain_layout}
use Rattle.cf_read.proofs.WholeLaws.{columns_low}
use Rattle.cf_read.proofs.whole.has_columns.Goals as goal

pub returns : goal.returns
returns c h =
    let k = c.are_few.ensures h in
    columns_low (plain_layout c.args.layout.now) c.requires (omega (arith, c.len.ensures, k.0), omega (arith, c.len-2.ensures, k.1))
