use Rattle.std.proofs.Common.{arith}
use Rattle.cf_tree.specs.RelView.{rel_tree}
use Rattle.cf_linear.specs.Views.{plain_layout}
use Rattle.cf_cases.proofs.FirstSystemLaws.{columns_fit}
use Rattle.cf_cases.proofs.first_systems.has_columns.Goals as goal

pub returns : goal.returns
returns c h =
    let k = c.are_few.ensures h in
    columns_fit (plain_layout c.args.layout.now) (rel_tree c.args.rel.now) c.size.result c.requires c.size.ensures
    (omega (arith, c.len.ensures, k.0), omega (arith, c.len-2.ensures, k.1), k.2)
