use Rattle.cf_tree.specs.RelView.{set_tree}
use Rattle.cf_linear.specs.Views.{plain_layout}
use Rattle.cf_cases.proofs.AddLaws.{apart_row}
use Rattle.cf_cases.proofs.regions.apart.Goals as goal

pub returns : goal.returns
returns c =
    apart_row (plain_layout c.args.layout.now) c.args.regions (set_tree c.args.a.now) (set_tree c.args.b.now) (set_tree c.in_ok-form.form)
    c.region_row.result c.in_ok-form.ensures c.region_row.ensures
