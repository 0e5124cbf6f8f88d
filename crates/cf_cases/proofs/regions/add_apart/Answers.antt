use Rattle.std.proofs.Common.{refl}
use Rattle.cf_tree.specs.RelView.{set_tree}
use Rattle.cf_linear.specs.Views.{plain_layout}
use Rattle.cf_cases.specs.SystemBuilders.{rows_of, apart}
use Rattle.cf_cases.proofs.AddLaws.{empty_gives}
use Rattle.cf_cases.proofs.regions.add_apart.Goals as goal

pub returns-in_ok-added-clause-gives : goal.returns-in_ok-added-clause-gives
returns-in_ok-added-clause-gives c =
    empty_gives (plain_layout c.args.layout.now) (apart c.args.regions (plain_layout c.args.layout.now) (set_tree c.args.a.now) (set_tree c.args.b.now))
    (rows_of c.args.builder.now) c.args.empty c.in_ok-row.row c.add_columns-added.new.rows.items
    c.if-empty.true c.in_ok-row.ensures c.in_ok-added.ensures refl
