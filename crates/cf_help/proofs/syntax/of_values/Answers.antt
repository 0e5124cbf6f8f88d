use Rattle.std.proofs.Common.{ap₂, ◌∙◌}
use Rattle.cf_help.specs.Rows.{or_else}
use Rattle.cf_help.specs.StopView.{kind_seen, kinds_seen}
use Rattle.cf_help.specs.Syntax.{rows_of_values}
use Rattle.cf_help.proofs.RowSteps.{split_rows}
use Rattle.cf_help.proofs.syntax.of_values.Goals as goal

pub returns : goal.returns
returns c =
    c.or_else.ensures
    ∙ ap₂ or_else c.of_braces.ensures c.of_most_values.ensures
    ∙ split_rows 3 (rows_of_values (kind_seen c.args.v) (kind_seen c.args.p) (kinds_seen c.args.before.now))
