use Rattle.cf_linear.specs.Views.{plain_layout}
use Rattle.cf_formula.specs.FormulaView.{formula_trees}
use Rattle.cf_formula.proofs.WritingCode.{regions_made}
use Rattle.cf_formula.proofs.writing.push_regions.Goals as goal

pub returns : goal.returns
returns c =
    regions_made (plain_layout c.args.layout.now) (formula_trees c.args.parts.now.items) (formula_trees c.push_equal.new.parts.items)
    (formula_trees c.push_at_least.new.parts.items) c.new-sums.result.items c.add_inputs.new.rows.items c.new-counts.result.items
    c.add_counts.new.rows.items c.new-sums.ensures.items c.in_ok-add_inputs.ensures (rw c.deref.ensures.value at c.in_ok-push_equal.ensures)
    c.new-counts.ensures.items c.in_ok-add_counts.ensures (rw c.deref-2.ensures.value at c.in_ok-push_at_least.ensures)
