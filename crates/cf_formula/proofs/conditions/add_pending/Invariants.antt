use Rattle.std.proofs.Common.{◌≡◌, length, map}
use Rattle.std.specs.List.{list_any}
use Rattle.cf_formula.specs.ConditionsView.{conditions_of}
use Rattle.cf_formula.specs.FormulaView.{formula_trees}
use Rattle.cf_formula.specs.Rewriting.{with_rows, some_atom}
use Rattle.cf_formula.specs.States.{add_all}
use Rattle.cf_formula.specs.SubstitutionView.{pairs_of}
use Rattle.cf_formula.specs.Turns.{subst_rows, rows_pass}
use Rattle.cf_formula.proofs.conditions.add_pending.Given as goal

abbrev pub invariant-loop-old : goal.invariant-loop-old
invariant-loop-old l = record {
  added : add_all (map (with_rows (subst_rows (pairs_of l.by.replacements.items))) (formula_trees l.rest)) (conditions_of l.to) ≡ add_all
      (map (with_rows (subst_rows (pairs_of l.by.replacements.items))) (formula_trees l.formulas)) (conditions_of l.initial.to);
  fits : list_any (some_atom (rows_pass (pairs_of l.by.replacements.items))) (formula_trees l.rest) ≡ list_any
      (some_atom (rows_pass (pairs_of l.by.replacements.items))) (formula_trees l.formulas);
}

abbrev pub decreases-loop-old : goal.decreases-loop-old
decreases-loop-old l = length l.rest
