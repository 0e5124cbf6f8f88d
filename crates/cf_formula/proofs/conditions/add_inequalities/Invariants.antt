use Rattle.std.proofs.Common.{◌≡◌, length, map}
use Rattle.std.specs.List.{list_any}
use Rattle.cf_formula.specs.Atoms.{ge}
use Rattle.cf_formula.specs.ConditionsView.{conditions_of}
use Rattle.cf_formula.specs.States.{add_all}
use Rattle.cf_formula.specs.SubstitutionView.{pairs_of}
use Rattle.cf_formula.specs.Turns.{subst_rows, rows_pass}
use Rattle.cf_formula.proofs.conditions.add_inequalities.Given as goal

abbrev pub invariant-loop-row : goal.invariant-loop-row
invariant-loop-row l = record {
  added : add_all (map (λ r. ge (subst_rows (pairs_of l.by.replacements.items) r)) l.rest) (conditions_of l.to) ≡ add_all
      (map (λ r. ge (subst_rows (pairs_of l.by.replacements.items) r)) l.rows) (conditions_of l.initial.to);
  fits : list_any (rows_pass (pairs_of l.by.replacements.items)) l.rest ≡ list_any (rows_pass (pairs_of l.by.replacements.items)) l.rows;
}

abbrev pub decreases-loop-row : goal.decreases-loop-row
decreases-loop-row l = length l.rest
