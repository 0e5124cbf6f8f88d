-- The plain states that states of the program stand for.
use Rattle.std.specs.Prelude.{ℕ, ℤ, map}
use Rattle.cf_linear.specs.Rows.{Row}
use Rattle.cf_formula.specs.declared.state.Columns.{Columns as DeclaredColumns}
use Rattle.cf_formula.specs.declared.state.Shared.{Shared}
use Rattle.cf_formula.specs.declared.state.State.{State as DeclaredState}
use Rattle.cf_formula.specs.ConditionsView.{conditions_of}
use Rattle.cf_formula.specs.States.{Columns, State}

abbrev pub columns_of : DeclaredColumns → Columns
columns_of c = record { known = c.known.items; unknown = c.unknown.items; next = c.next }

abbrev pub shared_of : Shared → ℕ × Row × ℤ
shared_of s = (s.column, s.row, s.k)

abbrev pub state_of : DeclaredState → State
state_of s = record {
  columns = columns_of s.columns;
  facts = s.facts.items;
  shared = map shared_of s.shared.items;
  conditions = conditions_of s.conditions;
  needs = s.needs;
  tuples = s.tuples;
}
