-- The relation of a choose at the values of the variables in scope: each number variable of them is the literal of its value. Sets stay variables.
use Rattle.std.specs.Prelude.{ℕ, nat_lt, List, if◌then◌else◌}
use Rattle.cf_tree.specs.Leaves.{term_with, rel_with}
use Rattle.cf_tree.specs.RelTree.{TermTree, set_var, term_lit, term_var, RelTree}
use Rattle.cf_tree.specs.Values.{Value, number_of, value_at}

-- a number variable, where n variables are in scope; an output, which stands behind them, stays
abbrev pub variable_known : ℕ → ℕ → List Value → TermTree
variable_known n x env = if nat_lt x n then term_lit (number_of (value_at env x)) else term_var x

abbrev pub term_known : ℕ → TermTree → List Value → TermTree
term_known n t env = term_with (λ x. variable_known n x env) set_var t

-- the relation of a choose with n variables in scope, which have these values
abbrev pub rel_known : ℕ → RelTree → List Value → RelTree
rel_known n r env = rel_with (λ x. variable_known n x env) set_var r
