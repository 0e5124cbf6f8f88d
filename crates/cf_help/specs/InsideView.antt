-- What the calls in an expression are found to be, where it stands in a relation.
use Rattle.std.specs.Prelude.{ℕ, List, take}
use Rattle.cf_program.specs.Linear.{Held, Found, called}
use Rattle.cf_help.specs.LastNamed.{backwards}
use Rattle.cf_help.specs.declared.linear.Inside.{Inside}

-- unfolded only where a call is walked, so that goals about the walk stay small
unfoldable pub calls_in : Inside → List ℕ → List Held → Found
calls_in c = called c.inputs (backwards (take c.count c.callees.now))
