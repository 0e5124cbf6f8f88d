-- What is in scope, as the program has it.
use Rattle.std.specs.Prelude.{ℕ, List, map, Option, option_map}
use Rattle.std.specs.Borrow.{Bor}
use Rattle.cf_tree.specs.declared.raw.RawDef.{RawDef}
use Rattle.cf_tree.specs.DefView.{RawDefTree, raw_def_tree}
use Rattle.cf_help.specs.Spots.{Binding, Around}
use Rattle.cf_help.specs.declared.scope.Binding.{Binding as Bound}
use Rattle.cf_help.specs.declared.scope.Around.{Around as Standing}

abbrev pub binding_seen : Bound → Binding
binding_seen v = record { name = v.name.now; base = v.base }

abbrev pub bindings_seen : List Bound → List Binding
bindings_seen vs = map binding_seen vs

abbrev pub defs_seen : List (Bor RawDef) → List RawDefTree
defs_seen ds = map (λ d. raw_def_tree d.now) ds

abbrev pub def_seen : Option (Bor RawDef) → Option RawDefTree
def_seen d = option_map (λ d. raw_def_tree d.now) d

abbrev pub around_by : List (Bor (List ℕ)) → List (Bor RawDef) → List RawDefTree → Around
around_by constants earlier functions = record { constants = map (λ n. n.now) constants; earlier = defs_seen earlier; functions = functions }

-- no walk has to see inside of it
unfoldable pub around_of : Standing → Around
around_of r = around_by r.constants.now r.earlier.now (defs_seen r.functions.now)
