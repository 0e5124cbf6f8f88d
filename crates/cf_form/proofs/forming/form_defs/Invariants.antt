use Rattle.std.proofs.Common.{◌≡◌, ◌++◌, map, take, drop}
use Rattle.cf_tree.specs.DefView.{def_tree}
use Rattle.cf_form.specs.Formed.{formed_behind, formed_defs}
use Rattle.cf_form.proofs.forming.form_defs.Given as goal

abbrev pub invariant-loop-index : goal.invariant-loop-index
invariant-loop-index l =
    map def_tree l.all.items ++ formed_behind (map def_tree (take l.index l.defs)) (map def_tree (drop l.index l.defs)) ≡ formed_defs (map def_tree l.defs)
