-- The plain forms of alternatives, and the steps that make them.
use Rattle.std.specs.Prelude.{List, [], ◌∷◌, ◌++◌, map, Vec}
use Rattle.std.specs.Global.{Global}
use Rattle.cf_tree.specs.RelTree.{SetTree, TermTree, RelTree}
use Rattle.cf_tree.specs.RelView.{set_tree, term_tree, rel_tree}
use Rattle.cf_form.specs.declared.guarded.GuardedSet.{GuardedSet}
use Rattle.cf_form.specs.declared.guarded.GuardedTerm.{GuardedTerm}
use Rattle.cf_form.specs.Alternatives.{Guarded, all_of}

abbrev pub guarded_set : GuardedSet → Guarded SetTree
guarded_set x = record { guards = map rel_tree x.guards.items; form = set_tree x.form.value }

abbrev pub guarded_term : GuardedTerm → Guarded TermTree
guarded_term x = record { guards = map rel_tree x.guards.items; form = term_tree x.form.value }

abbrev pub with_form : {A B : Type 0} → (A → B) → Guarded A → Guarded B
with_form f x = record { guards = x.guards; form = f x.form }

abbrev pub with_guard : {A : Type 0} → RelTree → Guarded A → Guarded A
with_guard guard x = record { guards = guard ∷ x.guards; form = x.form }

abbrev pub pair_of : {A B C : Type 0} → (A → B → C) → Guarded A → Guarded B → Guarded C
pair_of f x y = record { guards = x.guards ++ y.guards; form = f x.form y.form }

-- an atom behind its guards
abbrev pub atom_of : (RelTree → RelTree) → Guarded RelTree → RelTree
atom_of last x = all_of (x.guards ++ last x.form ∷ [])

abbrev pub guarded_terms : Vec GuardedTerm Global → List (Guarded TermTree)
guarded_terms xs = map guarded_term xs.items
