-- Chooses as lists of marks: each form of a relation has a mark before its parts. What tells chooses apart is all but the names in their scopes.
use Rattle.std.specs.Prelude.{List, [], ◌∷◌, ◌++◌, drop}
use Rattle.cf_tree.specs.declared.base.Base.{Base}
use Rattle.cf_tree.specs.ChooseTree.{ChooseTree}
use Rattle.cf_tree.specs.RelTree.{SetTree, empty_set, set_var, union_of, inter_of, diff_of, TermTree, term_lit, term_var, term_card, term_neg, term_add, term_sub, term_mul, term_div, term_mod, term_abs, RelTree, rel_true, rel_false, rel_compare, rel_same_set, rel_other_set, rel_subset, rel_divides, rel_and, rel_or, rel_not}
use Rattle.cf_build.specs.declared.same.Mark.{Mark}
use Rattle.cf_build.specs.declared.same.Form.TheVariants.{True, False, SameSet, OtherSet, Subset, And, Or, Not, Card, Neg, Add, Sub, Mul, Abs, Empty, Union, Inter, Diff, End}
use Rattle.cf_build.specs.declared.same.Mark.TheVariants.{Form, Number, Of, Lit, Var, SetVar, Div, Mod, Compare, Divides}

abbrev pub set_marks : SetTree → List Mark
set_marks empty_set = Form Empty ∷ []
set_marks (set_var x) = SetVar x ∷ []
set_marks (union_of a b) = Form Union ∷ (set_marks a ++ set_marks b)
set_marks (inter_of a b) = Form Inter ∷ (set_marks a ++ set_marks b)
set_marks (diff_of a b) = Form Diff ∷ (set_marks a ++ set_marks b)

abbrev pub term_marks : TermTree → List Mark
term_marks (term_lit k) = Lit k ∷ []
term_marks (term_var x) = Var x ∷ []
term_marks (term_card s) = Form Card ∷ set_marks s
term_marks (term_neg a) = Form Neg ∷ term_marks a
term_marks (term_add a b) = Form Add ∷ (term_marks a ++ term_marks b)
term_marks (term_sub a b) = Form Sub ∷ (term_marks a ++ term_marks b)
term_marks (term_mul a b) = Form Mul ∷ (term_marks a ++ term_marks b)
term_marks (term_div a k) = Div k ∷ term_marks a
term_marks (term_mod a k) = Mod k ∷ term_marks a
term_marks (term_abs a) = Form Abs ∷ term_marks a

abbrev pub rel_marks : RelTree → List Mark
rel_marks rel_true = Form True ∷ []
rel_marks rel_false = Form False ∷ []
rel_marks (rel_compare o a b) = Compare o ∷ (term_marks a ++ term_marks b)
rel_marks (rel_same_set a b) = Form SameSet ∷ (set_marks a ++ set_marks b)
rel_marks (rel_other_set a b) = Form OtherSet ∷ (set_marks a ++ set_marks b)
rel_marks (rel_subset a b) = Form Subset ∷ (set_marks a ++ set_marks b)
rel_marks (rel_divides k a) = Divides k ∷ term_marks a
rel_marks (rel_and a b) = Form And ∷ (rel_marks a ++ rel_marks b)
rel_marks (rel_or a b) = Form Or ∷ (rel_marks a ++ rel_marks b)
rel_marks (rel_not a) = Form Not ∷ rel_marks a

-- the marks behind the first one
abbrev pub set_parts : SetTree → List Mark
set_parts s = drop 1 (set_marks s)

abbrev pub term_parts : TermTree → List Mark
term_parts t = drop 1 (term_marks t)

abbrev pub rel_parts : RelTree → List Mark
rel_parts r = drop 1 (rel_marks r)

abbrev pub bases_marks : List Base → List Mark
bases_marks [] = Form End ∷ []
bases_marks (b ∷ bs) = Of b ∷ bases_marks bs

abbrev pub choose_marks : ChooseTree → List Mark
choose_marks q = Number q.number ∷ (bases_marks q.scope ++ (bases_marks q.outputs ++ rel_marks q.relation))
