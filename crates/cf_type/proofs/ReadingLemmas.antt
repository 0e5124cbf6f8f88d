-- Readings of operations over parts of different kinds.
use Rattle.std.proofs.Common.{◌≡◌, ℕ, refl}
use Rattle.cf_tree.specs.declared.base.Place.{Place}
use Rattle.cf_tree.specs.declared.raw.BinOp.{BinOp}
use Rattle.cf_tree.specs.declared.raw.BinOp.TheVariants.{Add, Sub, Mul, And, Or, Union, Inter, Diff, Subset, Implies, Compare}
use Rattle.cf_tree.specs.RelTree.{RelTree, SetTree, TermTree}
use Rattle.cf_program.specs.Reading.{Reading, relation, term, set, not_linear, binary_reading}

pub relation_and_term : (known : ℕ) (op : BinOp) (p : Place) (r : RelTree) (t : TermTree) → binary_reading known op p (relation r) (term t) ≡ not_linear p
relation_and_term known Add p r t = refl
relation_and_term known Sub p r t = refl
relation_and_term known Mul p r t = refl
relation_and_term known And p r t = refl
relation_and_term known Or p r t = refl
relation_and_term known Union p r t = refl
relation_and_term known Inter p r t = refl
relation_and_term known Diff p r t = refl
relation_and_term known Subset p r t = refl
relation_and_term known Implies p r t = refl
relation_and_term known (Compare order) p r t = refl

pub relation_and_set : (known : ℕ) (op : BinOp) (p : Place) (r : RelTree) (s : SetTree) → binary_reading known op p (relation r) (set s) ≡ not_linear p
relation_and_set known Add p r s = refl
relation_and_set known Sub p r s = refl
relation_and_set known Mul p r s = refl
relation_and_set known And p r s = refl
relation_and_set known Or p r s = refl
relation_and_set known Union p r s = refl
relation_and_set known Inter p r s = refl
relation_and_set known Diff p r s = refl
relation_and_set known Subset p r s = refl
relation_and_set known Implies p r s = refl
relation_and_set known (Compare order) p r s = refl

pub term_and_relation : (known : ℕ) (op : BinOp) (p : Place) (t : TermTree) (r : RelTree) → binary_reading known op p (term t) (relation r) ≡ not_linear p
term_and_relation known Add p t r = refl
term_and_relation known Sub p t r = refl
term_and_relation known Mul p t r = refl
term_and_relation known And p t r = refl
term_and_relation known Or p t r = refl
term_and_relation known Union p t r = refl
term_and_relation known Inter p t r = refl
term_and_relation known Diff p t r = refl
term_and_relation known Subset p t r = refl
term_and_relation known Implies p t r = refl
term_and_relation known (Compare order) p t r = refl

pub term_and_set : (known : ℕ) (op : BinOp) (p : Place) (t : TermTree) (s : SetTree) → binary_reading known op p (term t) (set s) ≡ not_linear p
term_and_set known Add p t s = refl
term_and_set known Sub p t s = refl
term_and_set known Mul p t s = refl
term_and_set known And p t s = refl
term_and_set known Or p t s = refl
term_and_set known Union p t s = refl
term_and_set known Inter p t s = refl
term_and_set known Diff p t s = refl
term_and_set known Subset p t s = refl
term_and_set known Implies p t s = refl
term_and_set known (Compare order) p t s = refl

pub set_and_relation : (known : ℕ) (op : BinOp) (p : Place) (s : SetTree) (r : RelTree) → binary_reading known op p (set s) (relation r) ≡ not_linear p
set_and_relation known Add p s r = refl
set_and_relation known Sub p s r = refl
set_and_relation known Mul p s r = refl
set_and_relation known And p s r = refl
set_and_relation known Or p s r = refl
set_and_relation known Union p s r = refl
set_and_relation known Inter p s r = refl
set_and_relation known Diff p s r = refl
set_and_relation known Subset p s r = refl
set_and_relation known Implies p s r = refl
set_and_relation known (Compare order) p s r = refl

pub set_and_term : (known : ℕ) (op : BinOp) (p : Place) (s : SetTree) (t : TermTree) → binary_reading known op p (set s) (term t) ≡ not_linear p
set_and_term known Add p s t = refl
set_and_term known Sub p s t = refl
set_and_term known Mul p s t = refl
set_and_term known And p s t = refl
set_and_term known Or p s t = refl
set_and_term known Union p s t = refl
set_and_term known Inter p s t = refl
set_and_term known Diff p s t = refl
set_and_term known Subset p s t = refl
set_and_term known Implies p s t = refl
set_and_term known (Compare order) p s t = refl

pub bent_left : (known : ℕ) (op : BinOp) (p : Place) (q : Place) (right : Reading) → binary_reading known op p (not_linear q) right ≡ not_linear q
bent_left known Add p q right = refl
bent_left known Sub p q right = refl
bent_left known Mul p q right = refl
bent_left known And p q right = refl
bent_left known Or p q right = refl
bent_left known Union p q right = refl
bent_left known Inter p q right = refl
bent_left known Diff p q right = refl
bent_left known Subset p q right = refl
bent_left known Implies p q right = refl
bent_left known (Compare order) p q right = refl
