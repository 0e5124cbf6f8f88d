-- The plain tree of a form whose parts were changed in place.
use Rattle.std.proofs.Common.{◌≡◌, ℕ, ℤ, rules}
use Rattle.cf_tree.specs.declared.base.Order.{Order}
use Rattle.cf_tree.specs.declared.code.Code.{the_lemmas}
use Rattle.cf_tree.specs.declared.code.Code.TheViews.{Sub, Mul, Neg, Div, Mod, Compare, Divides, And, Or, Not, Diff, Subset, Card, Slice, Fresh, If, Code::Let}
use Rattle.cf_tree.specs.CodeTree.{code_sub, code_mul, code_neg, code_div, code_mod, code_compare, code_divides, code_and, code_or, code_not, code_diff, code_subset, code_card, code_slice, code_fresh, code_if, code_let}
use Rattle.cf_tree.specs.CodeView.{code_tree}

pub sub_tree : (a b : _) → code_tree (Sub a b) ≡ code_sub (code_tree a.value) (code_tree b.value)
sub_tree a b = search (rules, the_lemmas)

pub mul_tree : (a b : _) → code_tree (Mul a b) ≡ code_mul (code_tree a.value) (code_tree b.value)
mul_tree a b = search (rules, the_lemmas)

pub neg_tree : (a : _) → code_tree (Neg a) ≡ code_neg (code_tree a.value)
neg_tree a = search (rules, the_lemmas)

pub div_tree : (a : _) (k : ℤ) → code_tree (Div a k) ≡ code_div (code_tree a.value) k
div_tree a k = search (rules, the_lemmas)

pub mod_tree : (a : _) (k : ℤ) → code_tree (Mod a k) ≡ code_mod (code_tree a.value) k
mod_tree a k = search (rules, the_lemmas)

pub compare_tree : (o : Order) (a b : _) → code_tree (Compare o a b) ≡ code_compare o (code_tree a.value) (code_tree b.value)
compare_tree o a b = search (rules, the_lemmas)

pub divides_tree : (k : ℤ) (a : _) → code_tree (Divides k a) ≡ code_divides k (code_tree a.value)
divides_tree k a = search (rules, the_lemmas)

pub and_tree : (a b : _) → code_tree (And a b) ≡ code_and (code_tree a.value) (code_tree b.value)
and_tree a b = search (rules, the_lemmas)

pub or_tree : (a b : _) → code_tree (Or a b) ≡ code_or (code_tree a.value) (code_tree b.value)
or_tree a b = search (rules, the_lemmas)

pub not_tree : (a : _) → code_tree (Not a) ≡ code_not (code_tree a.value)
not_tree a = search (rules, the_lemmas)

pub diff_tree : (a b : _) → code_tree (Diff a b) ≡ code_diff (code_tree a.value) (code_tree b.value)
diff_tree a b = search (rules, the_lemmas)

pub subset_tree : (a b : _) → code_tree (Subset a b) ≡ code_subset (code_tree a.value) (code_tree b.value)
subset_tree a b = search (rules, the_lemmas)

pub card_tree : (a : _) → code_tree (Card a) ≡ code_card (code_tree a.value)
card_tree a = search (rules, the_lemmas)

pub slice_tree : (a b c : _) → code_tree (Slice a b c) ≡ code_slice (code_tree a.value) (code_tree b.value) (code_tree c.value)
slice_tree a b c = search (rules, the_lemmas)

pub fresh_tree : (a b : _) → code_tree (Fresh a b) ≡ code_fresh (code_tree a.value) (code_tree b.value)
fresh_tree a b = search (rules, the_lemmas)

pub if_tree : (a b c : _) → code_tree (If a b c) ≡ code_if (code_tree a.value) (code_tree b.value) (code_tree c.value)
if_tree a b c = search (rules, the_lemmas)

pub let_tree : (first bound : ℕ) (a b : _) → code_tree (Code::Let first bound a b) ≡ code_let first bound (code_tree a.value) (code_tree b.value)
let_tree first bound a b = search (rules, the_lemmas)
