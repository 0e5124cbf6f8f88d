-- What an expression is as a part of a relation.
--
-- The linear forms are: of truth `true`, `false`, `&&`, `||`, `!`, comparisons of numbers, `==`, `!=` and `subset` of sets, and `divides`;
-- of numbers literals, variables, `card`, `+`, `-`, `div`, `mod`, `abs`, and a product with a side that holds no card, div or mod, and of the variables
-- only those that count as known, the outermost ones;
-- of sets variables, `{}`, `union`, `inter` and `diff`.
use Rattle.std.specs.Prelude.{ℕ, Bool, true, false, ◌||◌, Option, Some, None, if◌then◌else◌}
use Rattle.cf_tree.specs.declared.base.Base.{Base}
use Rattle.cf_tree.specs.declared.base.Base.TheVariants.{Int, Bool as Truth, Set}
use Rattle.cf_tree.specs.declared.base.Order.{Order}
use Rattle.cf_tree.specs.declared.base.Order.TheVariants.{Eq, Ne, Lt, Le, Gt, Ge}
use Rattle.cf_tree.specs.declared.base.Place.{Place}
use Rattle.cf_tree.specs.declared.raw.BinOp.{BinOp}
use Rattle.cf_tree.specs.declared.raw.BinOp.TheVariants.{Add, Sub, Mul, And, Or, Union, Inter, Diff, Subset, Implies, Compare}
use Rattle.cf_tree.specs.RelTree.{SetTree, set_var, union_of, inter_of, diff_of, TermTree, term_var, term_add, term_sub, term_mul, RelTree, rel_true, rel_false, rel_compare, rel_same_set, rel_other_set, rel_subset, rel_and, rel_or}
use Rattle.cf_program.specs.LateLinear.{is_fixed_below}

-- a relation, a number form or a set form, or the place of the first form that is not linear, where parts come before the whole
pub data Reading : Type 0 where
  relation : RelTree → Reading
  term : TermTree → Reading
  set : SetTree → Reading
  not_linear : Place → Reading

-- where the first form stands that is not linear
abbrev pub first_nonlinear : Reading → Option Place
first_nonlinear (relation r) = None
first_nonlinear (term t) = None
first_nonlinear (set s) = None
first_nonlinear (not_linear p) = Some p

abbrev pub earlier_nonlinear : Option Place → Option Place → Option Place
earlier_nonlinear (Some p) q = Some p
earlier_nonlinear None q = q

-- a form at p that is no linear form, whose parts bend there first
abbrev pub not_linear_at : Option Place → Place → Reading
not_linear_at (Some q) p = not_linear q
not_linear_at None p = not_linear p

-- a form at p over one part, which is a relation, a number form or a set form
abbrev pub on_relation : (RelTree → Reading) → Place → Reading → Reading
on_relation f p (relation r) = f r
on_relation f p (term t) = not_linear p
on_relation f p (set s) = not_linear p
on_relation f p (not_linear q) = not_linear q

abbrev pub on_term : (TermTree → Reading) → Place → Reading → Reading
on_term f p (relation r) = not_linear p
on_term f p (term t) = f t
on_term f p (set s) = not_linear p
on_term f p (not_linear q) = not_linear q

abbrev pub on_set : (SetTree → Reading) → Place → Reading → Reading
on_set f p (relation r) = not_linear p
on_set f p (term t) = not_linear p
on_set f p (set s) = f s
on_set f p (not_linear q) = not_linear q

abbrev pub truth_reading : Bool → Reading
truth_reading true = relation rel_true
truth_reading false = relation rel_false

-- a truth variable is not linear
abbrev pub variable_reading : Place → Base → ℕ → Reading
variable_reading p Int x = term (term_var x)
variable_reading p Truth x = not_linear p
variable_reading p Set x = set (set_var x)

-- a product where so many of the outermost variables count as known
abbrev pub product_reading : ℕ → Place → TermTree → TermTree → Reading
product_reading known p a b = if is_fixed_below known a || is_fixed_below known b then term (term_mul a b) else not_linear p

abbrev pub sets_reading : Order → Place → SetTree → SetTree → Reading
sets_reading Eq p a b = relation (rel_same_set a b)
sets_reading Ne p a b = relation (rel_other_set a b)
sets_reading Lt p a b = not_linear p
sets_reading Le p a b = not_linear p
sets_reading Gt p a b = not_linear p
sets_reading Ge p a b = not_linear p

-- == and != of truth values are not linear
abbrev pub compare_reading : Order → Place → Reading → Reading → Reading
compare_reading order p (relation r) right = not_linear_at (first_nonlinear right) p
compare_reading order p (term a) right = on_term (λ b. relation (rel_compare order a b)) p right
compare_reading order p (set a) right = on_set (sets_reading order p a) p right
compare_reading order p (not_linear q) right = not_linear q

abbrev pub binary_reading : ℕ → BinOp → Place → Reading → Reading → Reading
binary_reading known Add p left right = on_term (λ a. on_term (λ b. term (term_add a b)) p right) p left
binary_reading known Sub p left right = on_term (λ a. on_term (λ b. term (term_sub a b)) p right) p left
binary_reading known Mul p left right = on_term (λ a. on_term (product_reading known p a) p right) p left
binary_reading known And p left right = on_relation (λ a. on_relation (λ b. relation (rel_and a b)) p right) p left
binary_reading known Or p left right = on_relation (λ a. on_relation (λ b. relation (rel_or a b)) p right) p left
binary_reading known Union p left right = on_set (λ a. on_set (λ b. set (union_of a b)) p right) p left
binary_reading known Inter p left right = on_set (λ a. on_set (λ b. set (inter_of a b)) p right) p left
binary_reading known Diff p left right = on_set (λ a. on_set (λ b. set (diff_of a b)) p right) p left
binary_reading known Subset p left right = on_set (λ a. on_set (λ b. relation (rel_subset a b)) p right) p left
-- implication is a form of edition 3, whose relations are not read
binary_reading known Implies p left right = not_linear_at (earlier_nonlinear (first_nonlinear left) (first_nonlinear right)) p
binary_reading known (Compare order) p left right = compare_reading order p left right
