-- Plain trees of relations and of the number and set forms in them.
use Rattle.std.specs.Prelude.{ℕ, ℤ}
use Rattle.cf_tree.specs.declared.base.Order.{Order}

pub data SetTree : Type 0 where
  empty_set : SetTree
  set_var : ℕ → SetTree
  union_of : SetTree → SetTree → SetTree
  inter_of : SetTree → SetTree → SetTree
  diff_of : SetTree → SetTree → SetTree

pub data TermTree : Type 0 where
  term_lit : ℤ → TermTree
  term_var : ℕ → TermTree
  term_card : SetTree → TermTree
  term_neg : TermTree → TermTree
  term_add : TermTree → TermTree → TermTree
  term_sub : TermTree → TermTree → TermTree
  term_mul : TermTree → TermTree → TermTree
  term_div : TermTree → ℤ → TermTree
  term_mod : TermTree → ℤ → TermTree
  term_abs : TermTree → TermTree

pub data RelTree : Type 0 where
  rel_true : RelTree
  rel_false : RelTree
  rel_compare : Order → TermTree → TermTree → RelTree
  rel_same_set : SetTree → SetTree → RelTree
  rel_other_set : SetTree → SetTree → RelTree
  rel_subset : SetTree → SetTree → RelTree
  rel_divides : ℤ → TermTree → RelTree
  rel_and : RelTree → RelTree → RelTree
  rel_or : RelTree → RelTree → RelTree
  rel_not : RelTree → RelTree
