-- Wide relations: relations, number forms and set forms as they stand in a source once its lets and calls are expanded. They are those of a lowered choose, and
-- beside them truth variables, `if`, `min`, `max`, chains, `==>`, and `==` and `!=` of truth values.
use Rattle.std.specs.Prelude.{ℕ, ℤ, Bool, true, false, ◌&&◌, ◌||◌, ◌==◌, List}
use Rattle.cf_tree.specs.declared.base.Order.{Order}

mutual
  pub data WideTerm : Type 0 where
    wide_lit : ℤ → WideTerm
    wide_var : ℕ → WideTerm
    wide_card : WideSet → WideTerm
    wide_neg : WideTerm → WideTerm
    wide_add : WideTerm → WideTerm → WideTerm
    wide_sub : WideTerm → WideTerm → WideTerm
    wide_mul : WideTerm → WideTerm → WideTerm
    wide_div : WideTerm → ℤ → WideTerm
    wide_mod : WideTerm → ℤ → WideTerm
    wide_abs : WideTerm → WideTerm
    wide_if : WideRel → WideTerm → WideTerm → WideTerm
    wide_min : WideTerms → WideTerm
    wide_max : WideTerms → WideTerm

  pub data WideTerms : Type 0 where
    no_wides : WideTerms
    wide_more : WideTerm → WideTerms → WideTerms

  pub data WideSet : Type 0 where
    wide_empty : WideSet
    wide_set : ℕ → WideSet
    wide_union : WideSet → WideSet → WideSet
    wide_inter : WideSet → WideSet → WideSet
    wide_diff : WideSet → WideSet → WideSet
    wide_if_set : WideRel → WideSet → WideSet → WideSet

  -- `wide_same` and `wide_other` are `==` and `!=` of truth values
  pub data WideRel : Type 0 where
    wide_true : WideRel
    wide_false : WideRel
    wide_truth : ℕ → WideRel
    wide_compare : Order → WideTerm → WideTerm → WideRel
    wide_same_set : WideSet → WideSet → WideRel
    wide_other_set : WideSet → WideSet → WideRel
    wide_subset : WideSet → WideSet → WideRel
    wide_divides : ℤ → WideTerm → WideRel
    wide_not : WideRel → WideRel
    wide_and : WideRel → WideRel → WideRel
    wide_or : WideRel → WideRel → WideRel
    wide_implies : WideRel → WideRel → WideRel
    wide_same : WideRel → WideRel → WideRel
    wide_other : WideRel → WideRel → WideRel
    wide_if_truth : WideRel → WideRel → WideRel → WideRel
    wide_chain : List Order → WideTerms → WideRel

-- whether no new form stands there
abbrev pub is_plain_set : WideSet → Bool
is_plain_set wide_empty = true
is_plain_set (wide_set x) = true
is_plain_set (wide_union a b) = is_plain_set a && is_plain_set b
is_plain_set (wide_inter a b) = is_plain_set a && is_plain_set b
is_plain_set (wide_diff a b) = is_plain_set a && is_plain_set b
is_plain_set (wide_if_set c a b) = false

abbrev pub is_plain_term : WideTerm → Bool
is_plain_term (wide_lit k) = true
is_plain_term (wide_var x) = true
is_plain_term (wide_card s) = is_plain_set s
is_plain_term (wide_neg a) = is_plain_term a
is_plain_term (wide_add a b) = is_plain_term a && is_plain_term b
is_plain_term (wide_sub a b) = is_plain_term a && is_plain_term b
is_plain_term (wide_mul a b) = is_plain_term a && is_plain_term b
is_plain_term (wide_div a k) = is_plain_term a
is_plain_term (wide_mod a k) = is_plain_term a
is_plain_term (wide_abs a) = is_plain_term a
is_plain_term (wide_if c a b) = false
is_plain_term (wide_min ts) = false
is_plain_term (wide_max ts) = false

abbrev pub is_plain : WideRel → Bool
is_plain wide_true = true
is_plain wide_false = true
is_plain (wide_truth x) = false
is_plain (wide_compare o a b) = is_plain_term a && is_plain_term b
is_plain (wide_same_set a b) = is_plain_set a && is_plain_set b
is_plain (wide_other_set a b) = is_plain_set a && is_plain_set b
is_plain (wide_subset a b) = is_plain_set a && is_plain_set b
is_plain (wide_divides k t) = is_plain_term t
is_plain (wide_not p) = is_plain p
is_plain (wide_and p q) = is_plain p && is_plain q
is_plain (wide_or p q) = is_plain p && is_plain q
is_plain (wide_implies p q) = false
is_plain (wide_same p q) = false
is_plain (wide_other p q) = false
is_plain (wide_if_truth c p q) = false
is_plain (wide_chain orders ts) = false

-- whether the truth variable of level x stands there
abbrev mutual
  pub term_has_truth : ℕ → WideTerm → Bool
  term_has_truth x (wide_lit k) = false
  term_has_truth x (wide_var y) = false
  term_has_truth x (wide_card s) = set_has_truth x s
  term_has_truth x (wide_neg a) = term_has_truth x a
  term_has_truth x (wide_add a b) = term_has_truth x a || term_has_truth x b
  term_has_truth x (wide_sub a b) = term_has_truth x a || term_has_truth x b
  term_has_truth x (wide_mul a b) = term_has_truth x a || term_has_truth x b
  term_has_truth x (wide_div a k) = term_has_truth x a
  term_has_truth x (wide_mod a k) = term_has_truth x a
  term_has_truth x (wide_abs a) = term_has_truth x a
  term_has_truth x (wide_if c a b) = has_truth x c || term_has_truth x a || term_has_truth x b
  term_has_truth x (wide_min ts) = some_has_truth x ts
  term_has_truth x (wide_max ts) = some_has_truth x ts

  pub some_has_truth : ℕ → WideTerms → Bool
  some_has_truth x no_wides = false
  some_has_truth x (wide_more t ts) = term_has_truth x t || some_has_truth x ts

  pub set_has_truth : ℕ → WideSet → Bool
  set_has_truth x wide_empty = false
  set_has_truth x (wide_set y) = false
  set_has_truth x (wide_union a b) = set_has_truth x a || set_has_truth x b
  set_has_truth x (wide_inter a b) = set_has_truth x a || set_has_truth x b
  set_has_truth x (wide_diff a b) = set_has_truth x a || set_has_truth x b
  set_has_truth x (wide_if_set c a b) = has_truth x c || set_has_truth x a || set_has_truth x b

  pub has_truth : ℕ → WideRel → Bool
  has_truth x wide_true = false
  has_truth x wide_false = false
  has_truth x (wide_truth y) = x == y
  has_truth x (wide_compare o a b) = term_has_truth x a || term_has_truth x b
  has_truth x (wide_same_set a b) = set_has_truth x a || set_has_truth x b
  has_truth x (wide_other_set a b) = set_has_truth x a || set_has_truth x b
  has_truth x (wide_subset a b) = set_has_truth x a || set_has_truth x b
  has_truth x (wide_divides k t) = term_has_truth x t
  has_truth x (wide_not p) = has_truth x p
  has_truth x (wide_and p q) = has_truth x p || has_truth x q
  has_truth x (wide_or p q) = has_truth x p || has_truth x q
  has_truth x (wide_implies p q) = has_truth x p || has_truth x q
  has_truth x (wide_same p q) = has_truth x p || has_truth x q
  has_truth x (wide_other p q) = has_truth x p || has_truth x q
  has_truth x (wide_if_truth c p q) = has_truth x c || has_truth x p || has_truth x q
  has_truth x (wide_chain orders ts) = some_has_truth x ts
