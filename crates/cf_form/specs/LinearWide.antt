-- Which wide relations are linear. What an `if` holds is what its branches hold, the test left out; the other forms hold what their parts hold.
use Rattle.std.specs.Prelude.{ℕ, nat_lt, Bool, true, false, ◌&&◌, ◌||◌, IsTrue}
use Rattle.cf_program.specs.declared.linearity.Linearity.{Linearity}
use Rattle.cf_program.specs.LateLinear.{known_in}
use Rattle.cf_form.specs.Wide.{WideTerm, wide_lit, wide_var, wide_card, wide_neg, wide_add, wide_sub, wide_mul, wide_div, wide_mod, wide_abs, wide_if, wide_min, wide_max, WideTerms, no_wides, wide_more, WideSet, wide_empty, wide_set, wide_union, wide_inter, wide_diff, wide_if_set, WideRel, wide_true, wide_false, wide_truth, wide_compare, wide_same_set, wide_other_set, wide_subset, wide_divides, wide_not, wide_and, wide_or, wide_implies, wide_same, wide_other, wide_if_truth, wide_chain}

-- whether a number form holds no variable from level n on, no card, no div and no mod: for n = 0 it is constant, and behind n variables in scope it is known
abbrev mutual
  pub is_held_below : ℕ → WideTerm → Bool
  is_held_below n (wide_lit k) = true
  is_held_below n (wide_var x) = nat_lt x n
  is_held_below n (wide_card s) = false
  is_held_below n (wide_neg a) = is_held_below n a
  is_held_below n (wide_add a b) = is_held_below n a && is_held_below n b
  is_held_below n (wide_sub a b) = is_held_below n a && is_held_below n b
  is_held_below n (wide_mul a b) = is_held_below n a && is_held_below n b
  is_held_below n (wide_div a k) = false
  is_held_below n (wide_mod a k) = false
  is_held_below n (wide_abs a) = is_held_below n a
  is_held_below n (wide_if c a b) = is_held_below n a && is_held_below n b
  is_held_below n (wide_min ts) = are_held_below n ts
  is_held_below n (wide_max ts) = are_held_below n ts

  pub are_held_below : ℕ → WideTerms → Bool
  are_held_below n no_wides = true
  are_held_below n (wide_more t ts) = is_held_below n t && are_held_below n ts

abbrev pub is_constant : WideTerm → Bool
is_constant = is_held_below 0

-- each product, also in tests, has a side that holds no more than the n outermost variables
abbrev mutual
  pub IsLinearWideTerm : ℕ → WideTerm → Type 0
  IsLinearWideTerm n (wide_lit k) = Unit {0}
  IsLinearWideTerm n (wide_var x) = Unit {0}
  IsLinearWideTerm n (wide_card s) = IsLinearWideSet n s
  IsLinearWideTerm n (wide_neg a) = IsLinearWideTerm n a
  IsLinearWideTerm n (wide_add a b) = IsLinearWideTerm n a × IsLinearWideTerm n b
  IsLinearWideTerm n (wide_sub a b) = IsLinearWideTerm n a × IsLinearWideTerm n b
  IsLinearWideTerm n (wide_mul a b) = IsLinearWideTerm n a × IsLinearWideTerm n b × IsTrue (is_held_below n a || is_held_below n b)
  IsLinearWideTerm n (wide_div a k) = IsLinearWideTerm n a
  IsLinearWideTerm n (wide_mod a k) = IsLinearWideTerm n a
  IsLinearWideTerm n (wide_abs a) = IsLinearWideTerm n a
  IsLinearWideTerm n (wide_if c a b) = IsLinearWide n c × IsLinearWideTerm n a × IsLinearWideTerm n b
  IsLinearWideTerm n (wide_min ts) = AreLinearWideTerms n ts
  IsLinearWideTerm n (wide_max ts) = AreLinearWideTerms n ts

  pub AreLinearWideTerms : ℕ → WideTerms → Type 0
  AreLinearWideTerms n no_wides = Unit {0}
  AreLinearWideTerms n (wide_more t ts) = IsLinearWideTerm n t × AreLinearWideTerms n ts

  pub IsLinearWideSet : ℕ → WideSet → Type 0
  IsLinearWideSet n wide_empty = Unit {0}
  IsLinearWideSet n (wide_set x) = Unit {0}
  IsLinearWideSet n (wide_union a b) = IsLinearWideSet n a × IsLinearWideSet n b
  IsLinearWideSet n (wide_inter a b) = IsLinearWideSet n a × IsLinearWideSet n b
  IsLinearWideSet n (wide_diff a b) = IsLinearWideSet n a × IsLinearWideSet n b
  IsLinearWideSet n (wide_if_set c a b) = IsLinearWide n c × IsLinearWideSet n a × IsLinearWideSet n b

  pub IsLinearWide : ℕ → WideRel → Type 0
  IsLinearWide n wide_true = Unit {0}
  IsLinearWide n wide_false = Unit {0}
  IsLinearWide n (wide_truth x) = Unit {0}
  IsLinearWide n (wide_compare o a b) = IsLinearWideTerm n a × IsLinearWideTerm n b
  IsLinearWide n (wide_same_set a b) = IsLinearWideSet n a × IsLinearWideSet n b
  IsLinearWide n (wide_other_set a b) = IsLinearWideSet n a × IsLinearWideSet n b
  IsLinearWide n (wide_subset a b) = IsLinearWideSet n a × IsLinearWideSet n b
  IsLinearWide n (wide_divides k t) = IsLinearWideTerm n t
  IsLinearWide n (wide_not p) = IsLinearWide n p
  IsLinearWide n (wide_and p q) = IsLinearWide n p × IsLinearWide n q
  IsLinearWide n (wide_or p q) = IsLinearWide n p × IsLinearWide n q
  IsLinearWide n (wide_implies p q) = IsLinearWide n p × IsLinearWide n q
  IsLinearWide n (wide_same p q) = IsLinearWide n p × IsLinearWide n q
  IsLinearWide n (wide_other p q) = IsLinearWide n p × IsLinearWide n q
  IsLinearWide n (wide_if_truth c p q) = IsLinearWide n c × IsLinearWide n p × IsLinearWide n q
  IsLinearWide n (wide_chain orders ts) = AreLinearWideTerms n ts

-- a relation behind s variables in scope, by a linearity
abbrev pub IsLinearBehind : Linearity → ℕ → WideRel → Type 0
IsLinearBehind how s r = IsLinearWide (known_in how s) r
