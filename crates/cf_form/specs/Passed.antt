-- The first atom of a wide relation that has more alternatives than the limit, in the order in which its relation of language 2 comes to them: an atom before
-- the tests in it, and of an `if` in a form both branches before the test.
use Rattle.std.specs.Prelude.{ℕ, ◌*◌, nat_le, Option, Some, None, if◌then◌else◌, List, [], ◌∷◌}
use Rattle.cf_tree.specs.RelSize.{capped}
use Rattle.cf_form.specs.Alternatives.{set_count, term_count}
use Rattle.cf_form.specs.Wide.{WideTerm, wide_lit, wide_var, wide_card, wide_neg, wide_add, wide_sub, wide_mul, wide_div, wide_mod, wide_abs, wide_if, wide_min, wide_max, WideTerms, no_wides, wide_more, WideSet, wide_empty, wide_set, wide_union, wide_inter, wide_diff, wide_if_set, WideRel, wide_true, wide_false, wide_truth, wide_compare, wide_same_set, wide_other_set, wide_subset, wide_divides, wide_not, wide_and, wide_or, wide_implies, wide_same, wide_other, wide_if_truth, wide_chain}

abbrev pub earlier : Option ℕ → Option ℕ → Option ℕ
earlier (Some n) m = Some n
earlier None m = m

-- the number of alternatives of an atom, where it is above the limit
abbrev pub above : ℕ → Option ℕ
above n = if nat_le n 1024 then None else Some (capped n)

abbrev pub first_of : List (Option ℕ) → Option ℕ
first_of [] = None
first_of (n ∷ ns) = earlier n (first_of ns)

-- a side of a comparison: how many alternatives it has, and the first number above the limit in its tests
pub record Side : Type 0 where
  pub count : ℕ
  pub inner : Option ℕ

abbrev pub links_passed : List Side → Option ℕ
links_passed [] = None
links_passed (a ∷ []) = None
links_passed (a ∷ b ∷ sides) = earlier (above (a.count * b.count)) (earlier a.inner (earlier b.inner (links_passed (b ∷ sides))))

abbrev pub inners : List Side → Option ℕ
inners [] = None
inners (a ∷ sides) = earlier a.inner (inners sides)

abbrev mutual
  pub set_passed : WideSet → Option ℕ
  set_passed wide_empty = None
  set_passed (wide_set x) = None
  set_passed (wide_union a b) = earlier (set_passed a) (set_passed b)
  set_passed (wide_inter a b) = earlier (set_passed a) (set_passed b)
  set_passed (wide_diff a b) = earlier (set_passed a) (set_passed b)
  set_passed (wide_if_set c a b) = earlier (set_passed a) (earlier (set_passed b) (passed c))

  pub term_passed : WideTerm → Option ℕ
  term_passed (wide_lit k) = None
  term_passed (wide_var x) = None
  term_passed (wide_card s) = set_passed s
  term_passed (wide_neg a) = term_passed a
  term_passed (wide_add a b) = earlier (term_passed a) (term_passed b)
  term_passed (wide_sub a b) = earlier (term_passed a) (term_passed b)
  term_passed (wide_mul a b) = earlier (term_passed a) (term_passed b)
  term_passed (wide_div a k) = term_passed a
  term_passed (wide_mod a k) = term_passed a
  term_passed (wide_abs a) = term_passed a
  term_passed (wide_if c a b) = earlier (term_passed a) (earlier (term_passed b) (passed c))
  term_passed (wide_min ts) = inners (sides ts)
  term_passed (wide_max ts) = inners (sides ts)

  pub sides : WideTerms → List Side
  sides no_wides = []
  sides (wide_more t ts) = record { count = term_count t; inner = term_passed t } ∷ sides ts

  pub passed : WideRel → Option ℕ
  passed wide_true = None
  passed wide_false = None
  passed (wide_truth x) = None
  passed (wide_compare o a b) = first_of (above (term_count a * term_count b) ∷ term_passed a ∷ term_passed b ∷ [])
  passed (wide_same_set a b) = first_of (above (set_count a * set_count b) ∷ set_passed a ∷ set_passed b ∷ [])
  passed (wide_other_set a b) = first_of (above (set_count a * set_count b) ∷ set_passed a ∷ set_passed b ∷ [])
  passed (wide_subset a b) = first_of (above (set_count a * set_count b) ∷ set_passed a ∷ set_passed b ∷ [])
  passed (wide_divides k t) = earlier (above (term_count t)) (term_passed t)
  passed (wide_not p) = passed p
  passed (wide_and p q) = earlier (passed p) (passed q)
  passed (wide_or p q) = earlier (passed p) (passed q)
  passed (wide_implies p q) = earlier (passed p) (passed q)
  passed (wide_same p q) = earlier (passed p) (passed q)
  passed (wide_other p q) = earlier (passed p) (passed q)
  passed (wide_if_truth c p q) = first_of (passed c ∷ passed p ∷ passed q ∷ [])
  passed (wide_chain orders ts) = links_passed (sides ts)
