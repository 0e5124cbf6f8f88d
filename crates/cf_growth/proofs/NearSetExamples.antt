-- Which sets are near: how many elements they have, and where these come from; and how far numbers go by what is in scope.
use Rattle.std.proofs.Common.{◌≡◌, ◌<◌, ℤ, pos, negsuc, unsigned_abs, List, [], ◌∷◌, ◌++◌, true, false, inl, inr, refl, subst, sym, ◌∙◌, arith}
use Rattle.cf_num.specs.Divisors.{gcd_by, factors_by}
use Rattle.cf_num.specs.Parts.{parts_of}
use Rattle.std.specs.Ordering.{int_eq}
use Rattle.cf_tree.proofs.SetLemmas.{on_bool, eq_is, eq_same, has-other}
use Rattle.cf_tree.specs.declared.base.Base.{Base}
use Rattle.cf_tree.specs.declared.base.Base.TheVariants.{Int, Set}
use Rattle.cf_tree.specs.declared.base.Order.TheVariants.{Eq}
use Rattle.cf_tree.specs.RelTree.{RelTree, rel_and, rel_compare, set_var, inter_of, term_card, term_lit}
use Rattle.cf_tree.specs.Sets.{has}
use Rattle.cf_tree.specs.Values.{Value, number, truth, elements, values, elements_of, value_at}
use Rattle.cf_linear.specs.Arm.{arm}
use Rattle.cf_linear.specs.Cases.{disjuncts, system_of_case, first_systems, write_atom}
use Rattle.cf_linear.specs.Chooses.{arms, growth_of_case, growth}
use Rattle.cf_linear.specs.Layout.{Layout, layout_of}
use Rattle.cf_linear.specs.Stages.{run, run_for, clean_stage, equation_stage, bound_stage, unknown_stage, row_stage, stage}
use Rattle.cf_linear.specs.Steps.{clean, mix, factors_of, merge, merge_passes, merge_factor, last, pick, searched, dropped, searched_by, bound, bound_passes, bound_factor}
use Rattle.cf_growth.specs.Overflowing.{NearChosen}
use Rattle.cf_growth.specs.Reaching.{size_of, size_at, parameters_size, reach, IsNear, IsNearElement, AreNear}

-- a number, an input set, an output set
abbrev layout : Layout
layout = record { scope = 2; numbers = 0 ∷ []; inputs = 1 ∷ []; out_numbers = []; out_sets = 2 ∷ [] }

-- 1000 is in scope as a number, and 900 as an element
abbrev held : List Value
held = number (pos 1000) ∷ elements (pos 900 ∷ pos 901 ∷ []) ∷ []

abbrev Near : Value → Type 0
Near v = IsNear 2 layout held v

absurd-false : {P : Type 0} → false ≡ true → P
absurd-false h = cc h

-- what holds of the first element and of those of the rest holds of each
one_more : (P : ℤ → Type 0) (x : ℤ) (xs : List ℤ) → P x → ((y : ℤ) → has xs y ≡ true → P y) → (y : ℤ) → has (x ∷ xs) y ≡ true → P y
one_more P x xs first rest y h = on_bool (int_eq x y) (λ e. subst P (eq_is x y e) first) (λ e. rest y (sym (has-other x xs y e) ∙ h))

-- ---- numbers and truth values
number-near : Near (number (negsuc 1))
number-near = omega arith

number-far : Near (number (negsuc 2)) → ⊥
number-far h = omega (arith, h)

number-of_scope : Near (number (pos 1000)) → ⊥
number-of_scope h = omega (arith, h)

truth-near : Near (truth true)
truth-near = tt

-- ---- elements
abbrev NearElement : ℤ → Type 0
NearElement y = IsNearElement 2 layout held y

small-near : NearElement (negsuc 1)
small-near = inl (omega arith)

-- 900 stands in the input set
held-near : NearElement (pos 900)
held-near = inr (1, inl refl, refl)

-- 3 is neither small nor there
three-far : NearElement (pos 3) → ⊥
three-far (inl l) = omega (arith, l)
three-far (inr (x, inl e, h)) = absurd-false (subst (λ n. has (elements_of (value_at held n)) (pos 3) ≡ true) e h)
three-far (inr (x, inr e, h)) = e

-- a number in scope is no element
number-no_element : NearElement (pos 1000) → ⊥
number-no_element (inl l) = omega (arith, l)
number-no_element (inr (x, inl e, h)) = absurd-false (subst (λ n. has (elements_of (value_at held n)) (pos 1000) ≡ true) e h)
number-no_element (inr (x, inr e, h)) = e

-- an output set is none from which elements come
output-no_source : IsNearElement 2 layout (held ++ elements (pos 77 ∷ []) ∷ []) (pos 77) → ⊥
output-no_source (inl l) = omega (arith, l)
output-no_source (inr (x, inl e, h)) = absurd-false (subst (λ n. has (elements_of (value_at (held ++ elements (pos 77 ∷ []) ∷ []) n)) (pos 77) ≡ true) e h)
output-no_source (inr (x, inr e, h)) = e

-- ---- sets
two-near : Near (elements (pos 2 ∷ pos 900 ∷ []))
two-near = (omega arith, one_more NearElement (pos 2) (pos 900 ∷ []) (inl (omega arith)) (one_more NearElement (pos 900) [] held-near (λ y h. absurd-false h)))

-- one element too many
three-too_many : Near (elements (pos 1 ∷ pos 2 ∷ pos 900 ∷ [])) → ⊥
three-too_many h = omega (arith, h.0)

-- one of two is far
one-far : Near (elements (pos 1 ∷ pos 3 ∷ [])) → ⊥
one-far h = three-far (h.1 (pos 3) refl)

-- ---- all outputs
all-near : AreNear 2 layout held (number (pos 2) ∷ elements [] ∷ [])
all-near = (omega arith, ((omega arith, λ y h. absurd-false h), tt))

second-far : AreNear 2 layout held (elements [] ∷ number (pos 3) ∷ []) → ⊥
second-far h = omega (arith, h.1.0)

first-far : AreNear 2 layout held (number (pos 3) ∷ elements [] ∷ []) → ⊥
first-far h = omega (arith, h.0)

-- ---- sizes
size-negative : size_of (number (negsuc 6)) ≡ 7
size-negative = refl

size-truth : size_of (truth true) ≡ 0
size-truth = refl

size-set : size_of (elements (pos 900 ∷ pos 901 ∷ [])) ≡ 2
size-set = refl

size-of_both : size_at (0 ∷ 1 ∷ []) (number (pos 1) ∷ elements (pos 900 ∷ pos 901 ∷ []) ∷ []) ≡ 2
size-of_both = refl

size-of_none : size_at [] held ≡ 0
size-of_none = refl

size-by_number : parameters_size layout held ≡ 1000
size-by_number = refl

-- outputs do not count
size-by_set : parameters_size layout (number (pos 1) ∷ elements (pos 900 ∷ pos 901 ∷ []) ∷ elements (pos 1 ∷ pos 2 ∷ pos 3 ∷ []) ∷ []) ≡ 2
size-by_set = refl

-- ---- a whole choose
-- S has one element, which is not in A; a number and a set more in scope do not occur
abbrev outside : RelTree
outside = rel_and (rel_compare Eq (term_card (set_var 3)) (term_lit (pos 1))) (rel_compare Eq (term_card (inter_of (set_var 3) (set_var 0))) (term_lit (pos 0)))

abbrev scope : List Base
scope = Set ∷ Int ∷ Set ∷ []

abbrev given : List Value
given = elements (pos 900 ∷ pos 901 ∷ []) ∷ number (pos 5000) ∷ elements (pos 7 ∷ pos 8 ∷ pos 9 ∷ pos 3000 ∷ []) ∷ []

-- the growth is 8, and A has two elements
outside-reach : reach scope (Set ∷ []) outside given ≡ 24
unfolding arms arm first_systems disjuncts system_of_case write_atom run run_for stage clean_stage equation_stage bound_stage unknown_stage row_stage clean mix factors_of merge merge_passes merge_factor last pick searched dropped searched_by bound bound_passes bound_factor gcd_by factors_by parts_of growth growth_of_case
outside-reach = refl

abbrev Picks : ℤ → Type 0
Picks y = NearChosen 1 scope (Set ∷ []) outside given (values (elements (y ∷ []) ∷ []))

last-near : Picks (pos 24)
last-near = (
  (((pos 24 ∷ [], refl, (tt, tt)), tt), (refl, refl)),
  subst (λ n. AreNear n (layout_of scope (Set ∷ []) outside) given (elements (pos 24 ∷ []) ∷ [])) (sym outside-reach) ((omega arith, one_more _ (pos 24) [] (inl (omega arith)) (λ y h. absurd-false h)), tt),
)

far_element : (y : ℤ) → 24 < unsigned_abs y → has (pos 900 ∷ pos 901 ∷ []) y ≡ false → IsNearElement 24 (layout_of scope (Set ∷ []) outside) given y → ⊥
far_element y large apart (inl l) = omega (arith, large, l)
far_element y large apart (inr (x, inl e, h)) = absurd-false (sym apart ∙ subst (λ n. has (elements_of (value_at given n)) y ≡ true) e h)
far_element y large apart (inr (x, inr e, h)) = e

-- allowed as well, and far; so is an element of a set that does not occur
one_far : (y : ℤ) → 24 < unsigned_abs y → has (pos 900 ∷ pos 901 ∷ []) y ≡ false → Picks y → ⊥
one_far y large apart h =
    let near = subst (λ n. AreNear n (layout_of scope (Set ∷ []) outside) given (elements (y ∷ []) ∷ [])) outside-reach h.1 in
    far_element y large apart (near.0.1 y (rw (eq_same y y refl) refl))

next-far : Picks (pos 25) → ⊥
next-far = one_far (pos 25) (omega arith) refl

unused-far : Picks (pos 3000) → ⊥
unused-far = one_far (pos 3000) (omega arith) refl
