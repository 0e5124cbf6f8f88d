-- What wide forms mean in an environment of values, and facts of all variables that stand in them.
use Rattle.std.specs.Prelude.{ℕ, ℤ, pos, ◌+ℤ◌, ◌-ℤ◌, ◌*ℤ◌, neg_ℤ, ◌≡◌, Bool, true, false, not, ◌&&◌, ◌||◌, if◌then◌else◌, List, [], ◌∷◌, length, map, slice_get, Some}
use Rattle.std.specs.Int.{int_max, int_min}
use Rattle.cf_num.specs.Limit.{IsWithin}
use Rattle.cf_tree.specs.declared.base.Base.{Base}
use Rattle.cf_tree.specs.declared.base.Base.TheVariants.{Int, Bool as Truth, Set}
use Rattle.cf_tree.specs.Allowed.{chained, best_of}
use Rattle.cf_tree.specs.Numbers.{quotient, remainder, is_multiple, absolute}
use Rattle.cf_tree.specs.Relation.{IsDivisor}
use Rattle.cf_tree.specs.Sets.{set_union, set_inter, set_diff, is_subset}
use Rattle.cf_tree.specs.Values.{Value, number, truth, elements, number_of, truth_of, elements_of, value_at, compared, same_list, same_truth}
use Rattle.cf_form.specs.Expansion.{Part, of_number, of_set, of_truth}
use Rattle.cf_form.specs.Wide.{WideTerm, wide_lit, wide_var, wide_card, wide_neg, wide_add, wide_sub, wide_mul, wide_div, wide_mod, wide_abs, wide_if, wide_min, wide_max, WideTerms, no_wides, wide_more, WideSet, wide_empty, wide_set, wide_union, wide_inter, wide_diff, wide_if_set, WideRel, wide_true, wide_false, wide_truth, wide_compare, wide_same_set, wide_other_set, wide_subset, wide_divides, wide_not, wide_and, wide_or, wide_implies, wide_same, wide_other, wide_if_truth, wide_chain}

abbrev mutual
  pub wide_value : WideTerm → List Value → ℤ
  wide_value (wide_lit k) env = k
  wide_value (wide_var x) env = number_of (value_at env x)
  wide_value (wide_card s) env = pos (length (wide_members s env))
  wide_value (wide_neg a) env = neg_ℤ (wide_value a env)
  wide_value (wide_add a b) env = wide_value a env +ℤ wide_value b env
  wide_value (wide_sub a b) env = wide_value a env -ℤ wide_value b env
  wide_value (wide_mul a b) env = wide_value a env *ℤ wide_value b env
  wide_value (wide_div a k) env = quotient (wide_value a env) k
  wide_value (wide_mod a k) env = remainder (wide_value a env) k
  wide_value (wide_abs a) env = absolute (wide_value a env)
  wide_value (wide_if c a b) env = if wide_holds c env then wide_value a env else wide_value b env
  wide_value (wide_min ts) env = best_of int_min (wide_values ts env)
  wide_value (wide_max ts) env = best_of int_max (wide_values ts env)

  pub wide_values : WideTerms → List Value → List ℤ
  wide_values no_wides env = []
  wide_values (wide_more t ts) env = wide_value t env ∷ wide_values ts env

  pub wide_members : WideSet → List Value → List ℤ
  wide_members wide_empty env = []
  wide_members (wide_set x) env = elements_of (value_at env x)
  wide_members (wide_union a b) env = set_union (wide_members a env) (wide_members b env)
  wide_members (wide_inter a b) env = set_inter (wide_members a env) (wide_members b env)
  wide_members (wide_diff a b) env = set_diff (wide_members a env) (wide_members b env)
  wide_members (wide_if_set c a b) env = if wide_holds c env then wide_members a env else wide_members b env

  -- whether a wide relation holds
  pub wide_holds : WideRel → List Value → Bool
  wide_holds wide_true env = true
  wide_holds wide_false env = false
  wide_holds (wide_truth x) env = truth_of (value_at env x)
  wide_holds (wide_compare o a b) env = compared o (number (wide_value a env)) (number (wide_value b env))
  wide_holds (wide_same_set a b) env = same_list (wide_members a env) (wide_members b env)
  wide_holds (wide_other_set a b) env = not (same_list (wide_members a env) (wide_members b env))
  wide_holds (wide_subset a b) env = is_subset (wide_members a env) (wide_members b env)
  wide_holds (wide_divides k t) env = is_multiple k (wide_value t env)
  wide_holds (wide_not p) env = not (wide_holds p env)
  wide_holds (wide_and p q) env = wide_holds p env && wide_holds q env
  wide_holds (wide_or p q) env = wide_holds p env || wide_holds q env
  wide_holds (wide_implies p q) env = not (wide_holds p env) || wide_holds q env
  wide_holds (wide_same p q) env = same_truth (wide_holds p env) (wide_holds q env)
  wide_holds (wide_other p q) env = not (same_truth (wide_holds p env) (wide_holds q env))
  wide_holds (wide_if_truth c p q) env = if wide_holds c env then wide_holds p env else wide_holds q env
  wide_holds (wide_chain orders ts) env = chained orders (map number (wide_values ts env))

abbrev pub part_value : List Value → Part → Value
part_value env (of_number t) = number (wide_value t env)
part_value env (of_set s) = elements (wide_members s env)
part_value env (of_truth r) = truth (wide_holds r env)

-- what is said of each variable by its level: of one that stands as a number, as a set or as a truth value
pub record VariableFacts : Type 1 where
  pub number : ℕ → Type 0
  pub set : ℕ → Type 0
  pub truth : ℕ → Type 0

abbrev pub HasTerms : WideTerms → Type 0
HasTerms no_wides = ⊥
HasTerms (wide_more t ts) = Unit {0}

-- these facts are of all variables that stand there, each literal is within the limit, each divisor is one, and a least number is of some
abbrev mutual
  pub TermOver : VariableFacts → WideTerm → Type 0
  TermOver v (wide_lit k) = IsWithin k
  TermOver v (wide_var x) = v.number x
  TermOver v (wide_card s) = SetOver v s
  TermOver v (wide_neg a) = TermOver v a
  TermOver v (wide_add a b) = TermOver v a × TermOver v b
  TermOver v (wide_sub a b) = TermOver v a × TermOver v b
  TermOver v (wide_mul a b) = TermOver v a × TermOver v b
  TermOver v (wide_div a k) = TermOver v a × IsDivisor k
  TermOver v (wide_mod a k) = TermOver v a × IsDivisor k
  TermOver v (wide_abs a) = TermOver v a
  TermOver v (wide_if c a b) = RelOver v c × TermOver v a × TermOver v b
  TermOver v (wide_min ts) = HasTerms ts × TermsOver v ts
  TermOver v (wide_max ts) = HasTerms ts × TermsOver v ts

  pub TermsOver : VariableFacts → WideTerms → Type 0
  TermsOver v no_wides = Unit {0}
  TermsOver v (wide_more t ts) = TermOver v t × TermsOver v ts

  pub SetOver : VariableFacts → WideSet → Type 0
  SetOver v wide_empty = Unit {0}
  SetOver v (wide_set x) = v.set x
  SetOver v (wide_union a b) = SetOver v a × SetOver v b
  SetOver v (wide_inter a b) = SetOver v a × SetOver v b
  SetOver v (wide_diff a b) = SetOver v a × SetOver v b
  SetOver v (wide_if_set c a b) = RelOver v c × SetOver v a × SetOver v b

  pub RelOver : VariableFacts → WideRel → Type 0
  RelOver v wide_true = Unit {0}
  RelOver v wide_false = Unit {0}
  RelOver v (wide_truth x) = v.truth x
  RelOver v (wide_compare o a b) = TermOver v a × TermOver v b
  RelOver v (wide_same_set a b) = SetOver v a × SetOver v b
  RelOver v (wide_other_set a b) = SetOver v a × SetOver v b
  RelOver v (wide_subset a b) = SetOver v a × SetOver v b
  RelOver v (wide_divides k t) = IsDivisor k × TermOver v t
  RelOver v (wide_not p) = RelOver v p
  RelOver v (wide_and p q) = RelOver v p × RelOver v q
  RelOver v (wide_or p q) = RelOver v p × RelOver v q
  RelOver v (wide_implies p q) = RelOver v p × RelOver v q
  RelOver v (wide_same p q) = RelOver v p × RelOver v q
  RelOver v (wide_other p q) = RelOver v p × RelOver v q
  RelOver v (wide_if_truth c p q) = RelOver v c × RelOver v p × RelOver v q
  RelOver v (wide_chain orders ts) = TermsOver v ts

-- a part of this base over such variables
abbrev pub PartOver : VariableFacts → Base → Part → Type 0
PartOver v Int (of_number t) = TermOver v t
PartOver v Int (of_set s) = ⊥
PartOver v Int (of_truth r) = ⊥
PartOver v Truth (of_number t) = ⊥
PartOver v Truth (of_set s) = ⊥
PartOver v Truth (of_truth r) = RelOver v r
PartOver v Set (of_number t) = ⊥
PartOver v Set (of_set s) = SetOver v s
PartOver v Set (of_truth r) = ⊥

-- one part of each base, in order
abbrev pub PartsOver : VariableFacts → List Base → List Part → Type 0
PartsOver v [] [] = Unit {0}
PartsOver v [] (p ∷ ps) = ⊥
PartsOver v (b ∷ bs) [] = ⊥
PartsOver v (b ∷ bs) (p ∷ ps) = PartOver v b p × PartsOver v bs ps

-- each variable has its base in the scope
abbrev pub in_scope : List Base → VariableFacts
in_scope scope =
    record { number = λ x. slice_get scope x ≡ Some Int; set = λ x. slice_get scope x ≡ Some Set; truth = λ x. slice_get scope x ≡ Some Truth }
