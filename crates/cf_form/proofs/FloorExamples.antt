-- Worked examples that hold down what floors say.
use Rattle.std.proofs.Common.{◌≡◌, ℕ, zero, suc, ◌≤◌, pos, None, Some, List, [], ◌∷◌, map, refl, ap, arith}
use Rattle.cf_tree.specs.declared.base.Base.TheVariants.{Int, Bool as OfTruth, Set}
use Rattle.cf_tree.specs.declared.base.Order.TheVariants.{Eq}
use Rattle.cf_tree.specs.declared.raw.BinOp.TheVariants.{Add, Compare}
use Rattle.cf_tree.specs.ExprTree.{ExprTree, expr_lit, expr_var, expr_binary, expr_min, expr_choose_where, exprs_of, holds_always, holds_where, at_any}
use Rattle.cf_tree.specs.RelSize.{term_size}
use Rattle.cf_tree.specs.RelTree.{TermTree, term_lit, term_var, term_add}
use Rattle.cf_form.specs.declared.floor.Floor.TheVariants.{Number, Truth, Other}
use Rattle.cf_form.specs.Alternatives.{Guarded}
use Rattle.cf_form.specs.Expansion.{of_number, of_set, of_truth, Calls, call_expanded}
use Rattle.cf_form.specs.Floor.{HasNumber, HasTruth, Stands, AreFloors, IsOne, HasFloor, HaveFloor, base_floor, HasGiven, IsHeavy}
use Rattle.cf_form.specs.Polarity.{Truths}
use Rattle.cf_form.specs.Wide.{WideTerm, wide_lit, wide_var, wide_add, wide_if, wide_min, WideTerms, no_wides, wide_more, wide_empty, WideRel, wide_true, wide_compare, wide_not, wide_if_truth}
use Rattle.cf_form.proofs.FloorForms.{var_has}
use Rattle.cf_form.proofs.FloorLaws.{lit_floor, var_floor}

abbrev no_values : Truths
no_values x = None

-- ---- number forms: `x + 3`
abbrev sum : WideTerm
sum = wide_add (wide_var 0) (wide_lit (pos 3))

sum_has : HasNumber 3 sum
sum_has = record { count = refl; narrow = refl; single = λ truths. (term_add (term_var 0) (term_lit (pos 3)), refl, omega arith) }

abbrev first_size : List (Guarded TermTree) → ℕ
first_size [] = 0
first_size (x ∷ xs) = term_size x.form

sum_refused : HasNumber 4 sum → ⊥
sum_refused h = let a = h.single no_values in let e : 3 ≡ term_size a.0 = ap first_size a.1 in omega (arith, e, a.2)

-- two alternatives
two_refused : HasNumber 0 (wide_if wide_true (wide_lit (pos 1)) (wide_lit (pos 2))) → ⊥
two_refused h = let e : 2 ≡ 1 = h.count in omega (arith, e)

-- ---- relations: `x == 3`
abbrev same : WideRel
same = wide_compare Eq (wide_var 0) (wide_lit (pos 3))

same_has : HasTruth 3 same
same_has = record { narrow = refl; holds = λ truths. omega arith; fails = λ truths. omega arith }

same_refused : HasTruth 4 same → ⊥
same_refused h = let l : 4 ≤ 3 = h.holds no_values in omega (arith, l)

-- the negation of `!if true then true else true` is shorter
abbrev shorter : WideRel
shorter = wide_not (wide_if_truth wide_true wide_true wide_true)

shorter_has : HasTruth 8 shorter
shorter_has = record { narrow = refl; holds = λ truths. omega arith; fails = λ truths. omega arith }

shorter_refused : HasTruth 9 shorter → ⊥
shorter_refused h = let l : 9 ≤ 8 = h.fails no_values in omega (arith, l)

-- `min(x, .., x) == 1` of twelve parts has too many alternatives
abbrev copies : ℕ → WideTerms
copies zero = no_wides
copies (suc k) = wide_more (wide_var 0) (copies k)

many_refused : HasTruth 0 (wide_compare Eq (wide_min (copies 12)) (wide_lit (pos 1))) → ⊥
many_refused h = let e : Some 2048 ≡ None = h.narrow in cc

-- ---- parts
stands_number : Stands (Number 3) (of_number sum) ≡ HasNumber 3 sum
stands_number = refl

stands_truth : Stands (Truth 3) (of_truth same) ≡ HasTruth 3 same
stands_truth = refl

stands_other : Stands Other (of_number sum) × Stands Other (of_set wide_empty) × Stands Other (of_truth same)
stands_other = (tt, tt, tt)

stands_refused : (Stands (Number 0) (of_set wide_empty) → ⊥) × (Stands (Number 0) (of_truth same) → ⊥) × (Stands (Truth 0) (of_number sum) → ⊥)
    × (Stands (Truth 0) (of_set wide_empty) → ⊥)
stands_refused = (λ h. h, λ h. h, λ h. h, λ h. h)

floors_are : AreFloors (Number 3 ∷ Truth 3 ∷ []) (of_number sum ∷ of_truth same ∷ [])
floors_are = (sum_has, (same_has, tt))

floors_refused : (AreFloors [] (of_set wide_empty ∷ []) → ⊥) × (AreFloors (Other ∷ []) [] → ⊥)
    × (AreFloors (Number 4 ∷ Other ∷ []) (of_number sum ∷ of_number sum ∷ []) → ⊥)
    × (AreFloors (Other ∷ Number 4 ∷ []) (of_number sum ∷ of_number sum ∷ []) → ⊥)
floors_refused = (λ h. h, λ h. h, λ h. sum_refused h.0, λ h. sum_refused h.1.0)

one_is : IsOne (Number 3) (of_number sum ∷ []) ≡ HasNumber 3 sum
one_is = refl

one_refused : (IsOne Other [] → ⊥) × (IsOne Other (of_number sum ∷ of_number sum ∷ []) → ⊥)
one_refused = (λ h. h, λ h. h)

-- ---- expressions
abbrev no_calls : Calls
no_calls = call_expanded []

variable_has : HasFloor no_calls (Other ∷ Number 3 ∷ []) (expr_var 1) (Number 3)
variable_has = var_has no_calls (Other ∷ Number 3 ∷ []) 1 (Number 3) (omega arith) refl

variable_refused : HasFloor no_calls (Number 3 ∷ []) (expr_var 0) (Number 4) → ⊥
variable_refused h = sum_refused (h.stands (of_number sum ∷ []) (sum_has, tt))

added_refused : HaveFloor Add (Number 1) (Number 1) (Number 4) → ⊥
added_refused h = sum_refused (h.stands (of_number (wide_var 0)) (of_number (wide_lit (pos 3))) (var_floor 0) (lit_floor (pos 3)))

bases_are : map base_floor (Int ∷ OfTruth ∷ Set ∷ []) ≡ Number 1 ∷ Truth 1 ∷ Other ∷ []
bases_are = refl

always_given : HasGiven no_calls [] holds_always
always_given = tt

given_is : HasGiven no_calls [] (holds_where (expr_var 0)) ≡ ((w : ℕ) × HasFloor no_calls [] (expr_var 0) (Truth w))
given_is = refl

-- ---- bodies
light_refused : IsHeavy no_calls 2 (expr_lit (pos 3)) → ⊥
light_refused h = let l : 2 ≤ 1 = h.weight (λ f. 0) 0 in omega (arith, l)

abbrev parts : ℕ → List ExprTree
parts zero = []
parts (suc k) = expr_var 0 ∷ parts k

-- `choose (x: int) where min(x, .., x) == 1`
wide_refused : IsHeavy no_calls 0
    (expr_choose_where 1 [] (Int ∷ []) [] holds_always (expr_binary (Compare Eq) (expr_min (exprs_of (parts 12))) (expr_lit (pos 1))) at_any) → ⊥
wide_refused h = let e : Some (1, 2048) ≡ None = h.narrow in cc
