-- Worked examples: what is written of arms.
use Rattle.std.proofs.Common.{◌≡◌, ℕ, pos, true, false, [], ◌∷◌, List, map, refl, Some, None}
use Rattle.std.specs.Prelude.{negsuc}
use Rattle.cf_tree.specs.declared.base.Base.TheVariants.{Int, Bool as Truth, Set}
use Rattle.cf_tree.specs.declared.base.Order.TheVariants.{Eq, Ne, Ge}
use Rattle.cf_tree.specs.CodeTree.{CodeTree, code_lit, code_truth, code_var, code_set_of, code_tuple, code_sum, code_sub, code_mul, code_neg, code_div, code_mod, code_min, code_compare, code_divides, code_and, code_or, code_not, code_union, code_inter, code_diff, code_subset, code_card, codes_of, ItemTree, let_item, need_item, items_of, ArmTree, arm_of, no_codes, arms_of}
use Rattle.cf_tree.specs.RelTree.{empty_set, set_var, union_of, inter_of, diff_of, TermTree, term_lit, term_var, term_card, term_neg, term_add, term_sub, term_mul, term_div, term_mod, rel_true, rel_false, rel_compare, rel_same_set, rel_other_set, rel_subset, rel_divides, rel_and, rel_or, rel_not}
use Rattle.cf_condition.specs.Conditions.{condition_of}
use Rattle.cf_condition.specs.Forms.{FormTree, number_form, set_form, truth_form, unwritten, form_in, scope_forms}

-- variables: a number, a set, and a truth value
abbrev forms : List FormTree
forms = scope_forms 0 (Int ∷ Set ∷ Truth ∷ [])

abbrev x : CodeTree
x = code_var 0

abbrev s : CodeTree
s = code_var 1

variables : map (form_in forms) (x ∷ s ∷ code_var 2 ∷ code_var 3 ∷ []) ≡ number_form (term_var 0) ∷ set_form (set_var 1) ∷ unwritten ∷ unwritten ∷ []
variables = refl

numbers : map (form_in forms) (code_lit (negsuc 4) ∷ code_sub x x ∷ code_mul (code_lit (pos 2)) x ∷ code_neg x ∷ code_div x (pos 3) ∷ code_mod x (pos 4) ∷ code_card s ∷ []) ≡
    map number_form (term_lit (negsuc 4) ∷ term_sub (term_var 0) (term_var 0) ∷ term_mul (term_lit (pos 2)) (term_var 0) ∷ term_neg (term_var 0)
    ∷ term_div (term_var 0) (pos 3) ∷ term_mod (term_var 0) (pos 4) ∷ term_card (set_var 1) ∷ [])
numbers = refl

sums : form_in forms (code_sum (codes_of (x ∷ x ∷ []))) ≡ number_form (term_add (term_add (term_lit (pos 0)) (term_var 0)) (term_var 0))
sums = refl

sets : map (form_in forms) (code_set_of no_codes ∷ code_union (codes_of (s ∷ s ∷ [])) ∷ code_inter (codes_of (s ∷ [])) ∷ code_diff s s ∷ []) ≡
    map set_form (empty_set ∷ union_of (set_var 1) (set_var 1) ∷ set_var 1 ∷ diff_of (set_var 1) (set_var 1) ∷ [])
sets = refl

truths : map (form_in forms) (code_truth true ∷ code_compare Ge x x ∷ code_compare Eq s s ∷ code_compare Ne s s ∷ code_subset s s ∷ code_divides (pos 2) x ∷ code_not (code_divides (pos 2) x) ∷ []) ≡
    map truth_form (rel_true ∷ rel_compare Ge (term_var 0) (term_var 0) ∷ rel_same_set (set_var 1) (set_var 1) ∷ rel_other_set (set_var 1) (set_var 1)
    ∷ rel_subset (set_var 1) (set_var 1) ∷ rel_divides (pos 2) (term_var 0) ∷ rel_not (rel_divides (pos 2) (term_var 0)) ∷ [])
truths = refl

-- true before && and false before || leave nothing
joined_truths : map (form_in forms) (code_and (code_truth true) (code_divides (pos 2) x) ∷ code_or (code_divides (pos 2) x) (code_truth false)
    ∷ code_and (code_divides (pos 2) x) (code_divides (pos 3) x) ∷ code_or (code_divides (pos 2) x) (code_divides (pos 3) x) ∷ []) ≡
    map truth_form (rel_divides (pos 2) (term_var 0) ∷ rel_divides (pos 2) (term_var 0)
    ∷ rel_and (rel_divides (pos 2) (term_var 0)) (rel_divides (pos 3) (term_var 0)) ∷ rel_or (rel_divides (pos 2) (term_var 0)) (rel_divides (pos 3) (term_var 0)) ∷ [])
joined_truths = refl

-- a set literal, a least number, a product of two variables, a divisor below 1, a sum of sets: nothing is written
nothing : map (form_in forms) (code_set_of (codes_of (x ∷ [])) ∷ code_min (codes_of (x ∷ [])) ∷ code_mul x x ∷ code_div x (pos 0) ∷ code_sum (codes_of (s ∷ []))
    ∷ code_union (codes_of (x ∷ [])) ∷ code_compare Ge s s ∷ code_and x x ∷ []) ≡
    unwritten ∷ unwritten ∷ unwritten ∷ unwritten ∷ unwritten ∷ unwritten ∷ unwritten ∷ unwritten ∷ []
nothing = refl

-- ---- arms
abbrev arm : List ℕ → List ItemTree → ArmTree
arm bounds items = arm_of bounds (items_of items) no_codes

abbrev at_least : ℕ → CodeTree
at_least y = code_compare Ge (code_var y) (code_lit (pos 0))

-- a let stands where its variable does
let_put_in : condition_of (Int ∷ []) (arms_of (arm [] (let_item (code_div x (pos 60)) ∷ need_item (at_least 1) ∷ []) ∷ [])) ≡
    Some (rel_compare Ge (term_div (term_var 0) (pos 60)) (term_lit (pos 0)))
let_put_in = refl

needs_and_arms : condition_of (Int ∷ Int ∷ [])
    (arms_of (arm [] (need_item (at_least 0) ∷ need_item (at_least 1) ∷ []) ∷ arm [] (need_item (code_divides (pos 2) x) ∷ []) ∷ [])) ≡
    Some (rel_or (rel_and (rel_compare Ge (term_var 0) (term_lit (pos 0))) (rel_compare Ge (term_var 1) (term_lit (pos 0)))) (rel_divides (pos 2) (term_var 0)))
needs_and_arms = refl

no_arm : condition_of (Int ∷ []) (arms_of []) ≡ Some rel_false
no_arm = refl

no_need : condition_of (Int ∷ []) (arms_of (arm [] [] ∷ [])) ≡ Some rel_true
no_need = refl

-- an arm that searches, and a let without a form
searching : condition_of (Int ∷ []) (arms_of (arm (3 ∷ []) (need_item (at_least 0) ∷ []) ∷ [])) ≡ None
searching = refl

without_form : condition_of (Int ∷ []) (arms_of (arm [] (let_item (code_min (codes_of (x ∷ []))) ∷ need_item (at_least 0) ∷ []) ∷ [])) ≡ None
without_form = refl

-- also where another arm has a condition
searching_among_others : condition_of (Int ∷ []) (arms_of (arm [] [] ∷ arm (3 ∷ []) [] ∷ [])) ≡ None
searching_among_others = refl
