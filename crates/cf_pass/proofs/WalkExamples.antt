-- Worked examples of a code with each of its forms rewritten, parts first.
use Rattle.std.specs.Prelude.{ℕ, pos, ◌≡◌, true, [], ◌∷◌, refl}
use Rattle.cf_tree.specs.CodeTree.{CodeTree, code_lit, code_truth, code_var, code_neg, code_sum, code_let, code_solve, codes_of, items_of, arms_of, arm_of, let_item, need_item}
use Rattle.cf_pass.specs.DropNeeds.{without_needs, needs_at}
use Rattle.cf_pass.specs.Rewritten.{rewritten, units_of}

-- a literal becomes the variable of its level, and a negated variable becomes `true`
abbrev levelled : ℕ → CodeTree → CodeTree
levelled n (code_lit k) = code_var n
levelled n (code_neg (code_var x)) = code_truth true
levelled n c = c

abbrev one_each : ℕ → CodeTree → ℕ
one_each n (code_lit k) = 1
one_each n (code_neg (code_var x)) = 1
one_each n c = 0

abbrev zero_lit : CodeTree
zero_lit = code_lit (pos 0)

parts_first : rewritten levelled 4 (code_neg zero_lit) ≡ code_truth true
parts_first = refl

both_count : units_of levelled one_each 4 (code_neg zero_lit) ≡ 2
both_count = refl

behind_a_let : rewritten levelled 2 (code_let 2 3 zero_lit zero_lit) ≡ code_let 2 3 (code_var 2) (code_var 5)
behind_a_let = refl

in_an_arm : rewritten levelled 1 (code_solve 7
    (arms_of (arm_of (2 ∷ 3 ∷ []) (items_of (let_item zero_lit ∷ need_item zero_lit ∷ [])) (codes_of (zero_lit ∷ [])) ∷ [])))
    ≡ code_solve 7 (arms_of (arm_of (2 ∷ 3 ∷ []) (items_of (let_item (code_var 3) ∷ need_item (code_var 4) ∷ [])) (codes_of (code_var 4 ∷ [])) ∷ []))
in_an_arm = refl

-- a solve with a need `true`, and one that gives it
abbrev inner : CodeTree
inner = code_solve 2 (arms_of (arm_of [] (items_of (need_item (code_truth true) ∷ [])) (codes_of (code_var 0 ∷ [])) ∷ []))

abbrev outer : CodeTree
outer = code_solve 1 (arms_of (arm_of [] (items_of (need_item (code_truth true) ∷ need_item (code_truth true) ∷ [])) (codes_of (inner ∷ [])) ∷ []))

needs_of_both : units_of (λ n c. without_needs c) (λ n c. needs_at c) 1 (code_sum (codes_of (outer ∷ inner ∷ []))) ≡ 4
needs_of_both = refl

none_left : units_of (λ n c. without_needs c) (λ n c. needs_at c) 1 (rewritten (λ n c. without_needs c) 1 outer) ≡ 0
none_left = refl
