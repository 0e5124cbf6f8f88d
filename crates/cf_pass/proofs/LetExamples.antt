-- Worked examples of arms without the lets that are not used.
use Rattle.std.specs.Prelude.{ℕ, pos, ◌≡◌, [], ◌∷◌, refl}
use Rattle.cf_tree.specs.declared.base.Order.TheVariants.{Ge}
use Rattle.cf_tree.specs.CodeTree.{code_lit, code_var, code_tuple, code_sum, code_sub, code_neg, code_compare, code_let, let_item, need_item, CodeTree, code_not, code_solve, ArmTree, arm_of, arms_of, codes_of, items_of}
use Rattle.cf_pass.specs.Lets.{arm_dropped, arm_gone, drop_lets_form, drop_lets_units}

-- outside an arm n variables are bound; k lets are dropped from it, and this one is left
abbrev Leaves : ℕ → ArmTree → ℕ → ArmTree → Type 0
Leaves n a k b = (arm_dropped n a ≡ b) × (arm_gone n a ≡ k)

used-stays : Leaves 1 (arm_of ([]) (items_of (let_item (code_var 0) ∷ [])) (codes_of (code_var 1 ∷ []))) 0
    (arm_of ([]) (items_of (let_item (code_var 0) ∷ [])) (codes_of (code_var 1 ∷ [])))
used-stays = (refl, refl)

unused-is_dropped : Leaves 1 (arm_of ([]) (items_of (let_item (code_var 0) ∷ [])) (codes_of (code_var 0 ∷ []))) 1
    (arm_of ([]) (items_of ([])) (codes_of (code_var 0 ∷ [])))
unused-is_dropped = (refl, refl)

used-by_a_let : Leaves 1 (arm_of ([]) (items_of (let_item (code_var 0) ∷ let_item (code_neg (code_var 1)) ∷ [])) (codes_of (code_var 2 ∷ []))) 0
    (arm_of ([]) (items_of (let_item (code_var 0) ∷ let_item (code_neg (code_var 1)) ∷ [])) (codes_of (code_var 2 ∷ [])))
used-by_a_let = (refl, refl)

used-by_a_need : Leaves 1 (arm_of ([]) (items_of (let_item (code_var 0) ∷ need_item (code_compare Ge (code_var 1) (code_lit (pos 0))) ∷ []))
    (codes_of (code_var 0 ∷ []))) 0 (arm_of ([]) (items_of (let_item (code_var 0) ∷ need_item (code_compare Ge (code_var 1) (code_lit (pos 0))) ∷ []))
    (codes_of (code_var 0 ∷ [])))
used-by_a_need = (refl, refl)

higher-levels_fall : Leaves 1 (arm_of ([]) (items_of (let_item (code_lit (pos 7)) ∷ let_item (code_var 0) ∷ need_item
    (code_compare Ge (code_var 2) (code_var 0)) ∷ [])) (codes_of (code_sub (code_var 2) (code_var 0) ∷ []))) 1
    (arm_of ([]) (items_of (let_item (code_var 0) ∷ need_item (code_compare Ge (code_var 1) (code_var 0)) ∷ []))
    (codes_of (code_sub (code_var 1) (code_var 0) ∷ [])))
higher-levels_fall = (refl, refl)

dropped-by_what_is_dropped : Leaves 1 (arm_of ([]) (items_of (let_item (code_var 0) ∷ let_item (code_var 1) ∷ [])) (codes_of (code_var 0 ∷ []))) 2
    (arm_of ([]) (items_of ([])) (codes_of (code_var 0 ∷ [])))
dropped-by_what_is_dropped = (refl, refl)

behind-searches : Leaves 1 (arm_of (2 ∷ 3 ∷ []) (items_of (let_item (code_lit (pos 7)) ∷ let_item (code_var 2) ∷ []))
    (codes_of (code_var 4 ∷ code_var 1 ∷ []))) 1 (arm_of (2 ∷ 3 ∷ []) (items_of (let_item (code_var 2) ∷ [])) (codes_of (code_var 3 ∷ code_var 1 ∷ [])))
behind-searches = (refl, refl)

levels-of_let_forms_fall : Leaves 1 (arm_of ([]) (items_of (let_item (code_lit (pos 7)) ∷ let_item
    (code_let 2 1 (code_var 0) (code_sum (codes_of (code_var 2 ∷ code_var 0 ∷ [])))) ∷ [])) (codes_of (code_var 2 ∷ []))) 1
    (arm_of ([]) (items_of (let_item (code_let 1 1 (code_var 0) (code_sum (codes_of (code_var 1 ∷ code_var 0 ∷ [])))) ∷ [])) (codes_of (code_var 1 ∷ [])))
levels-of_let_forms_fall = (refl, refl)

give-with_a_let_form : Leaves 1 (arm_of ([]) (items_of (let_item (code_lit (pos 7)) ∷ []))
    (codes_of (code_let 2 2 (code_tuple (codes_of (code_var 0 ∷ code_var 0 ∷ []))) (code_sum (codes_of (code_var 2 ∷ code_var 3 ∷ code_var 0 ∷ []))) ∷
    []))) 1 (arm_of ([]) (items_of ([])) (codes_of (code_let 1 2 (code_tuple (codes_of (code_var 0 ∷ code_var 0 ∷ [])))
    (code_sum (codes_of (code_var 1 ∷ code_var 2 ∷ code_var 0 ∷ []))) ∷ [])))
give-with_a_let_form = (refl, refl)

two-dropped : Leaves 1 (arm_of ([]) (items_of (let_item (code_lit (pos 7)) ∷ let_item (code_var 0) ∷ let_item (code_lit (pos 8)) ∷ let_item
    (code_var 2) ∷ [])) (codes_of (code_var 4 ∷ code_var 2 ∷ []))) 2 (arm_of ([]) (items_of (let_item (code_var 0) ∷ let_item (code_var 1) ∷ []))
    (codes_of (code_var 2 ∷ code_var 1 ∷ [])))
two-dropped = (refl, refl)

-- a let form that stands before the dropped let
earlier-levels_stay : Leaves 1 (arm_of ([]) (items_of (let_item (code_let 1 2 (code_tuple (codes_of (code_var 0 ∷ code_var 0 ∷ [])))
    (code_sum (codes_of (code_var 1 ∷ code_var 2 ∷ [])))) ∷ let_item (code_lit (pos 7)) ∷ [])) (codes_of (code_var 1 ∷ []))) 1
    (arm_of ([]) (items_of (let_item (code_let 1 2 (code_tuple (codes_of (code_var 0 ∷ code_var 0 ∷ [])))
    (code_sum (codes_of (code_var 1 ∷ code_var 2 ∷ [])))) ∷ [])) (codes_of (code_var 1 ∷ [])))
earlier-levels_stay = (refl, refl)

-- behind n variables a form becomes d, with k items less
abbrev Becomes : ℕ → CodeTree → ℕ → CodeTree → Type 0
Becomes n c k d = (drop_lets_form n c ≡ d) × (drop_lets_units n c ≡ k)

two-arms : Becomes 1 (code_solve 7 (arms_of (arm_of ([]) (items_of (let_item (code_lit (pos 7)) ∷ [])) (codes_of (code_var 0 ∷ [])) ∷
    arm_of (2 ∷ []) (items_of (let_item (code_lit (pos 8)) ∷ let_item (code_var 1) ∷ [])) (codes_of (code_var 3 ∷ [])) ∷ []))) 2
    (code_solve 7 (arms_of (arm_of ([]) (items_of ([])) (codes_of (code_var 0 ∷ [])) ∷
    arm_of (2 ∷ []) (items_of (let_item (code_var 1) ∷ [])) (codes_of (code_var 2 ∷ [])) ∷ [])))
two-arms = (refl, refl)

other-forms : Becomes 0
    (code_not (code_solve 1 (arms_of (arm_of ([]) (items_of (let_item (code_lit (pos 7)) ∷ [])) (codes_of (code_lit (pos 1) ∷ [])) ∷ [])))) 0
    (code_not (code_solve 1 (arms_of (arm_of ([]) (items_of (let_item (code_lit (pos 7)) ∷ [])) (codes_of (code_lit (pos 1) ∷ [])) ∷ []))))
other-forms = (refl, refl)
