-- Worked examples that hold down the names of passes and which variables a code lacks.
use Rattle.std.proofs.Common.{◌≡◌, pos, false, [], ◌∷◌, refl, arith}
use Rattle.std.specs.Prelude.{codes}
use Rattle.std.specs.List.{list_all}
use Rattle.cf_tree.specs.CodeTree.{code_lit, code_var, code_sum, code_let, code_solve, codes_of, items_of, arms_of, let_item, need_item, arm_of}
use Rattle.cf_pass.specs.Lacks.{Lacks}
use Rattle.cf_pass.specs.Passes.{is_name_byte, IsPassName}

name_of_a_pass : IsPassName (codes "drop-needs2")
name_of_a_pass = (omega arith, omega arith, refl)

not_in_a_name : (list_all is_name_byte (codes "Fold") ≡ false) × (list_all is_name_byte (codes "drop needs") ≡ false) ×
    (list_all is_name_byte (codes "a_b") ≡ false)
not_in_a_name = (refl, refl, refl)

no_empty_name : IsPassName [] → ⊥
no_empty_name h = absurd (omega (arith, h.0))

lacks_others : Lacks 2 (code_sum (codes_of (code_var 1 ∷ code_lit (pos 2) ∷ code_var 3 ∷ [])))
lacks_others = ((λ e. cc), (tt, ((λ e. cc), tt)))

stands_in_parts : (Lacks 1 (code_let 2 1 (code_var 1) (code_var 2)) → ⊥) × (Lacks 2 (code_let 2 1 (code_var 1) (code_var 2)) → ⊥)
    × (Lacks 1 (code_solve 1 (arms_of (arm_of [] (items_of (need_item (code_var 1) ∷ [])) (codes_of (code_lit (pos 0) ∷ [])) ∷ []))) → ⊥)
    × (Lacks 1 (code_solve 1 (arms_of (arm_of [] (items_of (let_item (code_var 1) ∷ [])) (codes_of (code_lit (pos 0) ∷ [])) ∷ []))) → ⊥)
    × (Lacks 1 (code_solve 1 (arms_of (arm_of [] (items_of []) (codes_of (code_var 1 ∷ [])) ∷ []))) → ⊥)
stands_in_parts = ((λ h. h.0 refl), (λ h. h.1 refl), (λ h. h.0.0 refl), (λ h. h.0.0 refl), λ h. h.1.0 refl)
