-- Worked examples that hold down which target code is well typed, and which is spelled.
use Rattle.std.specs.Prelude.{pos, ◌≤◌, None, List, [], ◌∷◌}
use Rattle.std.proofs.Common.{refl, arith, true, false}
use Rattle.std.proofs.lemmas.List.Elements.{All-cons, All-nil}
use Rattle.cf_tree.specs.declared.base.Base.{Base}
use Rattle.cf_tree.specs.declared.base.Base.TheVariants.{Int, Bool, Set}
use Rattle.cf_tree.specs.declared.base.Order.TheVariants.{Eq, Lt}
use Rattle.cf_tree.specs.CodeTree.{code_lit, code_truth, code_var, code_tuple, code_compare, code_let, code_solve, codes_of, no_codes, items_of, no_items, need_item, let_item, arm_of, arms_of, no_arms}
use Rattle.cf_tree.specs.Spelled.{IsSpelled}
use Rattle.cf_tree.specs.Typing.{IsTypedCode, HasBases}

-- a solve without arms has what its place asks for, and nothing where its place asks nothing
solve-asked : IsTypedCode (code_solve 1 no_arms) [] (Int ∷ Set ∷ [])
solve-asked = (refl, tt)

solve-not_asked : (bs : List Base) → HasBases (code_solve 1 no_arms) [] None bs → ⊥
solve-not_asked bs s = cc

-- so it is no side of ==
solve-as_side : IsTypedCode (code_compare Eq (code_solve 1 no_arms) (code_lit (pos 0))) [] (Bool ∷ []) → ⊥
solve-as_side s = let e = s.2.0 in cc

unbound-variable : IsTypedCode (code_var 1) (Int ∷ []) (Int ∷ []) → ⊥
unbound-variable s = let e = s.1 in cc

-- == compares truth values, < does not
equal-truths : IsTypedCode (code_compare Eq (code_truth true) (code_truth false)) [] (Bool ∷ [])
equal-truths = (Bool, tt, (refl, tt), (refl, tt), (refl, refl))

-- a let takes exactly the next levels, one for each part of its value
let-of_two : IsTypedCode (code_let 1 2 (code_tuple (codes_of (code_lit (pos 1) ∷ code_truth true ∷ []))) (code_var 2)) (Set ∷ []) (Bool ∷ [])
let-of_two =
    (Int ∷ Bool ∷ [], (omega arith, (Int, Bool ∷ [], refl, (refl, tt), (Bool, [], refl, (refl, tt), refl)), tt), refl, refl, (Bool, refl, (refl, refl)))

let-at_wrong_level : (bs : List Base) → IsTypedCode (code_let 0 1 (code_lit (pos 1)) (code_var 1)) (Set ∷ []) bs → ⊥
let-at_wrong_level bs s = let e = s.2 in omega (arith, e)

-- an arm with one search, which takes the next level, a let and a need
arm-typed : IsTypedCode (code_solve 1 (arms_of
    (arm_of (3 ∷ []) (items_of (let_item (code_var 0) ∷ need_item (code_compare Lt (code_var 1) (code_var 2)) ∷ [])) (codes_of (code_var 2 ∷ [])) ∷ [])))
    (Int ∷ []) (Int ∷ [])
arm-typed = (
  refl,
  (
    (All-cons (λ b. 1 ≤ b) 3 [] (omega arith) (All-nil (λ b. 1 ≤ b)), omega arith),
    (tt, ((tt, tt), tt)),
    (tt, tt),
    (
      Int,
      (Int, refl, (refl, tt)),
      (
        (Int, refl, (Int, refl, (refl, refl)), (Int, refl, (refl, refl)), (refl, refl)),
        (Int, [], refl, (Int, refl, (refl, tt)), refl),
      ),
    ),
    tt,
  ),
)

-- the product of the bounds of an arm is at most 1,048,576
arm-with_many_tuples : IsTypedCode (code_solve 1 (arms_of (arm_of (1024 ∷ 1025 ∷ []) no_items (codes_of (code_lit (pos 0) ∷ [])) ∷ []))) [] (Int ∷ []) → ⊥
arm-with_many_tuples s = let e = s.1.0.1 in omega (arith, e)

-- no solve stands inside an arm
solve-in_arm : IsTypedCode (code_solve 1 (arms_of (arm_of [] no_items (codes_of (code_solve 2 no_arms ∷ [])) ∷ []))) [] (Int ∷ []) → ⊥
solve-in_arm s = s.1.2.0

-- a give that is a tuple would be read as several gives
give-of_tuple : IsSpelled (code_solve 1 (arms_of (arm_of [] no_items (codes_of (code_tuple no_codes ∷ [])) ∷ []))) → ⊥
give-of_tuple s = s.1.2
