-- Worked examples of what is left of a solve.
use Rattle.std.specs.Prelude.{ℕ, ◌≡◌, true, false, List, [], ◌∷◌, refl}
use Rattle.cf_tree.specs.CodeTree.{CodeTree, code_truth, code_var, code_neg, code_not, code_solve, ItemTree, let_item, need_item, ArmTree, arm_of, codes_of, items_of, arms_of}
use Rattle.cf_pass.specs.DropArms.{without_arms, dead_at}
use Rattle.cf_pass.specs.DropNeeds.{without_needs, needs_at}

abbrev arm : List ℕ → List ItemTree → CodeTree → ArmTree
arm bounds is give = arm_of bounds (items_of is) (codes_of (give ∷ []))

abbrev solve : List ArmTree → CodeTree
solve arms = code_solve 7 (arms_of arms)

abbrev holds : ItemTree
holds = need_item (code_truth true)

abbrev fails : ItemTree
fails = need_item (code_truth false)

abbrev other : ItemTree
other = need_item (code_not (code_truth true))

abbrev bind : ItemTree
bind = let_item (code_var 0)

-- ---- needs
abbrev with_needs : CodeTree
with_needs = solve (arm (2 ∷ []) (bind ∷ holds ∷ fails ∷ other ∷ holds ∷ []) (code_var 1) ∷ arm [] (holds ∷ []) (code_var 0) ∷ [])

abbrev less_needs : CodeTree
less_needs = solve (arm (2 ∷ []) (bind ∷ fails ∷ other ∷ []) (code_var 1) ∷ arm [] [] (code_var 0) ∷ [])

needs_of_a_solve : without_needs with_needs ≡ less_needs
needs_of_a_solve = refl

three_needs : needs_at with_needs ≡ 3
three_needs = refl

needs_of_another_form : without_needs (code_neg with_needs) ≡ code_neg with_needs
needs_of_another_form = refl

no_needs : needs_at (code_neg with_needs) ≡ 0
no_needs = refl

-- ---- arms
abbrev dead : ArmTree
dead = arm [] (bind ∷ fails ∷ []) (code_var 1)

abbrev dead_too : ArmTree
dead_too = arm (3 ∷ []) (fails ∷ []) (code_var 0)

abbrev live : ArmTree
live = arm [] (holds ∷ []) (code_var 0)

one_is_dead : without_arms (solve (dead ∷ live ∷ [])) ≡ solve (live ∷ [])
one_is_dead = refl

two_are_dead : without_arms (solve (live ∷ dead ∷ dead_too ∷ [])) ≡ solve (live ∷ [])
two_are_dead = refl

two_removed : dead_at (solve (live ∷ dead ∷ dead_too ∷ [])) ≡ 2
two_removed = refl

all_are_dead : without_arms (solve (dead ∷ dead_too ∷ [])) ≡ solve (dead ∷ [])
all_are_dead = refl

one_removed : dead_at (solve (dead ∷ dead_too ∷ [])) ≡ 1
one_removed = refl

no_arm : without_arms (solve []) ≡ solve []
no_arm = refl

none_removed : dead_at (solve []) ≡ 0
none_removed = refl

another_form : without_arms (code_neg (solve (dead ∷ live ∷ []))) ≡ code_neg (solve (dead ∷ live ∷ []))
another_form = refl

none_of_another : dead_at (code_neg (solve (dead ∷ live ∷ []))) ≡ 0
none_of_another = refl
