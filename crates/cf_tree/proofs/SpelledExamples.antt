-- Worked examples that hold down which targets are spelled.
use Rattle.std.specs.Prelude.{ℕ, pos, negsuc, neg_ℤ, ◌^◌, ◌-◌, ◌<◌, ◌≤◌, ◌≡◌, List, [], ◌∷◌, length}
use Rattle.std.proofs.Common.{ap, arith}
use Rattle.std.proofs.lemmas.Int.{ints}
use Rattle.std.proofs.lemmas.List.Elements.{All-head}
use Rattle.cf_tree.specs.declared.base.Order.TheVariants.{Eq}
use Rattle.cf_tree.specs.CodeTree.{CodeTree, code_lit, code_var, code_set_of, code_tuple, code_sum, code_sub, code_mul, code_neg, code_div, code_mod, code_min, code_max, code_compare, code_divides, code_and, code_or, code_not, code_union, code_inter, code_diff, code_subset, code_card, code_slice, code_fresh, code_if, code_let, code_solve, code_depth, codes_of, no_codes, ItemTree, items_of, need_item, let_item, ArmTree, arm_of, arms_of, no_arms}
use Rattle.cf_tree.specs.Spelled.{IsSpelled, IsNumeral, AreGives, HasSpelling}
use Rattle.cf_tree.specs.declared.target.RawTarget.{RawTarget}
use Rattle.cf_tree.specs.CodeView.{code_tree}

abbrev n : CodeTree
n = code_var 7

-- a variable that has no level of 32 bits is spelled nowhere
abbrev bad : CodeTree
bad = code_var (2 ^ 32)

bad-is : IsSpelled bad → ⊥
bad-is h = let e : 2 ^ 32 < 2 ^ 32 = h in omega (arith, e)

last-level : IsSpelled (code_var (2 ^ 32 - 1))
last-level = omega arith

-- in each form a part that is not spelled
in-one : (IsSpelled (code_neg bad) → ⊥) × (IsSpelled (code_not bad) → ⊥) × (IsSpelled (code_card bad) → ⊥) × (IsSpelled (code_div bad (pos 2)) → ⊥)
    × (IsSpelled (code_mod bad (pos 2)) → ⊥)
    × (IsSpelled (code_divides (pos 2) bad) → ⊥)
in-one = (λ h. bad-is h, λ h. bad-is h, λ h. bad-is h, λ h. bad-is h.1, λ h. bad-is h.1, λ h. bad-is h.1)

in-two : (IsSpelled (code_sub bad n) → ⊥) × (IsSpelled (code_sub n bad) → ⊥) × (IsSpelled (code_mul bad n) → ⊥) × (IsSpelled (code_mul n bad) → ⊥)
    × (IsSpelled (code_compare Eq bad n) → ⊥) × (IsSpelled (code_compare Eq n bad) → ⊥) × (IsSpelled (code_and bad n) → ⊥) × (IsSpelled (code_and n bad) → ⊥)
    × (IsSpelled (code_or bad n) → ⊥) × (IsSpelled (code_or n bad) → ⊥) × (IsSpelled (code_diff bad n) → ⊥) × (IsSpelled (code_diff n bad) → ⊥)
    × (IsSpelled (code_subset bad n) → ⊥) × (IsSpelled (code_subset n bad) → ⊥) × (IsSpelled (code_fresh bad n) → ⊥) × (IsSpelled (code_fresh n bad) → ⊥)
    × (IsSpelled (code_let 0 1 bad n) → ⊥) × (IsSpelled (code_let 0 1 n bad) → ⊥)
in-two = (
  λ h. bad-is h.0,
  λ h. bad-is h.1,
  λ h. bad-is h.0,
  λ h. bad-is h.1,
  λ h. bad-is h.0,
  λ h. bad-is h.1,
  λ h. bad-is h.0,
  λ h. bad-is h.1,
  λ h. bad-is h.0,
  λ h. bad-is h.1,
  λ h. bad-is h.0,
  λ h. bad-is h.1,
  λ h. bad-is h.0,
  λ h. bad-is h.1,
  λ h. bad-is h.0,
  λ h. bad-is h.1,
  λ h. bad-is h.2,
  λ h. bad-is h.3,
)

in-three : (IsSpelled (code_slice bad n n) → ⊥) × (IsSpelled (code_slice n bad n) → ⊥) × (IsSpelled (code_slice n n bad) → ⊥)
    × (IsSpelled (code_if bad n n) → ⊥) × (IsSpelled (code_if n bad n) → ⊥) × (IsSpelled (code_if n n bad) → ⊥)
in-three = (λ h. bad-is h.0, λ h. bad-is h.1, λ h. bad-is h.2, λ h. bad-is h.0, λ h. bad-is h.1, λ h. bad-is h.2)

in-lists : (IsSpelled (code_set_of (codes_of (n ∷ bad ∷ []))) → ⊥) × (IsSpelled (code_tuple (codes_of (n ∷ bad ∷ []))) → ⊥)
    × (IsSpelled (code_sum (codes_of (n ∷ bad ∷ []))) → ⊥)
    × (IsSpelled (code_min (codes_of (n ∷ bad ∷ []))) → ⊥) × (IsSpelled (code_max (codes_of (n ∷ bad ∷ []))) → ⊥)
    × (IsSpelled (code_union (codes_of (n ∷ bad ∷ []))) → ⊥)
    × (IsSpelled (code_inter (codes_of (bad ∷ n ∷ []))) → ⊥)
in-lists = (λ h. bad-is h.1.0, λ h. bad-is h.1.1.0, λ h. bad-is h.1.1.0, λ h. bad-is h.1.1.0, λ h. bad-is h.1.1.0, λ h. bad-is h.1.1.0, λ h. bad-is h.1.0)

-- the least lengths of lists
too_short : (IsSpelled (code_tuple (codes_of (n ∷ []))) → ⊥) × (IsSpelled (code_sum (codes_of (n ∷ []))) → ⊥) × (IsSpelled (code_union (codes_of (n ∷ []))) → ⊥)
    × (IsSpelled (code_inter (codes_of (n ∷ []))) → ⊥) × (IsSpelled (code_min no_codes) → ⊥) × (IsSpelled (code_max no_codes) → ⊥)
too_short = (
  λ h. let e : 2 ≤ 1 = h.0 in omega (arith, e),
  λ h. let e : 2 ≤ 1 = h.0 in omega (arith, e),
  λ h. let e : 2 ≤ 1 = h.0 in omega (arith, e),
  λ h. let e : 2 ≤ 1 = h.0 in omega (arith, e),
  λ h. let e : 1 ≤ 0 = h.0 in omega (arith, e),
  λ h. let e : 1 ≤ 0 = h.0 in omega (arith, e),
)

shortest : (IsSpelled (code_set_of no_codes)) × (IsSpelled (code_min (codes_of (n ∷ [])))) × (IsSpelled (code_max (codes_of (n ∷ []))))
    × (IsSpelled (code_sum (codes_of (n ∷ n ∷ []))))
shortest = (tt, (omega arith, (omega arith, tt)), (omega arith, (omega arith, tt)), (omega arith, (omega arith, (omega arith, tt))))

-- a divisor is at least 1
no_divisors : (IsSpelled (code_div n (pos 0)) → ⊥) × (IsSpelled (code_mod n (pos 0)) → ⊥) × (IsSpelled (code_divides (pos 0) n) → ⊥)
    × (IsSpelled (code_div n (negsuc 0)) → ⊥)
no_divisors = (λ h. omega (arith, ints, h.0.0), λ h. omega (arith, ints, h.0.0), λ h. omega (arith, ints, h.0.0), λ h. omega (arith, ints, h.0.0))

-- a let binds one variable or more, all with levels below 2^32
no_lets : (IsSpelled (code_let 0 0 n n) → ⊥) × (IsSpelled (code_let (2 ^ 32) 1 n n) → ⊥) × (IsSpelled (code_let (2 ^ 32 - 1) 2 n n) → ⊥)
no_lets = (λ h. let e : 1 ≤ 0 = h.0 in omega (arith, e), λ h. omega (arith, h.1), λ h. omega (arith, h.1))

last_let : IsSpelled (code_let (2 ^ 32 - 1) 1 n n)
last_let = (omega arith, omega arith, omega arith, omega arith)

-- a solve has a number from 1 on, and its arms such bounds, and gives
abbrev arm : List ℕ → List ItemTree → List CodeTree → ArmTree
arm bounds items gives = arm_of bounds (items_of items) (codes_of gives)

abbrev solve : ArmTree → CodeTree
solve a = code_solve 1 (arms_of (a ∷ []))

no_numbers : (IsSpelled (code_solve 0 no_arms) → ⊥) × (IsSpelled (code_solve (2 ^ 32) no_arms) → ⊥) × (IsSpelled (code_solve (2 ^ 32 - 1) no_arms))
no_numbers = (λ h. let e : 1 ≤ 0 = h.0.0 in omega (arith, e), λ h. omega (arith, h.0.1), ((omega arith, omega arith), tt))

no_bound : IsSpelled (solve (arm (0 ∷ []) [] (n ∷ []))) → ⊥
no_bound h = let e : IsNumeral 0 = All-head IsNumeral 0 [] h.1.0 in omega (arith, e.0)

no_gives : (IsSpelled (solve (arm [] [] [])) → ⊥) × (IsSpelled (solve (arm [] [] (code_tuple (codes_of (n ∷ n ∷ [])) ∷ []))) → ⊥)
no_gives = (λ h. h.1.2, λ h. h.1.2)

some_gives : (AreGives (codes_of (n ∷ []))) × (AreGives (codes_of (code_tuple no_codes ∷ n ∷ [])))
some_gives = (tt, tt)

in-arms : (IsSpelled (solve (arm [] (let_item bad ∷ []) (n ∷ []))) → ⊥) × (IsSpelled (solve (arm [] (need_item bad ∷ []) (n ∷ []))) → ⊥)
    × (IsSpelled (solve (arm [] (let_item n ∷ need_item bad ∷ []) (n ∷ []))) → ⊥)
    × (IsSpelled (solve (arm [] (need_item n ∷ let_item bad ∷ []) (n ∷ []))) → ⊥) × (IsSpelled (solve (arm [] [] (bad ∷ []))) → ⊥)
    × (IsSpelled (code_solve 1 (arms_of (arm [] [] (n ∷ []) ∷ arm [] [] (bad ∷ []) ∷ []))) → ⊥)
in-arms = (λ h. bad-is h.1.1.0, λ h. bad-is h.1.1.0, λ h. bad-is h.1.1.1.0, λ h. bad-is h.1.1.1.0, λ h. bad-is h.1.3.0, λ h. bad-is h.1.4.3.0)

-- a literal is within the limit
literals : (IsSpelled (code_lit (pos (2 ^ 127 - 1)))) × (IsSpelled (code_lit (pos (2 ^ 127))) → ⊥) × (IsSpelled (code_lit (neg_ℤ (pos (2 ^ 127)))) → ⊥)
literals = (omega arith, λ h. omega (arith, h), λ h. omega (arith, h))

-- a target that is spelled has a code of depth at most 500 that is spelled, and results
no_spelling : (t : RawTarget) → HasSpelling t → (code_depth (code_tree t.code) ≡ 501 → ⊥) × (code_tree t.code ≡ bad → ⊥) × (t.results.items ≡ [] → ⊥)
no_spelling t h = (λ e. omega (arith, e, h.0), λ e. bad-is (rw e at h.1), λ e. let f = ap length e in omega (arith, f, h.2))
