-- Worked examples that hold down the lowered form of a match, and the weights and depths of functions.
use Rattle.std.specs.Prelude.{ℕ, pos, negsuc, ◌^◌, ◌+◌, ◌-◌, ◌≡◌, zero, suc, true, false, List, [], ◌∷◌, codes, Some, None, Ok, Err, refl}
use Rattle.cf_num.specs.Divisors.{gcd_by}
use Rattle.cf_tree.specs.declared.base.Base.TheVariants.{Int}
use Rattle.cf_tree.specs.declared.base.Order.TheVariants.{Eq}
use Rattle.cf_tree.specs.declared.base.Place.{Place}
use Rattle.cf_tree.specs.declared.raw.BinOp.TheVariants.{Add, Or, Compare}
use Rattle.cf_tree.specs.declared.raw.Param.{Param}
use Rattle.cf_tree.specs.DefView.{DefTree}
use Rattle.cf_tree.specs.ExprTree.{ExprTree, expr_lit, expr_truth, expr_var, expr_set_of, expr_tuple, expr_neg, expr_not, expr_abs, expr_binary, expr_divides, expr_div, expr_mod, expr_card, expr_if, expr_call, expr_let, expr_choose, expr_match, no_exprs, exprs_of, match_arm, no_match_arms, match_arms_of}
use Rattle.cf_tree.specs.RelTree.{term_lit, term_var, term_add, term_mul, rel_false, rel_true, rel_compare, rel_and}
use Rattle.cf_program.specs.declared.fault.TypeFault.TheVariants.{Weight, Depth}
use Rattle.cf_program.specs.Checked.{TypedTree, size_fault, sized}
use Rattle.cf_program.specs.Lowered.{lowered}
use Rattle.cf_program.specs.Size.{weight_in, depth_in, weights, depths, first_above}

abbrev at : ℕ → Place
at column = record { line = 1; column = column }

abbrev int : ℕ → List ℕ → Param
int column x = record { place = at column; name = x; base = Int }

-- the scope of a match behind a and b, whose value has level 2
abbrev scope : List Param
scope = int 10 (codes "a") ∷ int 18 (codes "b") ∷ int 33 (codes "match") ∷ []

-- `match a with { 2 * i + 3 * j - 1 then i ; 3 then 0 }`, which is match 1, with choose 2 for i and j
abbrev matched : ExprTree
matched =
    expr_match 1 scope (expr_var 0)
    (match_arms_of (match_arm 2 (pos 2 ∷ pos 3 ∷ []) (negsuc 0) (expr_var 3) ∷ match_arm 0 [] (pos 3) (expr_lit (pos 0)) ∷ []))

-- the value is bound where `mod(match, 1) == 0 || match == 3`; then the first test alone picks the arm
lowered-match : lowered matched ≡
    expr_let 1
    (expr_let 1 (expr_var 0)
    (expr_if
    (expr_binary Or (expr_binary (Compare Eq) (expr_mod (expr_var 2) (pos 1)) (expr_lit (pos 0))) (expr_binary (Compare Eq) (expr_var 2) (expr_lit (pos 3))))
    (expr_var 2)
    (expr_choose 1 scope (Int ∷ []) rel_false)))
    (expr_if (expr_binary (Compare Eq) (expr_mod (expr_var 2) (pos 1)) (expr_lit (pos 0)))
    (expr_let 2
    (expr_choose 2 scope (Int ∷ Int ∷ [])
    (rel_compare Eq (term_var 2) (term_add (term_add (term_mul (term_lit (pos 2)) (term_var 3)) (term_mul (term_lit (pos 3)) (term_var 4))) (term_lit
    (negsuc 0)))))
    (expr_var 3))
    (expr_lit (pos 0)))
unfolding gcd_by
lowered-match = refl

-- the greatest common divisor of the factors, and the remainder of a negative constant; three arms, the last of which needs no test
lowered-three : lowered (expr_match 4 scope (expr_var 1) (match_arms_of (match_arm 0 (pos 0 ∷ []) (negsuc 4) (expr_lit (pos 1)) ∷ match_arm 5
    (negsuc 5 ∷ pos 4 ∷ []) (negsuc 2) (expr_lit (pos 2)) ∷ match_arm 0 [] (pos 7) (expr_lit (pos 3)) ∷ []))) ≡
    expr_let 1
    (expr_let 1 (expr_var 1)
    (expr_if
    (expr_binary Or
    (expr_binary Or (expr_binary (Compare Eq) (expr_var 2) (expr_lit (negsuc 4))) (expr_binary (Compare Eq) (expr_mod (expr_var 2) (pos 2)) (expr_lit (pos 1))))
    (expr_binary (Compare Eq) (expr_var 2) (expr_lit (pos 7))))
    (expr_var 2)
    (expr_choose 4 scope (Int ∷ []) rel_false)))
    (expr_if (expr_binary (Compare Eq) (expr_var 2) (expr_lit (negsuc 4)))
    (expr_let 1 (expr_choose 0 scope (Int ∷ []) (rel_compare Eq (term_var 2) (term_add (term_mul (term_lit (pos 0)) (term_var 3)) (term_lit (negsuc 4)))))
    (expr_lit (pos 1)))
    (expr_if (expr_binary (Compare Eq) (expr_mod (expr_var 2) (pos 2)) (expr_lit (pos 1)))
    (expr_let 2
    (expr_choose 5 scope (Int ∷ Int ∷ [])
    (rel_compare Eq (term_var 2) (term_add (term_add (term_mul (term_lit (negsuc 5)) (term_var 3)) (term_mul (term_lit (pos 4)) (term_var 4))) (term_lit
    (negsuc 2)))))
    (expr_lit (pos 2)))
    (expr_lit (pos 3))))
unfolding gcd_by
lowered-three = refl

-- a match without arms, and its lowered form, as a part of each other form
abbrev bare : ExprTree
bare = expr_match 1 (int 33 (codes "match") ∷ []) (expr_lit (pos 5)) no_match_arms

abbrev low : ExprTree
low =
    expr_let 1 (expr_let 1 (expr_lit (pos 5)) (expr_if (expr_truth false) (expr_var 0) (expr_choose 1 (int 33 (codes "match") ∷ []) (Int ∷ []) rel_false)))
    (expr_tuple no_exprs)

lowered-bare : lowered bare ≡ low
lowered-bare = refl

lowered-leaves : (lowered (expr_lit (pos 5)) ≡ expr_lit (pos 5)) × (lowered (expr_truth true) ≡ expr_truth true) × (lowered (expr_var 3) ≡ expr_var 3)
    × (lowered (expr_choose 3 [] (Int ∷ []) rel_true) ≡ expr_choose 3 [] (Int ∷ []) rel_true)
lowered-leaves = (refl, refl, refl, refl)

lowered-one : (lowered (expr_neg bare) ≡ expr_neg low) × (lowered (expr_not bare) ≡ expr_not low) × (lowered (expr_abs bare) ≡ expr_abs low)
    × (lowered (expr_card bare) ≡ expr_card low)
    × (lowered (expr_divides (pos 3) bare) ≡ expr_divides (pos 3) low) × (lowered (expr_div bare (pos 3)) ≡ expr_div low (pos 3))
    × (lowered (expr_mod bare (pos 3)) ≡ expr_mod low (pos 3))
lowered-one = (refl, refl, refl, refl, refl, refl, refl)

lowered-more : (lowered (expr_binary Add bare bare) ≡ expr_binary Add low low) × (lowered (expr_let 2 bare bare) ≡ expr_let 2 low low)
    × (lowered (expr_if bare bare bare) ≡ expr_if low low low)
    × (lowered (expr_call 7 (exprs_of (bare ∷ bare ∷ []))) ≡ expr_call 7 (exprs_of (low ∷ low ∷ [])))
    × (lowered (expr_set_of (exprs_of (bare ∷ bare ∷ []))) ≡ expr_set_of (exprs_of (low ∷ low ∷ [])))
    × (lowered (expr_tuple (exprs_of (bare ∷ bare ∷ []))) ≡ expr_tuple (exprs_of (low ∷ low ∷ [])))
lowered-more = (refl, refl, refl, refl, refl, refl)

-- the matched value and the bodies are lowered too
lowered-inside : lowered (expr_match 2 (int 33 (codes "match") ∷ []) bare (match_arms_of (match_arm 0 [] (pos 3) bare ∷ []))) ≡
    expr_let 1
    (expr_let 1 low
    (expr_if (expr_binary (Compare Eq) (expr_var 0) (expr_lit (pos 3))) (expr_var 0) (expr_choose 2 (int 33 (codes "match") ∷ []) (Int ∷ []) rel_false)))
    low
lowered-inside = refl

-- weights and depths: x has weight 3 and depth 2, and a function of number f has f more than 10
abbrev x : ExprTree
x = expr_binary Add (expr_var 0) (expr_lit (pos 1))

abbrev k : ExprTree
k = expr_lit (pos 1)

abbrev calls : ℕ → ℕ
calls f = 10 + f

weights-of : (weight_in calls k ≡ 1) × (weight_in calls (expr_truth true) ≡ 1) × (weight_in calls (expr_var 7) ≡ 1)
    × (weight_in calls (expr_set_of (exprs_of (x ∷ k ∷ []))) ≡ 5)
    × (weight_in calls (expr_tuple (exprs_of (k ∷ x ∷ []))) ≡ 5) × (weight_in calls (expr_neg x) ≡ 4) × (weight_in calls (expr_not x) ≡ 4)
    × (weight_in calls (expr_abs x) ≡ 4)
    × (weight_in calls (expr_card x) ≡ 4) × (weight_in calls (expr_divides (pos 2) x) ≡ 4) × (weight_in calls (expr_div x (pos 2)) ≡ 4)
    × (weight_in calls (expr_mod x (pos 2)) ≡ 4)
    × (weight_in calls (expr_binary Add x k) ≡ 5) × (weight_in calls (expr_binary Add k x) ≡ 5) × (weight_in calls (expr_let 1 x k) ≡ 5)
    × (weight_in calls (expr_let 1 k x) ≡ 5)
    × (weight_in calls (expr_if x k k) ≡ 6) × (weight_in calls (expr_if k x k) ≡ 6) × (weight_in calls (expr_if k k x) ≡ 6)
    × (weight_in calls (expr_call 2 (exprs_of (x ∷ k ∷ []))) ≡ 17)
    × (weight_in calls (expr_choose 1 [] (Int ∷ []) (rel_and rel_true (rel_compare Eq (term_var 0) (term_lit (pos 1))))) ≡ 6)
weights-of = (refl, refl, refl, refl, refl, refl, refl, refl, refl, refl, refl, refl, refl, refl, refl, refl, refl, refl, refl, refl, refl)

depths-of : (depth_in calls k ≡ 1) × (depth_in calls (expr_truth true) ≡ 1) × (depth_in calls (expr_var 7) ≡ 1)
    × (depth_in calls (expr_set_of (exprs_of (x ∷ k ∷ []))) ≡ 3)
    × (depth_in calls (expr_tuple (exprs_of (k ∷ x ∷ []))) ≡ 3) × (depth_in calls (expr_neg x) ≡ 3) × (depth_in calls (expr_not x) ≡ 3)
    × (depth_in calls (expr_abs x) ≡ 3)
    × (depth_in calls (expr_card x) ≡ 3) × (depth_in calls (expr_divides (pos 2) x) ≡ 3) × (depth_in calls (expr_div x (pos 2)) ≡ 3)
    × (depth_in calls (expr_mod x (pos 2)) ≡ 3)
    × (depth_in calls (expr_binary Add x k) ≡ 3) × (depth_in calls (expr_binary Add k x) ≡ 3) × (depth_in calls (expr_let 1 x k) ≡ 3)
    × (depth_in calls (expr_let 1 k x) ≡ 3)
    × (depth_in calls (expr_if x k k) ≡ 3) × (depth_in calls (expr_if k x k) ≡ 3) × (depth_in calls (expr_if k k x) ≡ 3)
    × (depth_in calls (expr_call 2 (exprs_of (x ∷ k ∷ []))) ≡ 13)
    × (depth_in (λ f. 0) (expr_call 2 (exprs_of (k ∷ x ∷ []))) ≡ 3) × (depth_in calls (expr_set_of no_exprs) ≡ 1)
    × (depth_in calls (expr_choose 1 [] (Int ∷ []) (rel_and rel_true (rel_compare Eq (term_var 0) (term_lit (pos 1))))) ≡ 4)
depths-of = (refl, refl, refl, refl, refl, refl, refl, refl, refl, refl, refl, refl, refl, refl, refl, refl, refl, refl, refl, refl, refl, refl, refl)

-- a match counts as its lowered form
abbrev def : ExprTree → DefTree
def body = record { name = codes "f"; params = []; results = Int ∷ []; body = body }

measures-match : (weights (def matched ∷ []) ≡ 35 ∷ []) × (depths (def matched ∷ []) ≡ 9 ∷ [])
unfolding gcd_by
measures-match = (refl, refl)

-- a function sees those before it
abbrev call : ℕ → ExprTree
call f = expr_call f (exprs_of (k ∷ []))

measures-calls : (weights (def x ∷ def (call 0) ∷ def (expr_binary Add (call 0) (call 1)) ∷ []) ≡ 3 ∷ 5 ∷ 13 ∷ [])
    × (depths (def x ∷ def (call 0) ∷ def (expr_binary Add (call 0) (call 1)) ∷ []) ≡ 2 ∷ 3 ∷ 5 ∷ [])
measures-calls = (refl, refl)

-- the first count that passes the limit is told with its place, and stands still at 2^64 - 1
first_is : (first_above 200 0 (200 ∷ 201 ∷ 202 ∷ []) ≡ Some (1, 201)) × (first_above 200 0 (200 ∷ []) ≡ None)
    × (first_above 200 0 (7 ∷ 2 ^ 70 ∷ []) ≡ Some (1, 2 ^ 64 - 1))
first_is = (refl, refl, refl)

first_over : (size_fault 200 Depth (200 ∷ 201 ∷ 202 ∷ []) ≡ Some (Depth 201)) × (size_fault 200 Depth (200 ∷ []) ≡ None)
    × (size_fault 200 Weight (2 ^ 70 ∷ []) ≡ Some (Weight (2 ^ 64 - 1)))
first_over = (refl, refl, refl)

abbrev negated : ℕ → ExprTree
negated zero = k
negated (suc n) = expr_neg (negated n)

abbrev program : List DefTree → TypedTree
program defs = record { defs = defs; main = 0 }

-- 199 signs are within the limit of depth, 200 are not
sized-depth : (sized (program (def (negated 199) ∷ [])) ≡ Ok (program (def (negated 199) ∷ [])))
    × (sized (program (def (negated 200) ∷ [])) ≡ Err (Depth 201))
sized-depth = (refl, refl)

-- functions that each call the one before them twice
abbrev doubled : ℕ → ℕ → List DefTree
doubled zero f = []
doubled (suc n) f = def (expr_binary Add (call f) (call f)) ∷ doubled n (suc f)

sized-weight : sized (program (def (expr_var 0) ∷ doubled 18 0)) ≡ Err (Weight 1572859)
sized-weight = refl

-- weights come before depths
sized-order : sized (program (def (negated 200) ∷ doubled 18 0)) ≡ Err (Weight 1687547)
sized-order = refl
