-- Worked examples that hold down what each form of a source expression allows.
use Rattle.std.specs.Prelude.{ℕ, ℤ, pos, negsuc, ◌≡◌, true, false, List, [], ◌∷◌}
use Rattle.std.proofs.Common.{refl, inl, inr, arith}
use Rattle.std.proofs.lemmas.Int.{ints}
use Rattle.cf_tree.specs.declared.base.Base.TheVariants.{Int}
use Rattle.cf_tree.specs.declared.base.Order.TheVariants.{Eq, Ne, Lt}
use Rattle.cf_tree.specs.declared.raw.BinOp.{BinOp}
use Rattle.cf_tree.specs.declared.raw.BinOp.TheVariants.{Add, Sub, Mul, And, Or, Union, Inter, Diff, Subset, Compare}
use Rattle.cf_tree.specs.Allowed.{Allowed, ProgramAllows, goes_on, ends_at, pattern_value}
use Rattle.cf_tree.specs.ExprTree.{ExprTree, expr_lit, expr_truth, expr_var, expr_set_of, expr_tuple, expr_neg, expr_not, expr_abs, expr_binary, expr_divides, expr_div, expr_mod, expr_card, expr_if, expr_call, expr_let, expr_choose, expr_match, exprs_of, match_arm, match_arms_of}
use Rattle.cf_tree.specs.RelTree.{rel_false}
use Rattle.cf_tree.specs.Values.{Value, number, truth, elements, Outcome, values, no_solution, number_of, first_of}

abbrev num : ℤ → Value
num z = number z

abbrev set : List ℤ → Value
set zs = elements zs

-- choose number n without solutions
abbrev nothing : ℕ → ExprTree
nothing n = expr_choose n [] (Int ∷ []) rel_false

-- an expression that calls nothing allows this one value
abbrev Gives : ExprTree → List Value → Value → Type 0
Gives e env v = Allowed [] e env (values (v ∷ []))

abbrev Ends : ExprTree → List Value → ℕ → Type 0
Ends e env n = Allowed [] e env (no_solution n)

nothing-ends : (n : ℕ) → Ends (nothing n) [] n
nothing-ends n = (refl, λ xs s. s.1)

-- literals, truth values, variables
leaves : (Gives (expr_lit (negsuc 6)) [] (num (negsuc 6))) × (Gives (expr_truth true) [] (truth true)) × (Gives (expr_truth false) [] (truth false))
    × (Gives (expr_var 1) (num (pos 4) ∷ set (pos 9 ∷ []) ∷ []) (set (pos 9 ∷ [])))
leaves = (refl, refl, refl, refl)

-- a set of what its parts give, a tuple of it in order
set-of : Gives (expr_set_of (exprs_of (expr_lit (pos 3) ∷ expr_lit (pos 1) ∷ expr_lit (pos 3) ∷ []))) [] (set (pos 1 ∷ pos 3 ∷ []))
set-of =
    goes_on (num (pos 3) ∷ num (pos 1) ∷ num (pos 3) ∷ [])
    (goes_on (num (pos 3) ∷ []) refl (goes_on (num (pos 1) ∷ num (pos 3) ∷ []) (goes_on (num (pos 1) ∷ []) refl (goes_on (num (pos 3) ∷ []) (goes_on (num
    (pos 3) ∷ []) refl (goes_on [] refl refl)) refl)) refl))
    refl

tuple-of : Allowed [] (expr_tuple (exprs_of (expr_lit (pos 3) ∷ expr_truth true ∷ []))) [] (values (num (pos 3) ∷ truth true ∷ []))
tuple-of = goes_on (num (pos 3) ∷ []) refl (goes_on (truth true ∷ []) (goes_on (truth true ∷ []) refl (goes_on [] refl refl)) refl)

-- one part
neg-of : Gives (expr_neg (expr_var 0)) (num (pos 5) ∷ []) (num (negsuc 4))
neg-of = goes_on (num (pos 5) ∷ []) refl refl

not-of : (Gives (expr_not (expr_var 0)) (truth true ∷ []) (truth false)) × (Gives (expr_not (expr_var 0)) (truth false ∷ []) (truth true))
not-of = (goes_on (truth true ∷ []) refl refl, goes_on (truth false ∷ []) refl refl)

abs-of : (Gives (expr_abs (expr_var 0)) (num (negsuc 4) ∷ []) (num (pos 5))) × (Gives (expr_abs (expr_var 0)) (num (pos 5) ∷ []) (num (pos 5)))
abs-of = (goes_on (num (negsuc 4) ∷ []) refl refl, goes_on (num (pos 5) ∷ []) refl refl)

divides-of : (Gives (expr_divides (pos 3) (expr_var 0)) (num (negsuc 5) ∷ []) (truth true))
    × (Gives (expr_divides (pos 3) (expr_var 0)) (num (pos 5) ∷ []) (truth false))
divides-of = (goes_on (num (negsuc 5) ∷ []) refl refl, goes_on (num (pos 5) ∷ []) refl refl)

div-of : Gives (expr_div (expr_var 0) (pos 3)) (num (negsuc 6) ∷ []) (num (negsuc 2))
div-of = goes_on (num (negsuc 6) ∷ []) refl refl

mod-of : Gives (expr_mod (expr_var 0) (pos 3)) (num (negsuc 6) ∷ []) (num (pos 2))
mod-of = goes_on (num (negsuc 6) ∷ []) refl refl

card-of : Gives (expr_card (expr_var 0)) (set (negsuc 6 ∷ pos 2 ∷ pos 8 ∷ []) ∷ []) (num (pos 3))
card-of = goes_on (set (negsuc 6 ∷ pos 2 ∷ pos 8 ∷ []) ∷ []) refl refl

-- two parts, neither of which decides
abbrev Makes : BinOp → Value → Value → Value → Type 0
Makes op v w r = Gives (expr_binary op (expr_var 0) (expr_var 1)) (v ∷ w ∷ []) r

add-of : Makes Add (num (pos 3)) (num (pos 5)) (num (pos 8))
add-of = goes_on (num (pos 3) ∷ []) refl (goes_on (num (pos 5) ∷ []) refl refl)

sub-of : Makes Sub (num (pos 3)) (num (pos 5)) (num (negsuc 1))
sub-of = goes_on (num (pos 3) ∷ []) refl (goes_on (num (pos 5) ∷ []) refl refl)

mul-of : Makes Mul (num (pos 3)) (num (negsuc 4)) (num (negsuc 14))
mul-of = goes_on (num (pos 3) ∷ []) refl (goes_on (num (negsuc 4) ∷ []) refl refl)

abbrev left : List ℤ
left = pos 1 ∷ pos 2 ∷ []

abbrev right : List ℤ
right = pos 2 ∷ pos 3 ∷ []

union-of : Makes Union (set left) (set right) (set (pos 1 ∷ pos 2 ∷ pos 3 ∷ []))
union-of = goes_on (set left ∷ []) refl (goes_on (set right ∷ []) refl refl)

inter-of : Makes Inter (set left) (set right) (set (pos 2 ∷ []))
inter-of = goes_on (set left ∷ []) refl (goes_on (set right ∷ []) refl refl)

diff-of : Makes Diff (set left) (set right) (set (pos 1 ∷ []))
diff-of = goes_on (set left ∷ []) refl (goes_on (set right ∷ []) refl refl)

subset-of : (Makes Subset (set (pos 2 ∷ [])) (set left) (truth true)) × (Makes Subset (set left) (set (pos 2 ∷ [])) (truth false))
    × (Makes Subset (set left) (set right) (truth false))
subset-of = (
  goes_on (set (pos 2 ∷ []) ∷ []) refl (goes_on (set left ∷ []) refl refl),
  goes_on (set left ∷ []) refl (goes_on (set (pos 2 ∷ []) ∷ []) refl refl),
  goes_on (set left ∷ []) refl (goes_on (set right ∷ []) refl refl),
)

less-of : (Makes (Compare Lt) (num (pos 3)) (num (pos 5)) (truth true)) × (Makes (Compare Lt) (num (pos 3)) (num (pos 3)) (truth false))
less-of = (goes_on (num (pos 3) ∷ []) refl (goes_on (num (pos 5) ∷ []) refl refl), goes_on (num (pos 3) ∷ []) refl (goes_on (num (pos 3) ∷ []) refl refl))

same-of : (Makes (Compare Eq) (set left) (set left) (truth true)) × (Makes (Compare Ne) (truth true) (truth false) (truth true))
same-of = (goes_on (set left ∷ []) refl (goes_on (set left ∷ []) refl refl), goes_on (truth true ∷ []) refl (goes_on (truth false ∷ []) refl refl))

-- && and ||: the right side counts where the left side does not decide
and-true : (Makes And (truth true) (truth true) (truth true)) × (Makes And (truth true) (truth false) (truth false))
and-true = (goes_on (truth true ∷ []) refl refl, goes_on (truth true ∷ []) refl refl)

and-false : Gives (expr_binary And (expr_truth false) (nothing 1)) [] (truth false)
and-false = goes_on (truth false ∷ []) refl refl

or-false : (Makes Or (truth false) (truth true) (truth true)) × (Makes Or (truth false) (truth false) (truth false))
or-false = (goes_on (truth false ∷ []) refl refl, goes_on (truth false ∷ []) refl refl)

or-true : Gives (expr_binary Or (expr_truth true) (nothing 1)) [] (truth true)
or-true = goes_on (truth true ∷ []) refl refl

and-ends : (Ends (expr_binary And (nothing 1) (nothing 2)) [] 1) × (Ends (expr_binary And (expr_truth true) (nothing 2)) [] 2)
and-ends = (ends_at 1 (nothing-ends 1) refl, goes_on (truth true ∷ []) refl (nothing-ends 2))

or-ends : (Ends (expr_binary Or (nothing 1) (nothing 2)) [] 1) × (Ends (expr_binary Or (expr_truth false) (nothing 2)) [] 2)
or-ends = (ends_at 1 (nothing-ends 1) refl, goes_on (truth false ∷ []) refl (nothing-ends 2))

-- the first part without a solution ends the whole, from the left and from the right
add-ends : (Ends (expr_binary Add (nothing 1) (nothing 2)) [] 1) × (Ends (expr_binary Add (expr_lit (pos 1)) (nothing 2)) [] 2)
add-ends = (ends_at 1 (nothing-ends 1) refl, goes_on (num (pos 1) ∷ []) refl (ends_at 2 (nothing-ends 2) refl))

add-ends_at_first : Ends (expr_binary Add (nothing 1) (nothing 2)) [] 2 → ⊥
add-ends_at_first (goes_on vs e s) = e.1
add-ends_at_first (ends_at n e o) = let at : n ≡ 1 = e.0 in cc

parts-end : (Ends (expr_tuple (exprs_of (nothing 1 ∷ nothing 2 ∷ []))) [] 1) × (Ends (expr_tuple (exprs_of (expr_lit (pos 1) ∷ nothing 2 ∷ []))) [] 2)
parts-end = (ends_at 1 (nothing-ends 1) refl, goes_on (num (pos 1) ∷ []) refl (ends_at 2 (ends_at 2 (nothing-ends 2) refl) refl))

one-ends : (Ends (expr_neg (nothing 1)) [] 1) × (Ends (expr_not (nothing 1)) [] 1) × (Ends (expr_abs (nothing 1)) [] 1)
    × (Ends (expr_divides (pos 2) (nothing 1)) [] 1)
    × (Ends (expr_div (nothing 1) (pos 2)) [] 1) × (Ends (expr_mod (nothing 1) (pos 2)) [] 1) × (Ends (expr_card (nothing 1)) [] 1)
    × (Ends (expr_set_of (exprs_of (nothing 1 ∷ []))) [] 1) × (Ends (expr_let 1 (nothing 1) (nothing 2)) [] 1)
    × (Ends (expr_if (nothing 1) (nothing 2) (nothing 3)) [] 1)
one-ends = (
  ends_at 1 (nothing-ends 1) refl,
  ends_at 1 (nothing-ends 1) refl,
  ends_at 1 (nothing-ends 1) refl,
  ends_at 1 (nothing-ends 1) refl,
  ends_at 1 (nothing-ends 1) refl,
  ends_at 1 (nothing-ends 1) refl,
  ends_at 1 (nothing-ends 1) refl,
  ends_at 1 (ends_at 1 (nothing-ends 1) refl) refl,
  ends_at 1 (nothing-ends 1) refl,
  ends_at 1 (nothing-ends 1) refl,
)

-- only the branch that is taken counts
if-of : (Gives (expr_if (expr_truth true) (expr_lit (pos 1)) (nothing 3)) [] (num (pos 1)))
    × (Gives (expr_if (expr_truth false) (nothing 2) (expr_lit (pos 2))) [] (num (pos 2)))
if-of = (goes_on (truth true ∷ []) refl refl, goes_on (truth false ∷ []) refl refl)

-- a let of a tuple, behind another variable
let-of : Gives (expr_let 2 (expr_tuple (exprs_of (expr_lit (pos 10) ∷ expr_lit (pos 4) ∷ []))) (expr_binary Sub (expr_var 1) (expr_var 2))) (num
    (pos 100) ∷ []) (num (pos 6))
let-of =
    goes_on (num (pos 10) ∷ num (pos 4) ∷ [])
    (goes_on (num (pos 10) ∷ []) refl (goes_on (num (pos 4) ∷ []) (goes_on (num (pos 4) ∷ []) refl (goes_on [] refl refl)) refl))
    (goes_on (num (pos 10) ∷ []) refl (goes_on (num (pos 4) ∷ []) refl refl))

-- a call takes all arguments, and no other variable; a function calls only those before it
call-of : ProgramAllows (expr_binary Sub (expr_var 0) (expr_var 1) ∷ expr_call 0 (exprs_of (expr_var 1 ∷ expr_var 0 ∷ [])) ∷ []) 1 (num (pos 3) ∷ num
    (pos 5) ∷ []) (values (num (pos 2) ∷ []))
call-of =
    goes_on (num (pos 5) ∷ num (pos 3) ∷ [])
    (goes_on (num (pos 5) ∷ []) refl (goes_on (num (pos 3) ∷ []) (goes_on (num (pos 3) ∷ []) refl (goes_on [] refl refl)) refl))
    (goes_on (num (pos 5) ∷ []) refl (goes_on (num (pos 3) ∷ []) refl refl))

call-of_itself : (o : Outcome) → ProgramAllows (expr_call 0 (exprs_of []) ∷ []) 0 [] o → ⊥
call-of_itself o (goes_on vs e s) = s
call-of_itself o (ends_at n e p) = cc

-- a choose has its own number where it has no solution
choose-other_number : Ends (nothing 1) [] 2 → ⊥
choose-other_number s = let e : 2 ≡ 1 = s.0 in omega (arith, e)

-- 2 * i + 1, then 3 * i + 5 * j - 1, then 4: the value is a variable behind the scope, and those of the pattern stand behind it
abbrev arms : ExprTree
arms =
    expr_match 1 [] (expr_var 0) (match_arms_of (
    match_arm 2 (pos 4 ∷ []) (pos 1) (expr_lit (pos 1))
    ∷ match_arm 3 (pos 3 ∷ pos 6 ∷ []) (negsuc 0) (expr_binary Sub (expr_var 2) (expr_var 3))
    ∷ match_arm 0 [] (pos 4) (expr_var 1)
    ∷ []))

abbrev number_in : Outcome → ℤ
number_in (values vs) = number_of (first_of vs)
number_in (no_solution n) = pos 0

no_first : (k : ℤ) → (is : List ℤ) → k ≡ pattern_value (pos 4 ∷ []) (pos 1) is → (k ≡ pos 8 → ⊥) × (k ≡ pos 4 → ⊥) × (k ≡ pos 6 → ⊥)
no_first k [] e = (λ h. omega (arith, ints, e, h), λ h. omega (arith, ints, e, h), λ h. omega (arith, ints, e, h))
no_first k (i ∷ is) e = (λ h. omega (arith, ints, e, h), λ h. omega (arith, ints, e, h), λ h. omega (arith, ints, e, h))

no_second : (k : ℤ) → (is : List ℤ) → k ≡ pattern_value (pos 3 ∷ pos 6 ∷ []) (negsuc 0) is → (k ≡ pos 4 → ⊥) × (k ≡ pos 6 → ⊥)
no_second k [] e = (λ h. omega (arith, ints, e, h), λ h. omega (arith, ints, e, h))
no_second k (i ∷ []) e = (λ h. omega (arith, ints, e, h), λ h. omega (arith, ints, e, h))
no_second k (i ∷ j ∷ is) e = (λ h. omega (arith, ints, e, h), λ h. omega (arith, ints, e, h))

-- 8 is 3 * 1 + 6 * 1 - 1 and 3 * 5 + 6 * -1 - 1: any numbers that make the value may be taken
arms-second : Gives arms (num (pos 8) ∷ []) (num (pos 0))
arms-second =
    goes_on (num (pos 8) ∷ []) refl (inr (
      λ is s. (no_first (pos 8) is s.1).0 refl,
      inl (pos 1 ∷ pos 1 ∷ [], (refl, refl), goes_on (num (pos 1) ∷ []) refl (goes_on (num (pos 1) ∷ []) refl refl)),
    ))

arms-second_too : Gives arms (num (pos 8) ∷ []) (num (pos 6))
arms-second_too =
    goes_on (num (pos 8) ∷ []) refl (inr (
      λ is s. (no_first (pos 8) is s.1).0 refl,
      inl (pos 5 ∷ negsuc 0 ∷ [], (refl, refl), goes_on (num (pos 5) ∷ []) refl (goes_on (num (negsuc 0) ∷ []) refl refl)),
    ))

-- an arm without variables, whose body is the matched value
arms-third : Gives arms (num (pos 4) ∷ []) (num (pos 4))
arms-third =
    goes_on (num (pos 4) ∷ []) refl (inr (
      λ is s. (no_first (pos 4) is s.1).1 refl,
      inr (λ is s. (no_second (pos 4) is s.1).0 refl, inl ([], (refl, refl), refl)),
    ))

-- no arm fits 6, and the match has its own number then
arms-none : Ends arms (num (pos 6) ∷ []) 1
arms-none =
    goes_on (num (pos 6) ∷ []) refl (inr (
      λ is s. (no_first (pos 6) is s.1).2 refl,
      inr (λ is s. (no_second (pos 6) is s.1).1 refl, inr (λ is s. omega (arith, ints, s.1), refl)),
    ))

match-ends : Ends (expr_match 1 [] (nothing 5) (match_arms_of [])) [] 5
match-ends = ends_at 5 (nothing-ends 5) refl
