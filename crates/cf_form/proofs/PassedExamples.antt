-- Worked examples that hold down which relations have atoms with too many alternatives, and which number is told.
use Rattle.std.specs.Prelude.{ℕ, zero, suc, pos, List, Option, Some, None, ◌≡◌, [], ◌∷◌, refl}
use Rattle.cf_tree.specs.declared.base.Base.{Base}
use Rattle.cf_tree.specs.declared.base.Base.TheVariants.{Int, Bool as Truth, Set}
use Rattle.cf_tree.specs.ExprTree.{ExprTree, expr_abs, expr_binary, expr_card, expr_chain, expr_div, expr_divides, expr_if, expr_lit, expr_max, expr_min, expr_mod, expr_neg, expr_not, expr_var, exprs_of}
use Rattle.cf_tree.specs.declared.base.Order.TheVariants.{Eq, Le, Lt, Ne}
use Rattle.cf_tree.specs.declared.raw.BinOp.TheVariants.{Add, And, Compare, Diff, Implies, Inter, Mul, Or, Sub, Subset, Union}
use Rattle.cf_form.specs.Expansion.{wide_of}
use Rattle.cf_form.specs.Passed.{above, passed}

-- the limit
limit_above : above 1024 ≡ None
limit_above = refl

limit_passed : above 1025 ≡ Some 1025
limit_passed = refl

-- parameters a, b, s, t, and outputs x, u, p, q
abbrev bases : List Base
bases = Int ∷ Int ∷ Set ∷ Set ∷ Int ∷ Set ∷ Truth ∷ Truth ∷ []

-- `min(x, .., x)` of k parts, and `max(e, e)`
abbrev copies : ℕ → List ExprTree
copies zero = []
copies (suc k) = expr_var 4 ∷ copies k

abbrev least_of : ℕ → ExprTree
least_of k = expr_min (exprs_of (copies k))

abbrev doubled : ExprTree → ExprTree
doubled e = expr_max (exprs_of (e ∷ e ∷ []))

abbrev first : ExprTree → Option ℕ
first e = passed (wide_of [] bases e)

-- min of eleven: 1,024 alternatives
abbrev within : ExprTree
within = expr_binary (Compare Eq) (least_of 11) (expr_lit (pos 1))

within_passed : first within ≡ None
within_passed = refl

-- one more than that
abbrev past_by_one : ExprTree
past_by_one = expr_binary (Compare Eq) (expr_if (expr_var 6) (least_of 11) (expr_lit (pos 1))) (expr_lit (pos 1))

past_by_one_passed : first past_by_one ≡ Some 1025
past_by_one_passed = refl

-- min of twelve
abbrev one_more : ExprTree
one_more = expr_binary (Compare Eq) (least_of 12) (expr_lit (pos 1))

one_more_passed : first one_more ≡ Some 2048
one_more_passed = refl

-- two sides that together pass
abbrev two_sides : ExprTree
two_sides = expr_binary (Compare Eq) (least_of 6) (least_of 7)

two_sides_passed : first two_sides ≡ Some 2048
two_sides_passed = refl

-- two sides that together are just within
abbrev two_sides_within : ExprTree
two_sides_within = expr_binary (Compare Eq) (least_of 6) (least_of 6)

two_sides_within_passed : first two_sides_within ≡ None
two_sides_within_passed = refl

-- a test inside an atom that is within
abbrev in_test : ExprTree
in_test = expr_binary (Compare Eq) (expr_if (expr_binary (Compare Eq) (least_of 13) (expr_lit (pos 1))) (expr_lit (pos 1)) (expr_lit (pos 2))) (expr_var 4)

in_test_passed : first in_test ≡ Some 4096
in_test_passed = refl

-- a branch before the test
abbrev branch_first : ExprTree
branch_first =
    expr_binary (Compare Eq)
    (expr_if
    (expr_binary (Compare Eq) (least_of 13) (expr_lit (pos 1)))
    (expr_if (expr_binary (Compare Eq) (least_of 14) (expr_lit (pos 1))) (expr_lit (pos 1)) (expr_lit (pos 2)))
    (expr_lit (pos 2)))
    (expr_var 4)

branch_first_passed : first branch_first ≡ Some 8192
branch_first_passed = refl

-- the atom before its tests
abbrev atom_first : ExprTree
atom_first =
    expr_binary (Compare Eq) (expr_if (expr_binary (Compare Eq) (least_of 13) (expr_lit (pos 1))) (expr_lit (pos 1)) (expr_lit (pos 2))) (least_of 11)

atom_first_passed : first atom_first ≡ Some 2048
atom_first_passed = refl

-- the first of two
abbrev in_order : ExprTree
in_order =
    expr_binary Implies
    (expr_not (expr_binary And (expr_var 6) (expr_binary (Compare Eq) (least_of 14) (expr_lit (pos 1)))))
    (expr_binary (Compare Eq) (least_of 13) (expr_lit (pos 1)))

in_order_passed : first in_order ≡ Some 8192
in_order_passed = refl

-- of a truth value the test first
abbrev test_first : ExprTree
test_first =
    expr_if
    (expr_binary (Compare Eq) (least_of 14) (expr_lit (pos 1)))
    (expr_binary (Compare Eq) (least_of 13) (expr_lit (pos 2)))
    (expr_binary (Compare Eq) (least_of 12) (expr_lit (pos 3)))

test_first_passed : first test_first ≡ Some 8192
test_first_passed = refl

-- the second link
abbrev in_chain : ExprTree
in_chain = expr_chain (Le ∷ Le ∷ []) (exprs_of (expr_var 0 ∷ least_of 4 ∷ least_of 9 ∷ []))

in_chain_passed : first in_chain ≡ Some 2048
in_chain_passed = refl

-- a test in the first link before the second link
abbrev chain_test : ExprTree
chain_test =
    expr_chain (Le ∷ Le ∷ [])
    (exprs_of (expr_var 0 ∷ expr_if (expr_binary (Compare Eq) (least_of 13) (expr_lit (pos 1))) (expr_lit (pos 1)) (expr_lit (pos 2)) ∷ least_of 11 ∷ []))

chain_test_passed : first chain_test ≡ Some 4096
chain_test_passed = refl

-- a divided form
abbrev in_division : ExprTree
in_division = expr_divides (pos 2) (least_of 12)

in_division_passed : first in_division ≡ Some 2048
in_division_passed = refl

-- sets
abbrev in_set : ExprTree
in_set =
    expr_binary (Compare Eq) (expr_card (expr_if (expr_binary (Compare Eq) (least_of 12) (expr_lit (pos 1))) (expr_var 2) (expr_var 3))) (expr_lit (pos 1))

in_set_passed : first in_set ≡ Some 2048
in_set_passed = refl

-- in each number form
abbrev all_forms : ExprTree
all_forms =
    expr_binary (Compare Eq)
    (expr_binary Mul
    (expr_div (expr_mod (expr_abs (expr_neg (expr_binary Sub (expr_binary Add (least_of 13) (expr_lit (pos 1))) (expr_lit (pos 2))))) (pos 3)) (pos 4))
    (expr_lit (pos 5)))
    (expr_lit (pos 1))

all_forms_passed : first all_forms ≡ Some 4096
all_forms_passed = refl

-- a count that stands still
abbrev saturating : ExprTree
saturating = expr_binary (Compare Eq) (doubled (doubled (doubled (doubled (doubled (doubled (doubled (expr_var 4)))))))) (expr_lit (pos 1))

saturating_passed : first saturating ≡ Some 18446744073709551615
saturating_passed = refl

-- a test in the left side
abbrev union_left : ExprTree
union_left =
    expr_binary (Compare Eq)
    (expr_card (expr_binary Union (expr_if (expr_binary (Compare Eq) (least_of 13) (expr_lit (pos 1))) (expr_var 2) (expr_var 3)) (expr_var 5)))
    (expr_lit (pos 1))

union_left_passed : first union_left ≡ Some 4096
union_left_passed = refl

-- a test in the right side
abbrev union_right : ExprTree
union_right =
    expr_binary (Compare Eq)
    (expr_card (expr_binary Union (expr_var 5) (expr_if (expr_binary (Compare Eq) (least_of 13) (expr_lit (pos 1))) (expr_var 2) (expr_var 3))))
    (expr_lit (pos 1))

union_right_passed : first union_right ≡ Some 4096
union_right_passed = refl

-- a test in the left side
abbrev inter_left : ExprTree
inter_left =
    expr_binary (Compare Eq)
    (expr_card (expr_binary Inter (expr_if (expr_binary (Compare Eq) (least_of 13) (expr_lit (pos 1))) (expr_var 2) (expr_var 3)) (expr_var 5)))
    (expr_lit (pos 1))

inter_left_passed : first inter_left ≡ Some 4096
inter_left_passed = refl

-- a test in the right side
abbrev inter_right : ExprTree
inter_right =
    expr_binary (Compare Eq)
    (expr_card (expr_binary Inter (expr_var 5) (expr_if (expr_binary (Compare Eq) (least_of 13) (expr_lit (pos 1))) (expr_var 2) (expr_var 3))))
    (expr_lit (pos 1))

inter_right_passed : first inter_right ≡ Some 4096
inter_right_passed = refl

-- a test in the left side
abbrev diff_left : ExprTree
diff_left =
    expr_binary (Compare Eq)
    (expr_card (expr_binary Diff (expr_if (expr_binary (Compare Eq) (least_of 13) (expr_lit (pos 1))) (expr_var 2) (expr_var 3)) (expr_var 5)))
    (expr_lit (pos 1))

diff_left_passed : first diff_left ≡ Some 4096
diff_left_passed = refl

-- a test in the right side
abbrev diff_right : ExprTree
diff_right =
    expr_binary (Compare Eq)
    (expr_card (expr_binary Diff (expr_var 5) (expr_if (expr_binary (Compare Eq) (least_of 13) (expr_lit (pos 1))) (expr_var 2) (expr_var 3))))
    (expr_lit (pos 1))

diff_right_passed : first diff_right ≡ Some 4096
diff_right_passed = refl

-- a test in the left side
abbrev same_set_left : ExprTree
same_set_left = expr_binary (Compare Eq) (expr_if (expr_binary (Compare Eq) (least_of 13) (expr_lit (pos 1))) (expr_var 2) (expr_var 3)) (expr_var 5)

same_set_left_passed : first same_set_left ≡ Some 4096
same_set_left_passed = refl

-- a test in the right side
abbrev same_set_right : ExprTree
same_set_right = expr_binary (Compare Eq) (expr_var 5) (expr_if (expr_binary (Compare Eq) (least_of 13) (expr_lit (pos 1))) (expr_var 2) (expr_var 3))

same_set_right_passed : first same_set_right ≡ Some 4096
same_set_right_passed = refl

-- a test in the left side
abbrev other_set_left : ExprTree
other_set_left = expr_binary (Compare Ne) (expr_if (expr_binary (Compare Eq) (least_of 13) (expr_lit (pos 1))) (expr_var 2) (expr_var 3)) (expr_var 5)

other_set_left_passed : first other_set_left ≡ Some 4096
other_set_left_passed = refl

-- a test in the right side
abbrev other_set_right : ExprTree
other_set_right = expr_binary (Compare Ne) (expr_var 5) (expr_if (expr_binary (Compare Eq) (least_of 13) (expr_lit (pos 1))) (expr_var 2) (expr_var 3))

other_set_right_passed : first other_set_right ≡ Some 4096
other_set_right_passed = refl

-- a test in the left side
abbrev subset_left : ExprTree
subset_left = expr_binary Subset (expr_if (expr_binary (Compare Eq) (least_of 13) (expr_lit (pos 1))) (expr_var 2) (expr_var 3)) (expr_var 5)

subset_left_passed : first subset_left ≡ Some 4096
subset_left_passed = refl

-- a test in the right side
abbrev subset_right : ExprTree
subset_right = expr_binary Subset (expr_var 5) (expr_if (expr_binary (Compare Eq) (least_of 13) (expr_lit (pos 1))) (expr_var 2) (expr_var 3))

subset_right_passed : first subset_right ≡ Some 4096
subset_right_passed = refl

-- the alternatives of both sides together
abbrev same_set_sides : ExprTree
same_set_sides =
    expr_binary (Compare Eq)
    (expr_binary Union
    (expr_binary Union
    (expr_binary Union (expr_if (expr_var 6) (expr_var 2) (expr_var 3)) (expr_if (expr_var 6) (expr_var 2) (expr_var 3)))
    (expr_binary Union (expr_if (expr_var 6) (expr_var 2) (expr_var 3)) (expr_if (expr_var 6) (expr_var 2) (expr_var 3))))
    (expr_binary Union
    (expr_binary Union (expr_if (expr_var 6) (expr_var 2) (expr_var 3)) (expr_if (expr_var 6) (expr_var 2) (expr_var 3)))
    (expr_binary Union (expr_if (expr_var 6) (expr_var 2) (expr_var 3)) (expr_if (expr_var 6) (expr_var 2) (expr_var 3)))))
    (expr_binary Union
    (expr_binary Union (expr_if (expr_var 6) (expr_var 2) (expr_var 3)) (expr_if (expr_var 7) (expr_var 5) (expr_var 2)))
    (expr_if (expr_var 6) (expr_var 5) (expr_var 3)))

same_set_sides_passed : first same_set_sides ≡ Some 2048
same_set_sides_passed = refl

-- the same the other way
abbrev same_set_other_sides : ExprTree
same_set_other_sides =
    expr_binary (Compare Eq)
    (expr_binary Union
    (expr_binary Union (expr_if (expr_var 6) (expr_var 2) (expr_var 3)) (expr_if (expr_var 7) (expr_var 5) (expr_var 2)))
    (expr_if (expr_var 6) (expr_var 5) (expr_var 3)))
    (expr_binary Union
    (expr_binary Union
    (expr_binary Union (expr_if (expr_var 6) (expr_var 2) (expr_var 3)) (expr_if (expr_var 6) (expr_var 2) (expr_var 3)))
    (expr_binary Union (expr_if (expr_var 6) (expr_var 2) (expr_var 3)) (expr_if (expr_var 6) (expr_var 2) (expr_var 3))))
    (expr_binary Union
    (expr_binary Union (expr_if (expr_var 6) (expr_var 2) (expr_var 3)) (expr_if (expr_var 6) (expr_var 2) (expr_var 3)))
    (expr_binary Union (expr_if (expr_var 6) (expr_var 2) (expr_var 3)) (expr_if (expr_var 6) (expr_var 2) (expr_var 3)))))

same_set_other_sides_passed : first same_set_other_sides ≡ Some 2048
same_set_other_sides_passed = refl

-- the alternatives of both sides together
abbrev other_set_sides : ExprTree
other_set_sides =
    expr_binary (Compare Ne)
    (expr_binary Union
    (expr_binary Union
    (expr_binary Union (expr_if (expr_var 6) (expr_var 2) (expr_var 3)) (expr_if (expr_var 6) (expr_var 2) (expr_var 3)))
    (expr_binary Union (expr_if (expr_var 6) (expr_var 2) (expr_var 3)) (expr_if (expr_var 6) (expr_var 2) (expr_var 3))))
    (expr_binary Union
    (expr_binary Union (expr_if (expr_var 6) (expr_var 2) (expr_var 3)) (expr_if (expr_var 6) (expr_var 2) (expr_var 3)))
    (expr_binary Union (expr_if (expr_var 6) (expr_var 2) (expr_var 3)) (expr_if (expr_var 6) (expr_var 2) (expr_var 3)))))
    (expr_binary Union
    (expr_binary Union (expr_if (expr_var 6) (expr_var 2) (expr_var 3)) (expr_if (expr_var 7) (expr_var 5) (expr_var 2)))
    (expr_if (expr_var 6) (expr_var 5) (expr_var 3)))

other_set_sides_passed : first other_set_sides ≡ Some 2048
other_set_sides_passed = refl

-- the same the other way
abbrev other_set_other_sides : ExprTree
other_set_other_sides =
    expr_binary (Compare Ne)
    (expr_binary Union
    (expr_binary Union (expr_if (expr_var 6) (expr_var 2) (expr_var 3)) (expr_if (expr_var 7) (expr_var 5) (expr_var 2)))
    (expr_if (expr_var 6) (expr_var 5) (expr_var 3)))
    (expr_binary Union
    (expr_binary Union
    (expr_binary Union (expr_if (expr_var 6) (expr_var 2) (expr_var 3)) (expr_if (expr_var 6) (expr_var 2) (expr_var 3)))
    (expr_binary Union (expr_if (expr_var 6) (expr_var 2) (expr_var 3)) (expr_if (expr_var 6) (expr_var 2) (expr_var 3))))
    (expr_binary Union
    (expr_binary Union (expr_if (expr_var 6) (expr_var 2) (expr_var 3)) (expr_if (expr_var 6) (expr_var 2) (expr_var 3)))
    (expr_binary Union (expr_if (expr_var 6) (expr_var 2) (expr_var 3)) (expr_if (expr_var 6) (expr_var 2) (expr_var 3)))))

other_set_other_sides_passed : first other_set_other_sides ≡ Some 2048
other_set_other_sides_passed = refl

-- the alternatives of both sides together
abbrev subset_sides : ExprTree
subset_sides =
    expr_binary Subset
    (expr_binary Union
    (expr_binary Union
    (expr_binary Union (expr_if (expr_var 6) (expr_var 2) (expr_var 3)) (expr_if (expr_var 6) (expr_var 2) (expr_var 3)))
    (expr_binary Union (expr_if (expr_var 6) (expr_var 2) (expr_var 3)) (expr_if (expr_var 6) (expr_var 2) (expr_var 3))))
    (expr_binary Union
    (expr_binary Union (expr_if (expr_var 6) (expr_var 2) (expr_var 3)) (expr_if (expr_var 6) (expr_var 2) (expr_var 3)))
    (expr_binary Union (expr_if (expr_var 6) (expr_var 2) (expr_var 3)) (expr_if (expr_var 6) (expr_var 2) (expr_var 3)))))
    (expr_binary Union
    (expr_binary Union (expr_if (expr_var 6) (expr_var 2) (expr_var 3)) (expr_if (expr_var 7) (expr_var 5) (expr_var 2)))
    (expr_if (expr_var 6) (expr_var 5) (expr_var 3)))

subset_sides_passed : first subset_sides ≡ Some 2048
subset_sides_passed = refl

-- the same the other way
abbrev subset_other_sides : ExprTree
subset_other_sides =
    expr_binary Subset
    (expr_binary Union
    (expr_binary Union (expr_if (expr_var 6) (expr_var 2) (expr_var 3)) (expr_if (expr_var 7) (expr_var 5) (expr_var 2)))
    (expr_if (expr_var 6) (expr_var 5) (expr_var 3)))
    (expr_binary Union
    (expr_binary Union
    (expr_binary Union (expr_if (expr_var 6) (expr_var 2) (expr_var 3)) (expr_if (expr_var 6) (expr_var 2) (expr_var 3)))
    (expr_binary Union (expr_if (expr_var 6) (expr_var 2) (expr_var 3)) (expr_if (expr_var 6) (expr_var 2) (expr_var 3))))
    (expr_binary Union
    (expr_binary Union (expr_if (expr_var 6) (expr_var 2) (expr_var 3)) (expr_if (expr_var 6) (expr_var 2) (expr_var 3)))
    (expr_binary Union (expr_if (expr_var 6) (expr_var 2) (expr_var 3)) (expr_if (expr_var 6) (expr_var 2) (expr_var 3)))))

subset_other_sides_passed : first subset_other_sides ≡ Some 2048
subset_other_sides_passed = refl

-- a test in the left side
abbrev sum_left : ExprTree
sum_left =
    expr_binary (Compare Eq)
    (expr_binary Add (expr_if (expr_binary (Compare Eq) (least_of 13) (expr_lit (pos 1))) (expr_lit (pos 1)) (expr_lit (pos 2))) (expr_var 4))
    (expr_lit (pos 1))

sum_left_passed : first sum_left ≡ Some 4096
sum_left_passed = refl

-- a test in the right side
abbrev sum_right : ExprTree
sum_right =
    expr_binary (Compare Eq)
    (expr_binary Add (expr_var 4) (expr_if (expr_binary (Compare Eq) (least_of 13) (expr_lit (pos 1))) (expr_lit (pos 1)) (expr_lit (pos 2))))
    (expr_lit (pos 1))

sum_right_passed : first sum_right ≡ Some 4096
sum_right_passed = refl

-- a test in the left side
abbrev difference_left : ExprTree
difference_left =
    expr_binary (Compare Eq)
    (expr_binary Sub (expr_if (expr_binary (Compare Eq) (least_of 13) (expr_lit (pos 1))) (expr_lit (pos 1)) (expr_lit (pos 2))) (expr_var 4))
    (expr_lit (pos 1))

difference_left_passed : first difference_left ≡ Some 4096
difference_left_passed = refl

-- a test in the right side
abbrev difference_right : ExprTree
difference_right =
    expr_binary (Compare Eq)
    (expr_binary Sub (expr_var 4) (expr_if (expr_binary (Compare Eq) (least_of 13) (expr_lit (pos 1))) (expr_lit (pos 1)) (expr_lit (pos 2))))
    (expr_lit (pos 1))

difference_right_passed : first difference_right ≡ Some 4096
difference_right_passed = refl

-- a test in the left side
abbrev product_left : ExprTree
product_left =
    expr_binary (Compare Eq)
    (expr_binary Mul (expr_if (expr_binary (Compare Eq) (least_of 13) (expr_lit (pos 1))) (expr_lit (pos 1)) (expr_lit (pos 2))) (expr_var 4))
    (expr_lit (pos 1))

product_left_passed : first product_left ≡ Some 4096
product_left_passed = refl

-- a test in the right side
abbrev product_right : ExprTree
product_right =
    expr_binary (Compare Eq)
    (expr_binary Mul (expr_var 4) (expr_if (expr_binary (Compare Eq) (least_of 13) (expr_lit (pos 1))) (expr_lit (pos 1)) (expr_lit (pos 2))))
    (expr_lit (pos 1))

product_right_passed : first product_right ≡ Some 4096
product_right_passed = refl

-- a test in the right side
abbrev compared_right : ExprTree
compared_right =
    expr_binary (Compare Eq) (expr_var 4) (expr_if (expr_binary (Compare Eq) (least_of 13) (expr_lit (pos 1))) (expr_lit (pos 1)) (expr_lit (pos 2)))

compared_right_passed : first compared_right ≡ Some 4096
compared_right_passed = refl

-- the second branch before the test
abbrev else_before_test : ExprTree
else_before_test =
    expr_binary (Compare Eq)
    (expr_if
    (expr_binary (Compare Eq) (least_of 13) (expr_lit (pos 1)))
    (expr_lit (pos 1))
    (expr_if (expr_binary (Compare Eq) (least_of 14) (expr_lit (pos 1))) (expr_lit (pos 1)) (expr_lit (pos 2))))
    (expr_var 4)

else_before_test_passed : first else_before_test ≡ Some 8192
else_before_test_passed = refl

-- a test in a part of min
abbrev in_least : ExprTree
in_least =
    expr_binary (Compare Eq)
    (expr_min (exprs_of (expr_var 0 ∷ expr_if (expr_binary (Compare Eq) (least_of 13) (expr_lit (pos 1))) (expr_lit (pos 1)) (expr_lit (pos 2)) ∷ [])))
    (expr_var 4)

in_least_passed : first in_least ≡ Some 4096
in_least_passed = refl

-- a test in a part of max
abbrev in_greatest : ExprTree
in_greatest =
    expr_binary (Compare Eq)
    (expr_max (exprs_of (expr_var 0 ∷ expr_if (expr_binary (Compare Eq) (least_of 13) (expr_lit (pos 1))) (expr_lit (pos 1)) (expr_lit (pos 2)) ∷ [])))
    (expr_var 4)

in_greatest_passed : first in_greatest ≡ Some 4096
in_greatest_passed = refl

-- branches of sets before the test
abbrev set_branches : ExprTree
set_branches =
    expr_binary (Compare Eq)
    (expr_card
    (expr_if
    (expr_binary (Compare Eq) (least_of 13) (expr_lit (pos 1)))
    (expr_if (expr_binary (Compare Eq) (least_of 14) (expr_lit (pos 1))) (expr_var 2) (expr_var 3))
    (expr_var 3)))
    (expr_lit (pos 1))

set_branches_passed : first set_branches ≡ Some 8192
set_branches_passed = refl

-- branches of sets before the test
abbrev set_branches_else : ExprTree
set_branches_else =
    expr_binary (Compare Eq)
    (expr_card
    (expr_if
    (expr_binary (Compare Eq) (least_of 13) (expr_lit (pos 1)))
    (expr_var 3)
    (expr_if (expr_binary (Compare Eq) (least_of 14) (expr_lit (pos 1))) (expr_var 2) (expr_var 3))))
    (expr_lit (pos 1))

set_branches_else_passed : first set_branches_else ≡ Some 8192
set_branches_else_passed = refl

-- a test in the last part of a chain
abbrev last_chain : ExprTree
last_chain =
    expr_chain (Lt ∷ Lt ∷ [])
    (exprs_of (expr_var 0 ∷ expr_var 1 ∷ expr_if (expr_binary (Compare Eq) (least_of 13) (expr_lit (pos 1))) (expr_lit (pos 1)) (expr_lit (pos 2)) ∷ []))

last_chain_passed : first last_chain ≡ Some 4096
last_chain_passed = refl

-- a test in an earlier part of a chain before one in a later part
abbrev last_order : ExprTree
last_order =
    expr_chain (Lt ∷ Lt ∷ [])
    (exprs_of
    (expr_var 0
    ∷ expr_if (expr_binary (Compare Eq) (least_of 13) (expr_lit (pos 1))) (expr_lit (pos 1)) (expr_lit (pos 2))
    ∷ expr_if (expr_binary (Compare Eq) (least_of 14) (expr_lit (pos 1))) (expr_lit (pos 1)) (expr_lit (pos 2)) ∷ []))

last_order_passed : first last_order ≡ Some 4096
last_order_passed = refl

-- in the left side
abbrev and_left : ExprTree
and_left = expr_binary And (expr_binary (Compare Eq) (least_of 13) (expr_lit (pos 1))) (expr_var 6)

and_left_passed : first and_left ≡ Some 4096
and_left_passed = refl

-- in the right side
abbrev and_right : ExprTree
and_right = expr_binary And (expr_var 6) (expr_binary (Compare Eq) (least_of 13) (expr_lit (pos 1)))

and_right_passed : first and_right ≡ Some 4096
and_right_passed = refl

-- in the left side
abbrev or_left : ExprTree
or_left = expr_binary Or (expr_binary (Compare Eq) (least_of 13) (expr_lit (pos 1))) (expr_var 6)

or_left_passed : first or_left ≡ Some 4096
or_left_passed = refl

-- in the right side
abbrev or_right : ExprTree
or_right = expr_binary Or (expr_var 6) (expr_binary (Compare Eq) (least_of 13) (expr_lit (pos 1)))

or_right_passed : first or_right ≡ Some 4096
or_right_passed = refl

-- in the left side
abbrev implies_left : ExprTree
implies_left = expr_binary Implies (expr_binary (Compare Eq) (least_of 13) (expr_lit (pos 1))) (expr_var 6)

implies_left_passed : first implies_left ≡ Some 4096
implies_left_passed = refl

-- in the right side
abbrev implies_right : ExprTree
implies_right = expr_binary Implies (expr_var 6) (expr_binary (Compare Eq) (least_of 13) (expr_lit (pos 1)))

implies_right_passed : first implies_right ≡ Some 4096
implies_right_passed = refl

-- in the left side
abbrev same_left : ExprTree
same_left = expr_binary (Compare Eq) (expr_binary (Compare Eq) (least_of 13) (expr_lit (pos 1))) (expr_var 6)

same_left_passed : first same_left ≡ Some 4096
same_left_passed = refl

-- in the right side
abbrev same_right : ExprTree
same_right = expr_binary (Compare Eq) (expr_var 6) (expr_binary (Compare Eq) (least_of 13) (expr_lit (pos 1)))

same_right_passed : first same_right ≡ Some 4096
same_right_passed = refl

-- in the left side
abbrev other_left : ExprTree
other_left = expr_binary (Compare Ne) (expr_binary (Compare Eq) (least_of 13) (expr_lit (pos 1))) (expr_var 6)

other_left_passed : first other_left ≡ Some 4096
other_left_passed = refl

-- in the right side
abbrev other_right : ExprTree
other_right = expr_binary (Compare Ne) (expr_var 6) (expr_binary (Compare Eq) (least_of 13) (expr_lit (pos 1)))

other_right_passed : first other_right ≡ Some 4096
other_right_passed = refl

-- in the test
abbrev if_test : ExprTree
if_test = expr_if (expr_binary (Compare Eq) (least_of 13) (expr_lit (pos 1))) (expr_var 6) (expr_var 7)

if_test_passed : first if_test ≡ Some 4096
if_test_passed = refl

-- in the first branch
abbrev if_yes : ExprTree
if_yes = expr_if (expr_var 6) (expr_binary (Compare Eq) (least_of 13) (expr_lit (pos 1))) (expr_var 7)

if_yes_passed : first if_yes ≡ Some 4096
if_yes_passed = refl

-- in the second branch
abbrev if_no : ExprTree
if_no = expr_if (expr_var 6) (expr_var 7) (expr_binary (Compare Eq) (least_of 13) (expr_lit (pos 1)))

if_no_passed : first if_no ≡ Some 4096
if_no_passed = refl

-- under a negation
abbrev negated : ExprTree
negated = expr_not (expr_binary (Compare Eq) (least_of 13) (expr_lit (pos 1)))

negated_passed : first negated ≡ Some 4096
negated_passed = refl
