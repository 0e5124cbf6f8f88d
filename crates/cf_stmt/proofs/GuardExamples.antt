-- Worked examples: blocks with guards, and tests that are one.
use Rattle.std.specs.Prelude.{◌≡◌, ℕ, pos, true, false, [], ◌∷◌, refl}
use Rattle.cf_tree.specs.declared.base.Order.TheVariants.{Ge}
use Rattle.cf_tree.specs.CodeTree.{CodeTree, code_lit, code_var, code_neg, code_compare, code_and}
use Rattle.cf_stmt.specs.Blocks.{Block, give, none, leave, bind, part, join, test, arm}
use Rattle.cf_stmt.specs.Fitting.{fit_together}
use Rattle.cf_stmt.specs.Guards.{else_none, never_leaves, is_test, guarded, tested}

-- a test of three nodes
abbrev need : ℕ → CodeTree
need k = code_compare Ge (code_var k) (code_lit (pos 0))

abbrev done : Block
done = give (code_var 0)

abbrev needs : ℕ → Block → Block
needs k b = test (give (need k)) b leave

-- ---- tests side by side
two_needs : guarded (needs 1 (needs 2 done)) ≡ test (give (code_and (need 1) (need 2))) done leave
two_needs = refl

-- from the left
three_needs : guarded (needs 1 (needs 2 (needs 3 done))) ≡ test (give (code_and (code_and (need 1) (need 2)) (need 3))) done leave
three_needs = refl

-- with 16 nodes at most
six_needs : guarded (needs 1 (needs 2 (needs 3 (needs 4 (needs 5 (needs 6 done)))))) ≡
    test (give (code_and (code_and (code_and (need 1) (need 2)) (need 3)) (need 4))) (test (give (code_and (need 5) (need 6))) done leave) leave
six_needs = refl

abbrev twelve : CodeTree
twelve = code_and (code_and (need 1) (need 2)) (code_neg (need 3))

largest : fit_together twelve (need 4) ≡ true
largest = refl

too_large : fit_together twelve (code_neg (need 4)) ≡ false
too_large = refl

behind_a_let : guarded (needs 1 (bind done (needs 2 done))) ≡ needs 1 (bind done (needs 2 done))
behind_a_let = refl

one_end : guarded (test (give (need 1)) (test (give (need 2)) done (none 3)) (none 3)) ≡ test (give (code_and (need 1) (need 2))) done (none 3)
one_end = refl

other_ends : guarded (test (give (need 1)) (test (give (need 2)) done (none 3)) (none 4)) ≡ test (give (need 1)) (test (give (need 2)) done (none 3)) (none 4)
other_ends = refl

an_end_that_gives : guarded (test (give (need 1)) (test (give (need 2)) done done) done) ≡ test (give (need 1)) (test (give (need 2)) done done) done
an_end_that_gives = refl

-- the first of three has another end
later_ones : guarded (test (give (need 1)) (needs 2 (needs 3 done)) (none 4)) ≡ test (give (need 1)) (test (give (code_and (need 2) (need 3))) done leave) (none 4)
later_ones = refl

-- a test of what is no code
no_code : guarded (test (join (give (need 1)) done) (needs 2 (needs 3 done)) leave) ≡
    test (join (give (need 1)) done) (test (give (code_and (need 2) (need 3))) done leave) leave
no_code = refl

no_code_behind : guarded (needs 1 (test (join (give (need 2)) done) (needs 3 done) leave)) ≡ needs 1 (test (join (give (need 2)) done) (needs 3 done) leave)
no_code_behind = refl

-- in all parts
abbrev two : Block
two = needs 1 (needs 2 done)

abbrev one : Block
one = test (give (code_and (need 1) (need 2))) done leave

parts_of_blocks : guarded (bind two (part two (join two (test two two two)))) ≡ bind one (part one (join one (test one one one)))
parts_of_blocks = refl

behind_a_test : tested two (bind two two) leave ≡ test two (bind one one) leave
behind_a_test = refl

part_behind_a_test : tested two (part two two) leave ≡ test two (part one one) leave
part_behind_a_test = refl

join_behind_a_test : tested two (join two two) leave ≡ test two (join one one) leave
join_behind_a_test = refl

arm_behind_a_test : tested two (arm (3 ∷ []) two two) leave ≡ test two (arm (3 ∷ []) one one) leave
arm_behind_a_test = refl

stop_behind_a_test : tested two (none 3) leave ≡ test two (none 3) leave
stop_behind_a_test = refl

leave_behind_a_test : tested two leave leave ≡ test two leave leave
leave_behind_a_test = refl

tests : is_test two ≡ true
tests = refl

no_test : is_test (bind two two) ≡ false
no_test = refl

-- ---- arms
last_arm : guarded (arm [] two (none 7)) ≡ test (give (code_and (need 1) (need 2))) done (none 7)
last_arm = refl

arm_of_two : guarded (arm [] two (arm [] two (none 7))) ≡ arm [] one (test (give (code_and (need 1) (need 2))) done (none 7))
arm_of_two = refl

never_left : guarded (arm [] (bind done done) (arm [] two (none 7))) ≡ bind done done
never_left = refl

search : guarded (arm (3 ∷ []) two (none 7)) ≡ arm (3 ∷ []) one (none 7)
search = refl

inner_search : else_none 7 (arm (3 ∷ []) two leave) ≡ arm (3 ∷ []) two (none 7)
inner_search = refl

left_behind_a_search : never_leaves (arm (3 ∷ []) two leave) ≡ false
left_behind_a_search = refl
