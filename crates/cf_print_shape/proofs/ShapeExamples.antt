-- Worked examples of what blocks come to.
use Rattle.std.specs.Prelude.{ℕ, pos, ◌≡◌, true, false, Some, None, [], ◌∷◌, refl}
use Rattle.cf_tree.specs.declared.base.Base.TheVariants.{Int, Bool as Truth}
use Rattle.cf_tree.specs.CodeTree.{CodeTree, code_lit, code_truth, code_var, code_tuple, code_sum, code_card, codes_of}
use Rattle.cf_stmt.specs.Blocks.{Block, give, none, leave, bind, part, join, test, arm}
use Rattle.cf_print_shape.specs.Shapes.{block_reads, can_fall, exit_of, is_if, is_plain, is_straight, leaves_at_ends, number_of, results_of, those_read}
use Rattle.cf_print_shape.specs.Nones.{nones_of}
use Rattle.cf_print_shape.specs.Sets.{block_uses_sets}
use Rattle.cf_print_shape.specs.Wishes.{given_at}
use Rattle.cf_print_shape.specs.declared.exit.Exit.TheVariants.{Falls, GoesOn, Ends}

abbrev var : ℕ → CodeTree
var x = code_var x

abbrev value : Block
value = give (var 0)

abbrev truth : Block
truth = give (code_truth true)

-- ---- where a block is left
at_the_end : leaves_at_ends false (arm [] (bind value (test truth value leave)) (none 1)) ≡ true
at_the_end = refl

outside : leaves_at_ends false (test truth value leave) ≡ false
outside = refl

amid : leaves_at_ends true (bind (test truth value leave) value) ≡ false
amid = refl

in_a_test : leaves_at_ends true (test leave value value) ≡ false
in_a_test = refl

in_a_later_arm : leaves_at_ends false (arm [] value leave) ≡ false
in_a_later_arm = refl

goes_on : exit_of GoesOn leave ≡ Some GoesOn
goes_on = refl

falls : exit_of Falls leave ≡ None
falls = refl

ends : exit_of (Ends 3) leave ≡ Some (Ends 3)
ends = refl

ends_here : exit_of GoesOn (none 3) ≡ Some (Ends 3)
ends_here = refl

-- ---- what stands within one `if`
one_if : is_if (test truth (bind value value) leave) ≡ true
one_if = refl

behind_a_let : is_if (bind value (test truth value leave)) ≡ false
behind_a_let = refl

two_sides : is_if (test truth value value) ≡ false
two_sides = refl

behind_statements : is_if (test (bind value truth) value leave) ≡ false
behind_statements = refl

falls_at_last : can_fall (bind value (test truth leave value)) ≡ true
falls_at_last = refl

later_ends : can_fall (arm [] leave (none 1)) ≡ false
later_ends = refl

number : number_of (arm [] leave (none 4)) ≡ 4
number = refl

-- behind its lets the last arm is left by its guard
number_behind_guards : number_of (arm [] leave (bind value (part value (test truth value (none 4))))) ≡ 4
number_behind_guards = refl

-- the sides of an `if` have numbers of their own
number_of_no_choose : number_of (test truth (arm [] leave (none 3)) (arm [] leave (none 4))) ≡ 0
number_of_no_choose = refl

number_of_a_value_before : number_of (bind (none 4) value) ≡ 0
number_of_a_value_before = refl

-- ---- values behind lets and guards alone
guarded : is_straight Falls (arm [] (bind value (test truth value leave)) (none 3)) ≡ true
guarded = refl

searches : is_straight Falls (arm (2 ∷ []) value (none 3)) ≡ false
searches = refl

not_the_last : is_straight Falls (arm [] value (arm [] value (none 3))) ≡ false
not_the_last = refl

left_without_exit : is_straight Falls (test truth value leave) ≡ false
left_without_exit = refl

plain : is_plain (join value (join value value)) ≡ true
plain = refl

not_plain : is_plain (join value (part value value)) ≡ false
not_plain = refl

-- ---- what is read: not what stands behind a block that never gives
read_behind : block_reads 0 (bind truth value) ≡ true
read_behind = refl

read_before : block_reads 0 (part truth (give (var 1))) ≡ true
read_before = refl

not_reached : block_reads 0 (bind (none 3) value) ≡ false
not_reached = refl

not_tested : block_reads 0 (test (none 3) value value) ≡ false
not_tested = refl

those : those_read {A = ℕ} 0 (give (code_sum (codes_of (var 0 ∷ var 2 ∷ [])))) (10 ∷ 11 ∷ 12 ∷ []) ≡ 10 ∷ 12 ∷ []
those = refl

-- ---- what is given
results : results_of (Truth ∷ []) (part (give (code_lit (pos 1))) (give (code_tuple (codes_of (var 0 ∷ var 1 ∷ []))))) ≡ Int ∷ Truth ∷ []
results = refl

results_of_a_search : results_of (Truth ∷ []) (arm (3 ∷ []) (give (var 1)) (none 1)) ≡ Int ∷ []
results_of_a_search = refl

results_of_the_other : results_of (Truth ∷ []) (test truth leave value) ≡ Truth ∷ []
results_of_the_other = refl

place : given_at 0 (bind value (give (code_tuple (codes_of (var 5 ∷ var 2 ∷ []))))) 2 ≡ Some 1
place = refl

place_before : given_at 0 (part value (give (var 3))) 2 ≡ Some 0
place_before = refl

place_joined : given_at 0 (join (give (var 1)) (give (var 2))) 2 ≡ Some 1
place_joined = refl

no_place : given_at 0 (give (code_sum (codes_of (var 2 ∷ [])))) 2 ≡ None
no_place = refl

-- ---- no solutions and sets
nones : nones_of (test truth (none 3) (bind (none 1) (none 3))) [] ≡ 3 ∷ 1 ∷ []
nones = refl

a_set : block_uses_sets (arm [] (give (code_sum (codes_of (code_card (var 0) ∷ [])))) (none 1)) ≡ true
a_set = refl

no_set : block_uses_sets (arm [] value (none 1)) ≡ false
no_set = refl
