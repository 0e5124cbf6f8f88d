-- What a block comes to, as its form shows.
use Rattle.std.specs.Prelude.{ℕ, suc, Bool, true, false, ◌&&◌, ◌||◌, List, [], ◌∷◌, ◌++◌, map, take, length, Option, Some, None, nat_eq, is_some, if◌then◌else◌}
use Rattle.cf_tree.specs.declared.base.Base.{Base}
use Rattle.cf_tree.specs.declared.base.Base.TheVariants.{Int}
use Rattle.cf_tree.specs.CodeTree.{CodeTree, code_lit, code_truth, code_var, code_set_of, code_tuple, code_sum, code_sub, code_mul, code_neg, code_div, code_mod, code_min, code_max, code_compare, code_divides, code_and, code_or, code_not, code_union, code_inter, code_diff, code_subset, code_card, code_slice, code_fresh, code_if, code_let, code_solve, CodeTrees, no_codes, code_more}
use Rattle.cf_stmt.specs.Blocks.{Block, give, none, leave, bind, part, join, test, arm}
use Rattle.cf_print_term.specs.Expressions.{base_of}
use Rattle.cf_print_shape.specs.declared.exit.Exit.{Exit}
use Rattle.cf_print_shape.specs.declared.exit.Exit.TheVariants.{GoesOn, Ends}

-- at which choose a block has no solution when it has none at once, and 0 of any other
abbrev pub number_at_once : Block → ℕ
number_at_once (none n) = n
number_at_once b = 0

-- the number of a block of arms, of whose last the lets and guards alone may be left, and 0 of any other
abbrev pub number_of : Block → ℕ
number_of (none n) = n
number_of (arm ks a b) = number_of b
number_of (bind a b) = number_of b
number_of (part a b) = number_of b
number_of (test t a b) = number_at_once b
number_of b = 0

abbrev pub is_none : Block → Option ℕ
is_none (none n) = Some n
is_none b = None

abbrev pub is_leave : Block → Bool
is_leave leave = true
is_leave b = false

abbrev pub is_code : Block → Bool
is_code (give c) = true
is_code b = false

-- all that it declares stands within one `if`, behind which the arm is left
abbrev pub is_if : Block → Bool
is_if (test t a b) = is_code t && is_leave b
is_if b = false

-- what a block comes to that only leaves: no solution, or what leaving the arm comes to
abbrev pub exit_of : Exit → Block → Option Exit
exit_of e (none n) = Some (Ends n)
exit_of GoesOn leave = Some GoesOn
exit_of (Ends n) leave = Some (Ends n)
exit_of e b = None

-- some way through it gives values
abbrev pub gives : Block → Bool
gives (give c) = true
gives (none n) = false
gives leave = false
gives (bind a b) = gives a && gives b
gives (part a b) = gives a && gives b
gives (join a b) = gives a && gives b
gives (test t a b) = gives t && (gives a || gives b)
gives (arm ks a b) = gives a || gives b

-- whether it is left only where nothing of the arm would come behind, in an arm or not
abbrev pub leaves_at_ends : Bool → Block → Bool
leaves_at_ends in_arm (give c) = true
leaves_at_ends in_arm (none n) = true
leaves_at_ends in_arm leave = in_arm
leaves_at_ends in_arm (bind a b) = leaves_at_ends false a && leaves_at_ends in_arm b
leaves_at_ends in_arm (part a b) = leaves_at_ends false a && leaves_at_ends in_arm b
leaves_at_ends in_arm (join a b) = leaves_at_ends false a && leaves_at_ends false b
leaves_at_ends in_arm (test t a b) = leaves_at_ends false t && (leaves_at_ends in_arm a && leaves_at_ends in_arm b)
leaves_at_ends in_arm (arm ks a b) = leaves_at_ends true a && leaves_at_ends in_arm b

-- an arm is straight that is the last and has no searches, where its body is, of which leaving comes to no solution
abbrev pub straight_last : Option ℕ → Bool → (ℕ → Bool) → Bool
straight_last None plain body = false
straight_last (Some n) plain body = plain && body n

-- it gives values behind lets and guards alone
abbrev pub is_straight : Exit → Block → Bool
is_straight e (give c) = true
is_straight e (bind a b) = gives a && is_straight e b
is_straight e (part a b) = gives a && is_straight e b
is_straight e (join a b) = gives a && is_straight e b
is_straight e (test t a b) = gives t && ((is_some (exit_of e b) && is_straight e a) || (is_some (exit_of e a) && is_straight e b))
is_straight e (arm ks a b) = straight_last (is_none b) (nat_eq (length ks) 0) (λ n. is_straight (Ends n) a)
is_straight e (none n) = false
is_straight e leave = false

-- what stands behind it is reached where it is left
abbrev pub can_fall : Block → Bool
can_fall leave = true
can_fall (bind a b) = can_fall b
can_fall (part a b) = can_fall b
can_fall (test t a b) = can_fall a || can_fall b
can_fall (arm ks a b) = can_fall b
can_fall b = false

-- whether a variable is read in an expression, and in a block
abbrev mutual
  pub reads : ℕ → CodeTree → Bool
  reads x (code_lit k) = false
  reads x (code_truth t) = false
  reads x (code_var y) = nat_eq y x
  reads x (code_set_of cs) = all_read x cs
  reads x (code_tuple cs) = all_read x cs
  reads x (code_sum cs) = all_read x cs
  reads x (code_sub a b) = reads x a || reads x b
  reads x (code_mul a b) = reads x a || reads x b
  reads x (code_neg a) = reads x a
  reads x (code_div a k) = reads x a
  reads x (code_mod a k) = reads x a
  reads x (code_min cs) = all_read x cs
  reads x (code_max cs) = all_read x cs
  reads x (code_compare o a b) = reads x a || reads x b
  reads x (code_divides k a) = reads x a
  reads x (code_and a b) = reads x a || reads x b
  reads x (code_or a b) = reads x a || reads x b
  reads x (code_not a) = reads x a
  reads x (code_union cs) = all_read x cs
  reads x (code_inter cs) = all_read x cs
  reads x (code_diff a b) = reads x a || reads x b
  reads x (code_subset a b) = reads x a || reads x b
  reads x (code_card a) = reads x a
  reads x (code_slice a b c) = reads x a || reads x b || reads x c
  reads x (code_fresh a b) = reads x a || reads x b
  reads x (code_if t a b) = reads x t || reads x a || reads x b
  -- these are no expressions
  reads x (code_let first n a b) = false
  reads x (code_solve n arms) = false

  pub all_read : ℕ → CodeTrees → Bool
  all_read x no_codes = false
  all_read x (code_more c cs) = reads x c || all_read x cs

-- what stands behind a block that never gives is not reached
abbrev pub block_reads : ℕ → Block → Bool
block_reads x (give c) = reads x c
block_reads x (none n) = false
block_reads x leave = false
block_reads x (bind a b) = block_reads x a || (gives a && block_reads x b)
block_reads x (part a b) = block_reads x a || (gives a && block_reads (suc x) b)
block_reads x (join a b) = block_reads x a || (gives a && block_reads x b)
block_reads x (test t a b) = block_reads x t || (gives t && (block_reads x a || block_reads x b))
block_reads x (arm ks a b) = block_reads x a || block_reads x b

-- the entries of a list whose levels, from x on, are read
abbrev pub those_read : {A : Type 0} → ℕ → Block → List A → List A
those_read x b [] = []
those_read x b (y ∷ ys) = if block_reads x b then y ∷ those_read (suc x) b ys else those_read (suc x) b ys

-- the bases of what a block gives
abbrev pub all_bases : List Base → CodeTrees → List Base
all_bases bs no_codes = []
all_bases bs (code_more c cs) = base_of bs c ∷ all_bases bs cs

abbrev pub code_bases : List Base → CodeTree → List Base
code_bases bs (code_tuple cs) = all_bases bs cs
code_bases bs c = base_of bs c ∷ []

abbrev pub first_known : List Base → List Base → List Base
first_known [] bs = bs
first_known (b ∷ bs) cs = b ∷ bs

abbrev pub results_of : List Base → Block → List Base
results_of bs (give c) = code_bases bs c
results_of bs (none n) = []
results_of bs leave = []
results_of bs (bind a b) = results_of (bs ++ results_of bs a) b
results_of bs (part a b) = results_of (take 1 (results_of bs a) ++ bs) b
results_of bs (join a b) = results_of bs a ++ results_of bs b
results_of bs (test t a b) = first_known (results_of bs a) (results_of bs b)
results_of bs (arm ks a b) = first_known (results_of (bs ++ map (λ k. Int) ks) a) (results_of bs b)

-- its values need no statement
abbrev pub is_plain : Block → Bool
is_plain (give c) = true
is_plain (join a b) = is_plain a && is_plain b
is_plain b = false
