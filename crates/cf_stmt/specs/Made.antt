-- The block that is made of a code.
use Rattle.std.specs.Prelude.{ℕ, zero, suc, Bool, true, false, if◌then◌else◌, ◌&&◌}
use Rattle.cf_tree.specs.CodeTree.{CodeTree, code_lit, code_truth, code_var, code_set_of, code_tuple, code_sum, code_sub, code_mul, code_neg, code_div, code_mod, code_min, code_max, code_compare, code_divides, code_and, code_or, code_not, code_union, code_inter, code_diff, code_subset, code_card, code_slice, code_fresh, code_if, code_let, code_solve, CodeTrees, no_codes, code_more, ItemTree, let_item, need_item, ItemTrees, no_items, item_more, ArmTree, arm_of, ArmTrees, no_arms, arm_more, count}
use Rattle.cf_stmt.specs.Blocks.{Block, give, none, leave, bind, part, join, test, arm}
use Rattle.cf_shift.specs.Shifted.{shifted, all_shifted}

-- which codes stay whole, and which stay where they are as parts of a form
pub record Plain : Type 0 where
  pub whole : CodeTree → Bool
  pub part : CodeTree → Bool

-- the code itself where it is plain, or else this block
abbrev pub plain_or : Bool → CodeTree → Block → Block
plain_or true c b = give c
plain_or false c b = b

abbrev pub stay : (CodeTree → Bool) → CodeTrees → Bool
stay plain no_codes = true
stay plain (code_more c cs) = plain c && stay plain cs

-- the j variables from level i on, the last first, and then these codes
abbrev pub vars_then : ℕ → ℕ → CodeTrees → CodeTrees
vars_then i zero cs = cs
vars_then i (suc j) cs = vars_then (suc i) j (code_more (code_var i) cs)

abbrev pub two_codes : CodeTree → CodeTree → CodeTrees
two_codes a b = code_more a (code_more b no_codes)

abbrev pub append : CodeTrees → CodeTrees → CodeTrees
append no_codes ds = ds
append (code_more c cs) ds = code_more c (append cs ds)

-- an operation on two codes, whose blocks these are: the second stays where it is if it is plain, and has c for its code
abbrev pub two_block : Bool → Block → Block → CodeTree → (CodeTree → CodeTree → CodeTree) → Block
two_block plain a b c op = part a (if plain then give (op (code_var 0) c) else part b (give (op (code_var 1) (code_var 0))))

-- the block of a code behind n more variables
abbrev mutual
  pub block_at : Plain → ℕ → CodeTree → Block
  block_at plain n (code_lit k) = give (code_lit k)
  block_at plain n (code_truth t) = give (code_truth t)
  block_at plain n (code_var x) = give (shifted n (code_var x))
  block_at plain n (code_tuple cs) = plain_or (stay plain.whole cs) (shifted n (code_tuple cs)) (tuple_block plain n cs)
  block_at plain n (code_sum cs) = plain_or (plain.whole (code_sum cs)) (shifted n (code_sum cs)) (sum_block plain n cs)
  block_at plain n (code_set_of cs) = plain_or (plain.whole (code_set_of cs)) (shifted n (code_set_of cs))
      (bound_parts plain n cs (give (code_set_of (vars_then 0 (count cs) no_codes))))
  block_at plain n (code_min cs) = plain_or (plain.whole (code_min cs)) (shifted n (code_min cs))
      (bound_parts plain n cs (give (code_min (vars_then 0 (count cs) no_codes))))
  block_at plain n (code_max cs) = plain_or (plain.whole (code_max cs)) (shifted n (code_max cs))
      (bound_parts plain n cs (give (code_max (vars_then 0 (count cs) no_codes))))
  block_at plain n (code_union cs) = plain_or (plain.whole (code_union cs)) (shifted n (code_union cs))
      (bound_parts plain n cs (give (code_union (vars_then 0 (count cs) no_codes))))
  block_at plain n (code_inter cs) = plain_or (plain.whole (code_inter cs)) (shifted n (code_inter cs))
      (bound_parts plain n cs (give (code_inter (vars_then 0 (count cs) no_codes))))
  block_at plain n (code_neg a) =
      plain_or (plain.whole (code_neg a)) (shifted n (code_neg a)) (part (block_at plain n a) (give (code_neg (code_var 0))))
  block_at plain n (code_div a k) =
      plain_or (plain.whole (code_div a k)) (shifted n (code_div a k)) (part (block_at plain n a) (give (code_div (code_var 0) k)))
  block_at plain n (code_mod a k) =
      plain_or (plain.whole (code_mod a k)) (shifted n (code_mod a k)) (part (block_at plain n a) (give (code_mod (code_var 0) k)))
  block_at plain n (code_divides k a) =
      plain_or (plain.whole (code_divides k a)) (shifted n (code_divides k a)) (part (block_at plain n a) (give (code_divides k (code_var 0))))
  block_at plain n (code_not a) =
      plain_or (plain.whole (code_not a)) (shifted n (code_not a)) (part (block_at plain n a) (give (code_not (code_var 0))))
  block_at plain n (code_card a) =
      plain_or (plain.whole (code_card a)) (shifted n (code_card a)) (part (block_at plain n a) (give (code_card (code_var 0))))
  block_at plain n (code_sub a b) =
      plain_or (plain.whole (code_sub a b)) (shifted n (code_sub a b))
      (two_block (plain.part b) (block_at plain n a) (block_at plain (suc n) b) (shifted (suc n) b) code_sub)
  block_at plain n (code_mul a b) =
      plain_or (plain.whole (code_mul a b)) (shifted n (code_mul a b))
      (two_block (plain.part b) (block_at plain n a) (block_at plain (suc n) b) (shifted (suc n) b) code_mul)
  block_at plain n (code_compare o a b) =
      plain_or (plain.whole (code_compare o a b)) (shifted n (code_compare o a b))
      (two_block (plain.part b) (block_at plain n a) (block_at plain (suc n) b) (shifted (suc n) b) (code_compare o))
  block_at plain n (code_diff a b) =
      plain_or (plain.whole (code_diff a b)) (shifted n (code_diff a b))
      (two_block (plain.part b) (block_at plain n a) (block_at plain (suc n) b) (shifted (suc n) b) code_diff)
  block_at plain n (code_subset a b) =
      plain_or (plain.whole (code_subset a b)) (shifted n (code_subset a b))
      (two_block (plain.part b) (block_at plain n a) (block_at plain (suc n) b) (shifted (suc n) b) code_subset)
  block_at plain n (code_fresh a b) =
      plain_or (plain.whole (code_fresh a b)) (shifted n (code_fresh a b))
      (two_block (plain.part b) (block_at plain n a) (block_at plain (suc n) b) (shifted (suc n) b) code_fresh)
  block_at plain n (code_slice a b c) =
      plain_or (plain.whole (code_slice a b c)) (shifted n (code_slice a b c))
      (part (block_at plain n a) (part (block_at plain (suc n) b) (part (block_at plain (suc (suc n)) c)
      (give (code_slice (code_var 2) (code_var 1) (code_var 0))))))
  block_at plain n (code_and a b) =
      plain_or (plain.whole (code_and a b)) (shifted n (code_and a b)) (test (block_at plain n a) (block_at plain n b) (give (code_truth false)))
  block_at plain n (code_or a b) =
      plain_or (plain.whole (code_or a b)) (shifted n (code_or a b)) (test (block_at plain n a) (give (code_truth true)) (block_at plain n b))
  block_at plain n (code_if t a b) =
      plain_or (plain.whole (code_if t a b)) (shifted n (code_if t a b)) (test (block_at plain n t) (block_at plain n a) (block_at plain n b))
  block_at plain n (code_let first count a b) = bind (block_at plain n a) (block_at plain n b)
  block_at plain n (code_solve id arms) = arms_block plain n arms (none id)

  -- the first values of all, in order, each bound before the variables, and then this block
  pub bound_parts : Plain → ℕ → CodeTrees → Block → Block
  bound_parts plain n no_codes b = b
  bound_parts plain n (code_more c cs) b = part (block_at plain n c) (bound_parts plain (suc n) cs b)

  -- a sum
  pub sum_block : Plain → ℕ → CodeTrees → Block
  sum_block plain n no_codes = give (code_sum no_codes)
  sum_block plain n (code_more c cs) =
      elim (plain.part c) [
        | true ↦ sum_more plain n (code_more (shifted n c) no_codes) cs
        | false ↦ part (block_at plain n c) (sum_more plain (suc n) (code_more (code_var 0) no_codes) cs)
      ]

  -- the sum of codes that are ready and of these: what is ready is added, and bound, before a code that is not plain
  pub sum_more : Plain → ℕ → CodeTrees → CodeTrees → Block
  sum_more plain n ready no_codes = give (code_sum ready)
  sum_more plain n ready (code_more c cs) =
      elim (plain.part c) [
        | true ↦ sum_more plain n (append ready (code_more (shifted n c) no_codes)) cs
        | false ↦ part (give (code_sum ready)) (part (block_at plain (suc n) c) (sum_more plain (suc (suc n)) (two_codes (code_var 1) (code_var 0)) cs))
      ]

  -- the values of all, in order
  pub tuple_block : Plain → ℕ → CodeTrees → Block
  tuple_block plain n no_codes = give (code_tuple no_codes)
  tuple_block plain n (code_more c cs) = join (block_at plain n c) (tuple_block plain n cs)

  -- the arms in turn, and then this block
  pub arms_block : Plain → ℕ → ArmTrees → Block → Block
  arms_block plain n no_arms b = b
  arms_block plain n (arm_more a arms) b = arm_block plain n a (arms_block plain n arms b)

  pub arm_block : Plain → ℕ → ArmTree → Block → Block
  arm_block plain n (arm_of ks is gs) b =
      arm ks (items_block plain n is (plain_or (stay plain.whole gs) (code_tuple (all_shifted n gs)) (tuple_block plain n gs))) b

  -- the items in turn, and then this block; the arm is left at a need that is false
  pub items_block : Plain → ℕ → ItemTrees → Block → Block
  items_block plain n no_items b = b
  items_block plain n (item_more i is) b = item_block plain n i (items_block plain n is b)

  pub item_block : Plain → ℕ → ItemTree → Block → Block
  item_block plain n (let_item c) b = bind (block_at plain n c) b
  item_block plain n (need_item c) b = test (block_at plain n c) b leave

abbrev pub block_of : Plain → CodeTree → Block
block_of plain c = block_at plain 0 c
