-- What settling makes of a code: a let goes whose value can be evaluated anywhere, where that reads better: a leaf, a negated variable, or a
-- short value that stands at most once. A comparison is decided of a variable with itself, and where the ranges of both sides tell. A slice
-- without elements, and no fresh numbers, are the empty set, which goes out of unions.
use Rattle.std.specs.Prelude.{ℕ, zero, suc, ◌+◌, nat_eq, nat_lt, int_lt, Bool, true, false, not, ◌&&◌, ◌||◌, Option, Some, None, List, [], ◌∷◌, ◌++◌, length, if◌then◌else◌}
use Rattle.cf_tree.specs.declared.base.Order.{Order}
use Rattle.cf_tree.specs.declared.base.Order.TheVariants.{Eq, Ne, Lt, Le, Gt, Ge}
use Rattle.cf_tree.specs.CodeTree.{CodeTree, code_lit, code_truth, code_var, code_set_of, code_tuple, code_sum, code_sub, code_mul, code_neg, code_div, code_mod, code_min, code_max, code_compare, code_divides, code_and, code_or, code_not, code_union, code_inter, code_diff, code_subset, code_card, code_slice, code_fresh, code_if, code_let, code_solve, CodeTrees, no_codes, code_more, ItemTree, let_item, need_item, ItemTrees, no_items, item_more, ArmTree, arm_of, ArmTrees, no_arms, arm_more, count}
use Rattle.cf_range.specs.CodeRanges.{range_of}
use Rattle.cf_range.specs.Put.{put, all_put, items_put}
use Rattle.cf_range.specs.Ranges.{whole}
use Rattle.cf_range.specs.Tidied.{is_zero}
use Rattle.cf_range.specs.Total.{is_total}
use Rattle.cf_range.specs.declared.range.Range.{Range}

-- ---- how many values a code gives
abbrev mutual
  -- whether it gives so many values wherever it gives any
  pub gives_so_many : ℕ → CodeTree → Bool
  gives_so_many n (code_tuple cs) = nat_eq n (count cs) && each_gives_one cs
  gives_so_many n (code_and a b) = nat_eq n 1 && gives_so_many n b
  gives_so_many n (code_or a b) = nat_eq n 1 && gives_so_many n b
  gives_so_many n (code_if t a b) = gives_so_many n a && gives_so_many n b
  gives_so_many n (code_let first m a b) = gives_so_many n b
  gives_so_many n (code_solve m arms) = arms_give_so_many n arms
  gives_so_many n c = nat_eq n 1

  pub each_gives_one : CodeTrees → Bool
  each_gives_one no_codes = true
  each_gives_one (code_more c cs) = gives_so_many 1 c && each_gives_one cs

  pub arm_gives_so_many : ℕ → ArmTree → Bool
  arm_gives_so_many n (arm_of bounds is gs) = nat_eq n (count gs) && each_gives_one gs

  pub arms_give_so_many : ℕ → ArmTrees → Bool
  arms_give_so_many n no_arms = true
  arms_give_so_many n (arm_more a arms) = arm_gives_so_many n a && arms_give_so_many n arms

-- whether each let of an arm has one value
abbrev pub item_binds_one : ItemTree → Bool
item_binds_one (let_item c) = gives_so_many 1 c
item_binds_one (need_item c) = true

abbrev pub items_bind_one : ItemTrees → Bool
items_bind_one no_items = true
items_bind_one (item_more i is) = item_binds_one i && items_bind_one is

-- ---- ranges of more variables
abbrev pub with_wholes : List Range → ℕ → List Range
with_wholes rs zero = rs
with_wholes rs (suc n) = with_wholes (rs ++ whole ∷ []) n

-- behind so many values of a code
abbrev pub ranges_with : List Range → ℕ → CodeTree → List Range
ranges_with rs n c = if nat_eq n 1 then rs ++ range_of rs c ∷ [] else with_wholes rs n

-- behind an item, and behind items
abbrev pub ranges_behind : List Range → ItemTree → List Range
ranges_behind rs (let_item c) = rs ++ range_of rs c ∷ []
ranges_behind rs (need_item c) = rs

abbrev pub ranges_behind_all : List Range → ItemTrees → List Range
ranges_behind_all rs no_items = rs
ranges_behind_all rs (item_more i is) = ranges_behind_all (ranges_behind rs i) is

-- ---- how often a variable stands in a code
-- two numbers together, up to a greatest
abbrev pub up_to : ℕ → ℕ → ℕ → ℕ
up_to most a b = if nat_lt most (a + b) then most else a + b

abbrev pub is_var : ℕ → CodeTree → Bool
is_var x (code_var y) = nat_eq x y
is_var x c = false

abbrev mutual
  -- how often, up to 9; a variable that is given as it is counts as 9
  pub uses : ℕ → CodeTree → ℕ
  uses x (code_lit k) = 0
  uses x (code_truth t) = 0
  uses x (code_var y) = if nat_eq x y then 1 else 0
  uses x (code_set_of cs) = all_use x cs 0
  uses x (code_tuple cs) = gives_use x cs 0
  uses x (code_sum cs) = all_use x cs 0
  uses x (code_sub a b) = up_to 9 (uses x a) (uses x b)
  uses x (code_mul a b) = up_to 9 (uses x a) (uses x b)
  uses x (code_neg a) = uses x a
  uses x (code_div a k) = uses x a
  uses x (code_mod a k) = uses x a
  uses x (code_min cs) = all_use x cs 0
  uses x (code_max cs) = all_use x cs 0
  uses x (code_compare o a b) = up_to 9 (uses x a) (uses x b)
  uses x (code_divides k a) = uses x a
  uses x (code_and a b) = up_to 9 (uses x a) (uses x b)
  uses x (code_or a b) = up_to 9 (uses x a) (uses x b)
  uses x (code_not a) = uses x a
  uses x (code_union cs) = all_use x cs 0
  uses x (code_inter cs) = all_use x cs 0
  uses x (code_diff a b) = up_to 9 (uses x a) (uses x b)
  uses x (code_subset a b) = up_to 9 (uses x a) (uses x b)
  uses x (code_card a) = uses x a
  uses x (code_slice a b c) = up_to 9 (uses x a) (up_to 9 (uses x b) (uses x c))
  uses x (code_fresh a b) = up_to 9 (uses x a) (uses x b)
  uses x (code_if a b c) = up_to 9 (uses x a) (up_to 9 (uses x b) (uses x c))
  uses x (code_let first n a b) = up_to 9 (uses x a) (uses x b)
  uses x (code_solve n arms) = arms_use x arms 0

  -- so many before, and those of each code
  pub all_use : ℕ → CodeTrees → ℕ → ℕ
  all_use x no_codes n = n
  all_use x (code_more c cs) n = all_use x cs (up_to 9 n (uses x c))

  pub gives_use : ℕ → CodeTrees → ℕ → ℕ
  gives_use x no_codes n = n
  gives_use x (code_more c cs) n = gives_use x cs (up_to 9 n (if is_var x c then 9 else uses x c))

  pub item_uses : ℕ → ItemTree → ℕ
  item_uses x (let_item c) = uses x c
  item_uses x (need_item c) = uses x c

  pub items_use : ℕ → ItemTrees → ℕ → ℕ
  items_use x no_items n = n
  items_use x (item_more i is) n = items_use x is (up_to 9 n (item_uses x i))

  pub arm_uses : ℕ → ArmTree → ℕ
  arm_uses x (arm_of bounds is gs) = gives_use x gs (items_use x is 0)

  pub arms_use : ℕ → ArmTrees → ℕ → ℕ
  arms_use x no_arms n = n
  arms_use x (arm_more a arms) n = arms_use x arms (up_to 9 n (arm_uses x a))

abbrev pub give_uses : ℕ → CodeTree → ℕ
give_uses x c = if is_var x c then 9 else uses x c

-- ---- the empty set
abbrev pub empty : CodeTree
empty = code_set_of no_codes

abbrev pub are_none : CodeTrees → Bool
are_none no_codes = true
are_none (code_more c cs) = false

abbrev pub is_empty : CodeTree → Bool
is_empty (code_set_of cs) = are_none cs
is_empty c = false

-- ---- what may stand in the place of its variable
abbrev mutual
  -- a number form, a truth value or the empty set, over literals and variables of levels below n
  pub stands_anywhere : ℕ → CodeTree → Bool
  stands_anywhere n (code_lit k) = true
  stands_anywhere n (code_truth t) = true
  stands_anywhere n (code_var x) = nat_lt x n
  stands_anywhere n (code_set_of cs) = are_none cs
  stands_anywhere n (code_sum cs) = all_stand_anywhere n cs
  stands_anywhere n (code_sub a b) = stands_anywhere n a && stands_anywhere n b
  stands_anywhere n (code_mul a b) = stands_anywhere n a && stands_anywhere n b
  stands_anywhere n (code_neg a) = stands_anywhere n a
  stands_anywhere n (code_div a k) = stands_anywhere n a
  stands_anywhere n (code_mod a k) = stands_anywhere n a
  stands_anywhere n (code_min cs) = all_stand_anywhere n cs
  stands_anywhere n (code_max cs) = all_stand_anywhere n cs
  stands_anywhere n c = false

  pub all_stand_anywhere : ℕ → CodeTrees → Bool
  all_stand_anywhere n no_codes = true
  all_stand_anywhere n (code_more c cs) = stands_anywhere n c && all_stand_anywhere n cs

abbrev pub may_go : List Range → CodeTree → Bool
may_go rs v = is_total rs v && stands_anywhere (length rs) v

abbrev mutual
  -- how many nodes, up to 15
  pub weight : CodeTree → ℕ
  weight (code_lit k) = 1
  weight (code_truth t) = 1
  weight (code_var x) = 1
  weight (code_sum cs) = weights cs 1
  weight (code_sub a b) = up_to 15 1 (up_to 15 (weight a) (weight b))
  weight (code_mul a b) = up_to 15 1 (up_to 15 (weight a) (weight b))
  weight (code_neg a) = up_to 15 1 (weight a)
  weight (code_div a k) = up_to 15 1 (weight a)
  weight (code_mod a k) = up_to 15 1 (weight a)
  weight (code_min cs) = weights cs 1
  weight (code_max cs) = weights cs 1
  weight c = 15

  -- so many before, and those of each code
  pub weights : CodeTrees → ℕ → ℕ
  weights no_codes n = n
  weights (code_more c cs) n = weights cs (up_to 15 n (weight c))

abbrev pub is_any_var : CodeTree → Bool
is_any_var (code_var x) = true
is_any_var c = false

-- whether a value that is used so often reads better in its place
abbrev pub reads_well : ℕ → CodeTree → Bool
reads_well n (code_lit k) = true
reads_well n (code_truth t) = true
reads_well n (code_var x) = true
reads_well n (code_set_of cs) = are_none cs
reads_well n (code_neg a) = nat_lt n 2 && nat_lt (weight (code_neg a)) 15 || nat_lt n 9 && is_any_var a
reads_well n c = nat_lt n 2 && nat_lt (weight c) 15

abbrev pub goes : List Range → CodeTree → ℕ → Bool
goes rs v n = may_go rs v && reads_well n v

-- ---- a comparison that is decided
-- whether both are one variable
abbrev pub are_one : CodeTree → CodeTree → Bool
are_one (code_var x) b = is_var x b
are_one a b = false

-- what a comparison says of a value and itself
abbrev pub holds_of_itself : Order → Bool
holds_of_itself Eq = true
holds_of_itself Ne = false
holds_of_itself Lt = false
holds_of_itself Le = true
holds_of_itself Gt = false
holds_of_itself Ge = true

-- whether each number of the one range is less than each of the other, and whether none is
abbrev pub is_below : Range → Range → Bool
is_below r s = int_lt r.high s.low

abbrev pub is_nowhere_below : Range → Range → Bool
is_nowhere_below r s = not (int_lt r.low s.high)

-- whether a comparison holds of all numbers of two ranges
abbrev pub holds_always : Order → Range → Range → Bool
holds_always Eq r s = is_nowhere_below r s && is_nowhere_below s r
holds_always Ne r s = is_below r s || is_below s r
holds_always Lt r s = is_below r s
holds_always Le r s = is_nowhere_below s r
holds_always Gt r s = is_below s r
holds_always Ge r s = is_nowhere_below r s

-- the order that holds where this one does not
abbrev pub other_order : Order → Order
other_order Eq = Ne
other_order Ne = Eq
other_order Lt = Ge
other_order Le = Gt
other_order Gt = Le
other_order Ge = Lt

-- what two ranges tell of a comparison
abbrev pub told_by : Order → Range → Range → Option Bool
told_by o r s = if holds_always o r s then Some true else if holds_always (other_order o) r s then Some false else None

-- whether a code gives a number wherever it gives
abbrev pub gives_number : CodeTree → Bool
gives_number (code_lit k) = true
gives_number (code_sum cs) = true
gives_number (code_sub a b) = true
gives_number (code_mul a b) = true
gives_number (code_neg a) = true
gives_number (code_div a k) = true
gives_number (code_mod a k) = true
gives_number (code_min cs) = true
gives_number (code_max cs) = true
gives_number (code_card a) = true
gives_number c = false

-- == and != compare sets and truth values as well, of which ranges tell nothing
abbrev pub compares_numbers : Order → CodeTree → Bool
compares_numbers Eq a = gives_number a
compares_numbers Ne a = gives_number a
compares_numbers o a = true

-- what is known of a comparison of two codes that can be evaluated anywhere
abbrev pub known : List Range → Order → CodeTree → CodeTree → Option Bool
known rs o a b =
    if are_one a b then Some (holds_of_itself o) else if compares_numbers o a then told_by o (range_of rs a) (range_of rs b) else None

abbrev pub told : List Range → Order → CodeTree → CodeTree → Option Bool
told rs o a b = if is_total rs a && is_total rs b then known rs o a b else None

abbrev pub compared_as : Option Bool → Order → CodeTree → CodeTree → CodeTree
compared_as None o a b = code_compare o a b
compared_as (Some t) o a b = code_truth t

-- a comparison, decided where the two sides tell
abbrev pub comparison : List Range → Order → CodeTree → CodeTree → CodeTree
comparison rs o a b = compared_as (told rs o a b) o a b

-- ---- sets that are empty
-- no elements, and no fresh numbers, where the parts that go can be evaluated anywhere
abbrev pub slice_settled : List Range → CodeTree → CodeTree → CodeTree → CodeTree
slice_settled rs a b c = if is_zero c && is_total rs a && is_total rs b then empty else code_slice a b c

abbrev pub fresh_settled : List Range → CodeTree → CodeTree → CodeTree
fresh_settled rs a b = if is_zero b && is_total rs a then empty else code_fresh a b

-- the parts of a union but those that are the empty set
abbrev pub nonempty : CodeTrees → CodeTrees
nonempty no_codes = no_codes
nonempty (code_more c cs) = if is_empty c then nonempty cs else code_more c (nonempty cs)

-- whether a code gives a set wherever it gives
abbrev pub is_set_form : CodeTree → Bool
is_set_form (code_set_of cs) = true
is_set_form (code_union cs) = true
is_set_form (code_inter cs) = true
is_set_form (code_diff a b) = true
is_set_form (code_slice a b c) = true
is_set_form (code_fresh a b) = true
is_set_form c = false

-- a union of none is the empty set, and of one set form that form; another one stands with the empty set, since a union has two parts
abbrev pub union_of : CodeTrees → CodeTree
union_of no_codes = empty
union_of (code_more c no_codes) = if is_set_form c then c else code_union (code_more c (code_more empty no_codes))
union_of (code_more c (code_more d cs)) = code_union (code_more c (code_more d cs))

abbrev pub union_settled : CodeTrees → CodeTree
union_settled cs = union_of (nonempty cs)

-- ---- the code
-- what is left of an arm from some item on
pub record Rest : Type 0 where
  pub items : ItemTrees
  pub gives : CodeTrees

abbrev pub rest_of : ItemTrees → CodeTrees → Rest
rest_of is gs = record { items = is; gives = gs }

abbrev pub arm_with : List ℕ → Rest → ArmTree
arm_with bounds r = arm_of bounds r.items r.gives

abbrev pub rest_uses : ℕ → Rest → ℕ
rest_uses x r = gives_use x r.gives (items_use x r.items 0)

abbrev pub rest_put : ℕ → CodeTree → Rest → Rest
rest_put x v r = rest_of (items_put x v r.items) (all_put x v r.gives)

abbrev pub behind : ItemTree → Rest → Rest
behind i r = rest_of (item_more i r.items) r.gives

-- an item before those of an arm
abbrev pub item_before : ItemTree → ArmTree → ArmTree
item_before i (arm_of bounds is gs) = arm_of bounds (item_more i is) gs

-- a let before the rest, or its value in its place
abbrev pub let_behind : List Range → CodeTree → Rest → Rest
let_behind rs v r = if goes rs v (rest_uses (length rs) r) then rest_put (length rs) v r else behind (let_item v) r

abbrev pub let_settled : List Range → ℕ → ℕ → CodeTree → CodeTree → CodeTree
let_settled rs first n v b = if nat_eq n 1 && goes rs v (uses (length rs) b) then put (length rs) v b else code_let first n v b

-- items before what is given, from the last to the first
abbrev pub lets_dropped : List Range → ItemTrees → CodeTrees → Rest
lets_dropped rs no_items gs = rest_of no_items gs
lets_dropped rs (item_more (let_item v) is) gs = let_behind rs v (lets_dropped (rs ++ range_of rs v ∷ []) is gs)
lets_dropped rs (item_more (need_item c) is) gs = behind (need_item c) (lets_dropped rs is gs)

-- an arm with what is left of these items in the place of its own
abbrev pub items_dropped : List Range → ItemTrees → ArmTree → ArmTree
items_dropped rs is (arm_of bounds js gs) = arm_with bounds (lets_dropped rs is gs)

-- an arm without its items
abbrev pub bare : ArmTree → ArmTree
bare (arm_of bounds is gs) = arm_of bounds no_items gs

abbrev pub arm_dropped : List Range → ArmTree → ArmTree
arm_dropped rs (arm_of bounds is gs) =
    if items_bind_one is then arm_with bounds (lets_dropped (with_wholes rs (length bounds)) is gs) else arm_of bounds is gs

abbrev mutual
  pub settled : List Range → CodeTree → CodeTree
  settled rs (code_lit k) = code_lit k
  settled rs (code_truth t) = code_truth t
  settled rs (code_var x) = code_var x
  settled rs (code_set_of cs) = code_set_of (all_settled rs cs)
  settled rs (code_tuple cs) = code_tuple (all_settled rs cs)
  settled rs (code_sum cs) = code_sum (all_settled rs cs)
  settled rs (code_sub a b) = code_sub (settled rs a) (settled rs b)
  settled rs (code_mul a b) = code_mul (settled rs a) (settled rs b)
  settled rs (code_neg a) = code_neg (settled rs a)
  settled rs (code_div a k) = code_div (settled rs a) k
  settled rs (code_mod a k) = code_mod (settled rs a) k
  settled rs (code_min cs) = code_min (all_settled rs cs)
  settled rs (code_max cs) = code_max (all_settled rs cs)
  settled rs (code_compare o a b) = comparison rs o (settled rs a) (settled rs b)
  settled rs (code_divides k a) = code_divides k (settled rs a)
  settled rs (code_and a b) = code_and (settled rs a) (settled rs b)
  settled rs (code_or a b) = code_or (settled rs a) (settled rs b)
  settled rs (code_not a) = code_not (settled rs a)
  settled rs (code_union cs) = union_settled (all_settled rs cs)
  settled rs (code_inter cs) = code_inter (all_settled rs cs)
  settled rs (code_diff a b) = code_diff (settled rs a) (settled rs b)
  settled rs (code_subset a b) = code_subset (settled rs a) (settled rs b)
  settled rs (code_card a) = code_card (settled rs a)
  settled rs (code_slice a b c) = slice_settled rs (settled rs a) (settled rs b) (settled rs c)
  settled rs (code_fresh a b) = fresh_settled rs (settled rs a) (settled rs b)
  settled rs (code_if a b c) = code_if (settled rs a) (settled rs b) (settled rs c)
  settled rs (code_let first n a b) =
      let_settled rs first n (settled rs a) (if gives_so_many n a then settled (ranges_with rs n a) b else b)
  settled rs (code_solve n arms) = code_solve n (arms_settled rs arms)

  pub all_settled : List Range → CodeTrees → CodeTrees
  all_settled rs no_codes = no_codes
  all_settled rs (code_more c cs) = code_more (settled rs c) (all_settled rs cs)

  pub item_settled : List Range → ItemTree → ItemTree
  item_settled rs (let_item c) = let_item (settled rs c)
  item_settled rs (need_item c) = need_item (settled rs c)

  pub items_settled : List Range → ItemTrees → ItemTrees
  items_settled rs no_items = no_items
  items_settled rs (item_more i is) = item_more (item_settled rs i) (items_settled (ranges_behind rs i) is)

  -- each item and each give, where each let has one value
  pub arm_each : List Range → ArmTree → ArmTree
  arm_each rs (arm_of bounds is gs) =
      if items_bind_one is
      then arm_of bounds (items_settled (with_wholes rs (length bounds)) is) (all_settled (ranges_behind_all (with_wholes rs (length bounds)) is) gs)
      else arm_of bounds is gs

  pub arms_settled : List Range → ArmTrees → ArmTrees
  arms_settled rs no_arms = no_arms
  arms_settled rs (arm_more a arms) = arm_more (arm_dropped rs (arm_each rs a)) (arms_settled rs arms)

abbrev pub arm_settled : List Range → ArmTree → ArmTree
arm_settled rs a = arm_dropped rs (arm_each rs a)
