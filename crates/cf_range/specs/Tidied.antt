-- What tidying makes of a code: each form by its row, parts first.
use Rattle.std.specs.Prelude.{ℕ, ℤ, ◌+◌, ◌+ℤ◌, nat_eq, pos, negsuc, neg_ℤ, Bool, true, false, not, ◌&&◌, Option, Some, None, length, if◌then◌else◌}
use Rattle.std.specs.Ordering.{int_eq}
use Rattle.cf_num.specs.Limit.{within}
use Rattle.cf_range.specs.Ranges.{passes}
use Rattle.cf_tree.specs.CodeTree.{CodeTree, code_lit, code_truth, code_var, code_set_of, code_tuple, code_sum, code_sub, code_mul, code_neg, code_div, code_mod, code_min, code_max, code_compare, code_divides, code_and, code_or, code_not, code_union, code_inter, code_diff, code_subset, code_card, code_slice, code_fresh, code_if, code_let, code_solve, CodeTrees, no_codes, code_more, ItemTree, let_item, need_item, ItemTrees, no_items, item_more, ArmTree, arm_of, ArmTrees, no_arms, arm_more}

abbrev pub is_minus_one : CodeTree → Bool
is_minus_one (code_lit k) = int_eq k (negsuc 0)
is_minus_one c = false

-- a number by itself, as the least of it alone, since a sum has two parts
abbrev pub alone : CodeTree → CodeTree
alone c = code_min (code_more c no_codes)

-- -(-b) as b, and the numeral of a negated one
abbrev pub negation : CodeTree → CodeTree
negation (code_neg b) = alone b
negation (code_lit k) = if passes k then code_neg (code_lit k) else code_lit (neg_ℤ k)
negation c = code_neg c

abbrev pub is_zero : CodeTree → Bool
is_zero (code_lit k) = int_eq k (pos 0)
is_zero c = false

-- the numeral of the other sign
abbrev pub opposite : CodeTree → Option ℤ
opposite (code_lit k) = if passes k then None else Some (neg_ℤ k)
opposite c = None

-- k * -b as -k * b, and k * 0 as 0
abbrev pub times : CodeTree → Option ℤ → CodeTree → CodeTree
times a None b = code_mul a b
times a (Some k) (code_neg b) = code_mul (code_lit k) b
times a (Some k) b = if is_zero b then b else code_mul a b

-- -1 * b as -b
abbrev pub product : CodeTree → CodeTree → CodeTree
product a b = if is_minus_one a then negation b else times a (opposite a) b

-- the parts of a sum but those that are 0
abbrev pub nonzero : CodeTrees → CodeTrees
nonzero no_codes = no_codes
nonzero (code_more c cs) = if is_zero c then nonzero cs else code_more c (nonzero cs)

-- what numerals come to behind z, where there are no other parts and nothing on the way is past the limit
abbrev pub plus_numeral : ℤ → CodeTree → Option ℤ
plus_numeral z (code_lit k) = if passes k then None else within (z +ℤ k)
plus_numeral z c = None

abbrev pub numerals_sum : Option ℤ → CodeTrees → Option ℤ
numerals_sum None cs = None
numerals_sum (Some z) no_codes = Some z
numerals_sum (Some z) (code_more c cs) = numerals_sum (plus_numeral z c) cs

abbrev pub numeral_or : Option ℤ → CodeTrees → CodeTree
numeral_or None cs = code_sum cs
numeral_or (Some z) cs = code_lit z

-- a sum of numerals alone is one
abbrev pub sum_of_more : CodeTrees → CodeTree
sum_of_more cs = numeral_or (numerals_sum (Some (pos 0)) cs) cs

-- a sum of none is 0, and of one part that part
abbrev pub sum_of : CodeTrees → CodeTree
sum_of no_codes = code_lit (pos 0)
sum_of (code_more c no_codes) = alone c
sum_of (code_more c (code_more d cs)) = sum_of_more (code_more c (code_more d cs))

-- the item is `need true`
abbrev pub always_holds : ItemTree → Bool
always_holds (need_item (code_truth t)) = t
always_holds i = false

-- a need that is true goes
abbrev pub other_items : ItemTrees → ItemTrees
other_items no_items = no_items
other_items (item_more i is) = if always_holds i then other_items is else item_more i (other_items is)

-- whether an arm gives wherever it is reached
abbrev pub is_need : ItemTree → Bool
is_need (let_item c) = false
is_need (need_item c) = true

abbrev pub needs_nothing : ItemTrees → Bool
needs_nothing no_items = true
needs_nothing (item_more i is) = not (is_need i) && needs_nothing is

abbrev pub always_gives : ArmTree → Bool
always_gives (arm_of bounds is gs) = nat_eq (length bounds) 0 && needs_nothing is

-- an arm that is left at once: it has no searches, and its first item is `need false`
abbrev pub never_holds : ItemTree → Bool
never_holds (need_item (code_truth t)) = not t
never_holds i = false

abbrev pub begins_false : ItemTrees → Bool
begins_false no_items = false
begins_false (item_more i is) = never_holds i

abbrev pub is_left : ArmTree → Bool
is_left (arm_of bounds is gs) = nat_eq (length bounds) 0 && begins_false is

abbrev pub are_left : ArmTrees → Bool
are_left no_arms = true
are_left (arm_more a arms) = is_left a && are_left arms

-- it goes, where there is another
abbrev pub other_arms : ArmTrees → ArmTrees
other_arms no_arms = no_arms
other_arms (arm_more a arms) = if is_left a then other_arms arms else arm_more a (other_arms arms)

abbrev pub entered : ArmTrees → ArmTrees
entered arms = if are_left arms then arms else other_arms arms

-- how many arms may be reached, and these: what stands behind one that always gives goes
abbrev pub count_reached : ArmTrees → ℕ
count_reached no_arms = 0
count_reached (arm_more a arms) = if always_gives a then 1 else 1 + count_reached arms

abbrev pub reached : ArmTrees → ArmTrees
reached no_arms = no_arms
reached (arm_more a arms) = arm_more a (if always_gives a then no_arms else reached arms)

abbrev mutual
  pub tidied : CodeTree → CodeTree
  tidied (code_lit k) = code_lit k
  tidied (code_truth t) = code_truth t
  tidied (code_var x) = code_var x
  tidied (code_set_of cs) = code_set_of (all_tidied cs)
  tidied (code_tuple cs) = code_tuple (all_tidied cs)
  tidied (code_sum cs) = sum_of (nonzero (all_tidied cs))
  tidied (code_sub a b) = code_sub (tidied a) (tidied b)
  tidied (code_mul a b) = product (tidied a) (tidied b)
  tidied (code_neg a) = negation (tidied a)
  tidied (code_div a k) = code_div (tidied a) k
  tidied (code_mod a k) = code_mod (tidied a) k
  tidied (code_min cs) = code_min (all_tidied cs)
  tidied (code_max cs) = code_max (all_tidied cs)
  tidied (code_compare o a b) = code_compare o (tidied a) (tidied b)
  tidied (code_divides k a) = code_divides k (tidied a)
  tidied (code_and a b) = code_and (tidied a) (tidied b)
  tidied (code_or a b) = code_or (tidied a) (tidied b)
  tidied (code_not a) = code_not (tidied a)
  tidied (code_union cs) = code_union (all_tidied cs)
  tidied (code_inter cs) = code_inter (all_tidied cs)
  tidied (code_diff a b) = code_diff (tidied a) (tidied b)
  tidied (code_subset a b) = code_subset (tidied a) (tidied b)
  tidied (code_card a) = code_card (tidied a)
  tidied (code_slice a b c) = code_slice (tidied a) (tidied b) (tidied c)
  tidied (code_fresh a b) = code_fresh (tidied a) (tidied b)
  tidied (code_if a b c) = code_if (tidied a) (tidied b) (tidied c)
  tidied (code_let first count a b) = code_let first count (tidied a) (tidied b)
  tidied (code_solve n arms) = code_solve n (reached (entered (arms_tidied arms)))

  pub all_tidied : CodeTrees → CodeTrees
  all_tidied no_codes = no_codes
  all_tidied (code_more c cs) = code_more (tidied c) (all_tidied cs)

  pub item_tidied : ItemTree → ItemTree
  item_tidied (let_item c) = let_item (tidied c)
  item_tidied (need_item c) = need_item (tidied c)

  pub items_tidied : ItemTrees → ItemTrees
  items_tidied no_items = no_items
  items_tidied (item_more i is) = item_more (item_tidied i) (items_tidied is)

  pub arm_tidied : ArmTree → ArmTree
  arm_tidied (arm_of bounds is gs) = arm_of bounds (other_items (items_tidied is)) (all_tidied gs)

  pub arms_tidied : ArmTrees → ArmTrees
  arms_tidied no_arms = no_arms
  arms_tidied (arm_more a arms) = arm_more (arm_tidied a) (arms_tidied arms)
