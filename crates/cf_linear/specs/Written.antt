-- The rows of number forms, with the guard rows of the forms `div`, `mod` and `abs` in them.
use Rattle.std.specs.Prelude.{◌≡◌, ℕ, ◌+◌, ℤ, pos, negsuc, neg_ℤ, ◌+ℤ◌, ◌-ℤ◌, ◌*ℤ◌, ◌≤ℤ◌, Bool, true, false, ◌||◌, IsTrue, List, [], ◌∷◌, ◌++◌}
use Rattle.cf_tree.specs.Numbers.{quotient, remainder, absolute}
use Rattle.cf_tree.specs.RelTree.{SetTree, empty_set, set_var, union_of, inter_of, diff_of, TermTree, term_lit, term_var, term_card, term_neg, term_add, term_sub, term_mul, term_div, term_mod, term_abs}
use Rattle.cf_tree.specs.Relation.{is_fixed, IsDivisor}
use Rattle.cf_num.specs.Limit.{IsWithin}
use Rattle.cf_linear.specs.Rows.{Row, Values, entry, value, put, comb, row_passes}
use Rattle.cf_linear.specs.Layout.{Layout, has_level, number_column, region_row, covers}

-- the value of a number form at these values of the columns, with the counts of the regions in the place of `card`
abbrev pub val_at : Layout → Values → TermTree → ℤ
val_at l v (term_lit n) = n
val_at l v (term_var x) = v (number_column l x)
val_at l v (term_card s) = value v (region_row l (covers l s))
val_at l v (term_neg a) = neg_ℤ (val_at l v a)
val_at l v (term_add a b) = val_at l v a +ℤ val_at l v b
val_at l v (term_sub a b) = val_at l v a -ℤ val_at l v b
val_at l v (term_mul a b) = val_at l v a *ℤ val_at l v b
val_at l v (term_div a k) = quotient (val_at l v a) k
val_at l v (term_mod a k) = remainder (val_at l v a) k
val_at l v (term_abs a) = absolute (val_at l v a)

-- a row that is to be at least 0, or a column that is to hold the quotient of a row by k
pub data GuardTree : Type 0 where
  sign_guard : Row → GuardTree
  quotient_guard : ℕ → Row → ℤ → GuardTree

abbrev pub GuardHolds : Values → GuardTree → Type 0
GuardHolds v (sign_guard r) = pos 0 ≤ℤ value v r
GuardHolds v (quotient_guard c r k) = v c ≡ quotient (value v r) k

abbrev pub GuardsHold : Values → List GuardTree → Type 0
GuardsHold v [] = Unit {0}
GuardsHold v (g ∷ gs) = GuardHolds v g × GuardsHold v gs

-- a row of the constant alone
abbrev pub constant_row : ℤ → Row
constant_row n = put 0 n []

-- the row with n more at the constant
abbrev pub plus : Row → ℤ → Row
plus r n = comb (pos 1) r (pos 1) (constant_row n)

-- r - k * c and k * c + k - 1 - r: both are at least 0 exactly where column c holds the quotient of r by k
abbrev pub above_quotient : ℕ → Row → ℤ → Row
above_quotient c r k = comb (pos 1) r (neg_ℤ k) (put c (pos 1) [])

abbrev pub below_quotient : ℕ → Row → ℤ → Row
below_quotient c r k = plus (comb (negsuc 0) r k (put c (pos 1) [])) (k -ℤ pos 1)

-- the guard rows of a guard
abbrev pub guard_rows : GuardTree → List Row
guard_rows (sign_guard r) = r ∷ []
guard_rows (quotient_guard c r k) = above_quotient c r k ∷ below_quotient c r k ∷ []

-- a form's row, the guards of its parts in order, the next free column, the signs that are left, and whether an entry of the row of a part or of a guard row passes the limit
pub record WrittenTree : Type 0 where
  pub row : Row
  pub guards : List GuardTree
  pub next : ℕ
  pub signs : List Bool
  pub passes : Bool

abbrev pub first_sign : List Bool → Bool
first_sign [] = false
first_sign (b ∷ bs) = b

abbrev pub other_signs : List Bool → List Bool
other_signs [] = []
other_signs (b ∷ bs) = bs

-- a form with no part of its own
abbrev pub alone : Row → List Bool → ℕ → WrittenTree
alone r signs next = record { row = r; guards = []; next = next; signs = signs; passes = row_passes r }

-- a form made of one written part
abbrev pub from_one : WrittenTree → Row → WrittenTree
from_one w r = record { row = r; guards = w.guards; next = w.next; signs = w.signs; passes = w.passes || row_passes r }

-- a form made of two, the second written after the first
abbrev pub from_two : WrittenTree → WrittenTree → Row → WrittenTree
from_two w u r = record { row = r; guards = w.guards ++ u.guards; next = u.next; signs = u.signs; passes = w.passes || u.passes || row_passes r }

-- a quotient of w by k in the next column, and the form's row made of the column
abbrev pub with_quotient : WrittenTree → ℤ → Row → WrittenTree
with_quotient w k r = record {
  row = r;
  guards = w.guards ++ (quotient_guard w.next w.row k ∷ []);
  next = w.next + 1;
  signs = w.signs;
  passes = w.passes || row_passes (above_quotient w.next w.row k) || row_passes (below_quotient w.next w.row k);
}

-- w with a sign, true being minus
abbrev pub signed_by : Bool → WrittenTree → WrittenTree
signed_by true w = record {
  row = comb (negsuc 0) w.row (pos 0) [];
  guards = w.guards ++ (sign_guard (plus (comb (negsuc 0) w.row (pos 0) []) (negsuc 0)) ∷ []);
  next = w.next;
  signs = other_signs w.signs;
  passes = w.passes || row_passes (plus (comb (negsuc 0) w.row (pos 0) []) (negsuc 0));
}
signed_by false w = record { row = w.row; guards = w.guards ++ (sign_guard w.row ∷ []); next = w.next; signs = other_signs w.signs; passes = w.passes }

abbrev pub with_sign : WrittenTree → WrittenTree
with_sign w = signed_by (first_sign w.signs) w

-- the product of two rows, of which the first is of the constant alone, where `first` is true, or else the second
abbrev pub product_by : Bool → Row → Row → Row
product_by true r s = comb (entry r 0) s (pos 0) []
product_by false r s = comb (entry s 0) r (pos 0) []

abbrev pub write_mod : WrittenTree → ℤ → WrittenTree
write_mod w k = with_quotient w k (above_quotient w.next w.row k)

-- the row of a number form; an inner part is written before the outer one, from left to right
abbrev pub write : Layout → TermTree → List Bool → ℕ → WrittenTree
write l (term_lit n) signs next = alone (constant_row n) signs next
write l (term_var x) signs next = alone (put (number_column l x) (pos 1) []) signs next
write l (term_card s) signs next = alone (region_row l (covers l s)) signs next
write l (term_neg a) signs next = let w = write l a signs next in from_one w (comb (negsuc 0) w.row (pos 0) [])
write l (term_add a b) signs next =
    let w = write l a signs next in let u = write l b w.signs w.next in from_two w u (comb (pos 1) w.row (pos 1) u.row)
write l (term_sub a b) signs next =
    let w = write l a signs next in let u = write l b w.signs w.next in from_two w u (comb (pos 1) w.row (negsuc 0) u.row)
write l (term_mul a b) signs next =
    let w = write l a signs next in let u = write l b w.signs w.next in from_two w u (product_by (is_fixed a) w.row u.row)
write l (term_div a k) signs next = let w = write l a signs next in with_quotient w k (put w.next (pos 1) [])
write l (term_mod a k) signs next = let w = write l a signs next in write_mod w k
write l (term_abs a) signs next = with_sign (write l a signs next)

-- how many forms `abs` a number form holds
abbrev pub abs_count : TermTree → ℕ
abs_count (term_lit n) = 0
abs_count (term_var x) = 0
abs_count (term_card s) = 0
abs_count (term_neg a) = abs_count a
abs_count (term_add a b) = abs_count a + abs_count b
abs_count (term_sub a b) = abs_count a + abs_count b
abs_count (term_mul a b) = abs_count a + abs_count b
abs_count (term_div a k) = abs_count a
abs_count (term_mod a k) = abs_count a
abs_count (term_abs a) = abs_count a + 1

-- how many forms `div` and `mod` it holds
abbrev pub quotient_count : TermTree → ℕ
quotient_count (term_lit n) = 0
quotient_count (term_var x) = 0
quotient_count (term_card s) = 0
quotient_count (term_neg a) = quotient_count a
quotient_count (term_add a b) = quotient_count a + quotient_count b
quotient_count (term_sub a b) = quotient_count a + quotient_count b
quotient_count (term_mul a b) = quotient_count a + quotient_count b
quotient_count (term_div a k) = quotient_count a + 1
quotient_count (term_mod a k) = quotient_count a + 1
quotient_count (term_abs a) = quotient_count a

-- each variable of a set form is a set of the layout
abbrev pub IsPlacedSet : Layout → SetTree → Type 0
IsPlacedSet l empty_set = Unit {0}
IsPlacedSet l (set_var x) = IsTrue (has_level l.inputs x || has_level l.out_sets x)
IsPlacedSet l (union_of a b) = IsPlacedSet l a × IsPlacedSet l b
IsPlacedSet l (inter_of a b) = IsPlacedSet l a × IsPlacedSet l b
IsPlacedSet l (diff_of a b) = IsPlacedSet l a × IsPlacedSet l b

-- each variable of a number form is in the layout with its base, and each number is within the limit
abbrev pub IsPlaced : Layout → TermTree → Type 0
IsPlaced l (term_lit n) = IsWithin n
IsPlaced l (term_var x) = IsTrue (has_level l.numbers x || has_level l.out_numbers x)
IsPlaced l (term_card s) = IsPlacedSet l s
IsPlaced l (term_neg a) = IsPlaced l a
IsPlaced l (term_add a b) = IsPlaced l a × IsPlaced l b
IsPlaced l (term_sub a b) = IsPlaced l a × IsPlaced l b
IsPlaced l (term_mul a b) = IsPlaced l a × IsPlaced l b
IsPlaced l (term_div a k) = IsPlaced l a × IsDivisor k
IsPlaced l (term_mod a k) = IsPlaced l a × IsDivisor k
IsPlaced l (term_abs a) = IsPlaced l a
