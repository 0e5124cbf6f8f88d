-- What changes in place, one element after the other.
use Rattle.std.proofs.Common.{◌≡◌, ℕ, List, [], ◌∷◌, ◌++◌, length, take, drop, refl, ap, arith}
use Rattle.cf_tree.specs.CodeTree.{ItemTree, let_item, need_item, ItemTrees, no_items, item_more}
use Rattle.cf_pass.specs.Parts.{ItemImproves, behind_item, ItemsImprove}
use Rattle.cf_pass.proofs.Forms.{improves_self}

-- ---- items
pub item_self : (n : ℕ) (i : ItemTree) → ItemImproves n i i
item_self n (let_item c) = improves_self n c
item_self n (need_item c) = improves_self n c

pub items_self : (n : ℕ) (is : ItemTrees) → ItemsImprove n is is
items_self n no_items = tt
items_self n (item_more i is) = (item_self n i, items_self (behind_item i n) is)

-- ---- a vector whose elements were changed in place
pub all_taken : {A : Type 0} (xs ys : List A) → length xs ≡ length ys → take (length ys) (xs ++ drop (length xs) ys) ≡ xs
all_taken [] [] e = refl
all_taken [] (y ∷ ys) e = absurd (omega arith)
all_taken (x ∷ xs) [] e = absurd (omega arith)
all_taken (x ∷ xs) (y ∷ ys) e = ap (λ zs. x ∷ zs) (all_taken xs ys (omega arith))
