-- Items in a vector, without those that always hold.
use Rattle.std.proofs.Common.{◌≡◌, ℕ, suc, ◌+◌, Bool, true, false, not, cond, List, [], ◌∷◌, length, filter, refl, ap, arith}
use Rattle.cf_tree.specs.declared.code.Item.{Item}
use Rattle.cf_tree.specs.CodeTree.{ItemTrees, item_more}
use Rattle.cf_tree.specs.CodeView.{item_tree, item_trees}
use Rattle.cf_pass.specs.DropNeeds.{always_holds, other_items, needs_in}

abbrev pub stays : Item → Bool
stays i = not (always_holds (item_tree i))

one_kept : (t : Bool) (x : Item) (xs : List Item) (js : ItemTrees) → item_trees xs ≡ js →
    item_trees (cond (not t) (x ∷ xs) xs) ≡ cond t js (item_more (item_tree x) js)
one_kept true x xs js e = e
one_kept false x xs js e = ap (λ ks. item_more (item_tree x) ks) e

pub others : (xs : List Item) → item_trees (filter stays xs) ≡ other_items (item_trees xs)
others [] = refl
others (x ∷ xs) = one_kept (always_holds (item_tree x)) x (filter stays xs) (other_items (item_trees xs)) (others xs)

one_counted : (t : Bool) (x : Item) (xs : List Item) (m n : ℕ) → m + length xs ≡ n → cond t (suc m) m + length (cond (not t) (x ∷ xs) xs) ≡ suc n
one_counted true x xs m n e = omega arith
one_counted false x xs m n e = omega arith

pub counted : (xs : List Item) → needs_in (item_trees xs) + length (filter stays xs) ≡ length xs
counted [] = refl
counted (x ∷ xs) = one_counted (always_holds (item_tree x)) x (filter stays xs) (needs_in (item_trees xs)) (length xs) (counted xs)
